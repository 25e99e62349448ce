-- Edges that lead from point to point are hops that lead so far, up to the first edge without a name.
use Rattle.std.proofs.Common.{◌≡◌, ◌⊎◌, inl, inr, ℕ, suc, List, [], ◌∷◌, ◌++◌, refl, sym, ◌∙◌, ap, subst, arith, All, Option, Some, None}
use Rattle.std.specs.Prelude.{ℤ, pos, ◌+ℤ◌}
use Rattle.std.proofs.lemmas.Int.{ints}
use Rattle.std.proofs.lemmas.List.Elements.{All-nil, All-cons, All-head, All-tail}
use Rattle.tp_base.specs.declared.edges.Edge.{Edge}
use Rattle.tp_base.specs.Refute.{Leads, total_weight}
use Rattle.tp_bounds.specs.declared.hops.Hop.{Hop as TreeHop}
use Rattle.tp_machine.specs.declared.machine.Machine.{Machine}
use Rattle.tp_schedule.specs.Spots.{Spot}
use Rattle.tp_schedule.specs.declared.parts.Ask.{Ask}
use Rattle.tp_schedule.specs.declared.parts.Plan.{Plan}
use Rattle.tp_constraints.specs.Gaps.{Gap, gap}
use Rattle.tp_placing.specs.Causes.{numbered}
use Rattle.tp_placing.specs.declared.causes.EdgeCause.{EdgeCause}
use Rattle.tp_bound_laws.specs.Chains.{Led, follow, gap_of, led_on}
use Rattle.tp_bound_laws.specs.Chains.Led.{led}
use Rattle.tp_bound_laws.specs.Places.{Stand}
use Rattle.tp_bound_make.specs.TellableReasons.{IsTold, tell, told_then, told_until}

module _ (machine : Machine) (plans : List Plan) (ask : Ask) (limit : ℤ) (s : Stand) (causes : List EdgeCause) where
  -- the name of the edge is allowed there, and says the same
  abbrev pub IsAllowed : Edge → Type 0
  IsAllowed e = (k : TreeHop) → tell machine plans causes e ≡ Some k → gap_of machine plans ask limit s (numbered plans e.from.0) k ≡ Some (gap (numbered plans e.from.0) (numbered plans e.to.0) e.weight)

  abbrev f : Edge → Option TreeHop
  f = tell machine plans causes

  abbrev go_on : ℕ → Spot → ℤ → List TreeHop → Led
  go_on k p sum hops = follow machine plans ask limit s k p sum hops

  -- all edges are named, and lead to the last point
  pub record IsWhole (a b : ℕ) (es : List Edge) : Type 0 where
    pub all : All (IsTold f) es
    pub leads : (k : ℕ) (sum : ℤ) → go_on k (numbered plans a) sum (told_until f es) ≡ led (numbered plans b) (sum +ℤ total_weight es)

  -- the edges up to one without a name lead to where it begins
  pub record IsCut (a b : ℕ) (es : List Edge) : Type 0 where
    pub before : List Edge
    pub edge : Edge
    pub behind : List Edge
    pub parts : es ≡ before ++ edge ∷ behind
    pub untold : f edge ≡ None
    pub all : All (IsTold f) before
    pub first : Leads a before edge.from.0
    pub leads : (k : ℕ) (sum : ℤ) → go_on k (numbered plans a) sum (told_until f es) ≡ led (numbered plans edge.from.0) (sum +ℤ total_weight before)
    pub rest : Leads edge.to.0 behind b
    pub total : total_weight es ≡ total_weight before +ℤ (edge.weight +ℤ total_weight behind)

  pub walked : (es : List Edge) (a b : ℕ) → All IsAllowed es → Leads a es b → IsWhole a b es ⊎ IsCut a b es
  walked [] a b allowed at = inl (record {
    all = All-nil (IsTold f);
    leads = λ k sum. let none : sum +ℤ pos 0 ≡ sum = omega (arith, ints) in subst (λ q. led (numbered plans a) sum ≡ led (numbered plans q) (sum +ℤ pos 0)) at (ap (λ z. led (numbered plans a) z) (sym none));
  })
  walked (e ∷ es) a b allowed at = go (f e) refl (walked es e.to.0 b (All-tail IsAllowed e es allowed) at.1) where
    go : (o : Option TreeHop) → f e ≡ o → IsWhole e.to.0 b es ⊎ IsCut e.to.0 b es → IsWhole a b (e ∷ es) ⊎ IsCut a b (e ∷ es)
    go None u rest = inr (record {
      before = [];
      edge = e;
      behind = es;
      parts = refl;
      untold = u;
      all = All-nil (IsTold f);
      first = sym at.0;
      leads = λ k sum. let none : sum +ℤ pos 0 ≡ sum = omega (arith, ints) in
          ap (λ o. go_on k (numbered plans a) sum (told_then o (told_until f es))) u ∙ ap (λ q. led (numbered plans q) sum) (sym at.0) ∙ ap (λ z. led (numbered plans e.from.0) z) (sym none);
      rest = at.1;
      total = omega (arith, ints);
    })
    go (Some h) u rest = elim rest [
      | inl w ↦ inl (record {
        all = All-cons (IsTold f) e es (h, u) w.all;
        leads = λ k sum. let more : (sum +ℤ e.weight) +ℤ total_weight es ≡ sum +ℤ (e.weight +ℤ total_weight es) = omega (arith, ints) in
            hop k sum ∙ w.leads (suc k) (sum +ℤ e.weight) ∙ ap (λ z. led (numbered plans b) z) more;
      })
      | inr c ↦ inr (record {
        before = e ∷ c.before;
        edge = c.edge;
        behind = c.behind;
        parts = ap (λ xs. e ∷ xs) c.parts;
        untold = c.untold;
        all = All-cons (IsTold f) e c.before (h, u) c.all;
        first = (at.0, c.first);
        leads = λ k sum. let more : (sum +ℤ e.weight) +ℤ total_weight c.before ≡ sum +ℤ (e.weight +ℤ total_weight c.before) = omega (arith, ints) in
            hop k sum ∙ c.leads (suc k) (sum +ℤ e.weight) ∙ ap (λ z. led (numbered plans c.edge.from.0) z) more;
        rest = c.rest;
        total = let t = c.total in omega (arith, ints);
      })
    ] where
      hop : (k : ℕ) (sum : ℤ) → go_on k (numbered plans a) sum (told_until f (e ∷ es)) ≡ go_on (suc k) (numbered plans e.to.0) (sum +ℤ e.weight) (told_until f es)
      hop k sum =
          let next = λ (g : Gap). go_on (suc k) g.to (sum +ℤ g.weight) (told_until f es) in
          ap (λ o. go_on k (numbered plans a) sum (told_then o (told_until f es))) u ∙ ap (λ q. led_on k next (gap_of machine plans ask limit s (numbered plans q) h)) (sym at.0)
          ∙ ap (led_on k next) (All-head IsAllowed e es allowed h u)
