-- The ways of a branch, one after another: what is due from one on.
use Rattle.std.proofs.Common.{◌≡◌, ℕ, zero, suc, ◌+◌, ◌-◌, ◌<◌, Bool, true, false, cond, List, [], ◌++◌, length, refl, sym, ◌∙◌, ap, subst, add-one, arith, append_assoc, Option, Some, None}
use Rattle.std.specs.Prelude.{pos, nat_le, nat_lt}
use Rattle.std.proofs.lemmas.Bool.Decides.{nat_tests}
use Rattle.std.proofs.lemmas.List.{append-nil}
use Rattle.tp_base.specs.Readings.{Reading}
use Rattle.tp_bounds.specs.declared.tree.Node.{Node}
use Rattle.tp_bounds.specs.declared.tree.TreeRow.{TreeRow}
use Rattle.tp_machine.specs.declared.parts.HoldRule.{HoldRule}
use Rattle.tp_machine.specs.declared.machine.Machine.{Machine}
use Rattle.tp_schedule.specs.Answers.{kept_of}
use Rattle.tp_schedule.specs.declared.parts.Ask.{Ask}
use Rattle.tp_schedule.specs.declared.parts.Plan.{Plan}
use Rattle.tp_constraints.specs.Suffixes.{Suffix, order_in}
use Rattle.tp_placing.specs.Boards.{BoardValue}
use Rattle.tp_bound_laws.specs.Places as places
use Rattle.tp_bound_laws.specs.Places.{Due, action_due, actions_below, actions_due, places_from, stop_due}
use Rattle.tp_bound_laws.proofs.AllowedHops.{lt-to}
use Rattle.tp_bound_make.specs.TreeProgress.{Adds, IsEntered, Shows, acts_from, branch_by, kids_of, left_of, ways_of}
use Rattle.tp_bound_make.specs.declared.scene.ShowBranch.{ShowBranch}
use Rattle.tp_bound_make.proofs.AddFacts.{adds-behind}

module _ (machine : Machine) (plans : List Plan) (ask : Ask) (rows : List TreeRow) where
  acts-last : (b : places.Branch) (at n : ℕ) → acts_from machine plans ask rows b at (suc n) ≡ acts_from machine plans ask rows b at n ++ action_due machine plans ask rows b (record { 0 = n + at })
  acts-last b at zero = let same : at ≡ 0 + at = omega arith in append-nil (action_due machine plans ask rows b (record { 0 = at })) ∙ ap (λ k. action_due machine plans ask rows b (record { 0 = k })) same
  acts-last b at (suc n) =
      let next : n + suc at ≡ suc n + at = omega arith in
      let first = action_due machine plans ask rows b (record { 0 = at }) in
      ap (λ ds. first ++ ds) (acts-last b (suc at) n ∙ ap (λ k. acts_from machine plans ask rows b (suc at) n ++ action_due machine plans ask rows b (record { 0 = k })) next)
      ∙ sym (append_assoc first (acts_from machine plans ask rows b (suc at) n) (action_due machine plans ask rows b (record { 0 = suc n + at })))

  -- the actions below a number are those from 0 on
  pub acts-below : (b : places.Branch) (n : ℕ) → actions_below machine plans ask rows b n ≡ acts_from machine plans ask rows b 0 n
  acts-below b zero = refl
  acts-below b (suc n) =
      let none : n ≡ n + 0 = omega arith in
      ap (λ ds. ds ++ action_due machine plans ask rows b (record { 0 = n })) (acts-below b n) ∙ ap (λ k. acts_from machine plans ask rows b 0 n ++ action_due machine plans ask rows b (record { 0 = k })) none ∙ sym (acts-last b 0 n)

  beyond : (n : ℕ) → nat_le (suc n) n ≡ false
  beyond n = grind (arith, nat_tests)

  -- behind the last way nothing is due
  pub none-left : (b : places.Branch) (o : Option HoldRule) → left_of machine plans ask rows b o (ways_of machine plans ask b.x o) ≡ []
  none-left b (Some rule) = let t = beyond (length (order_in machine plans b.x rule.resource.0)) in rw t refl
  none-left b None = go (nat_lt (kept_of ask + length b.x.choices) 64) refl where
    go : (t : Bool) → nat_lt (kept_of ask + length b.x.choices) 64 ≡ t → left_of machine plans ask rows b None (cond t (suc (length machine.actions)) 1) ≡ []
    go true e = let z : length machine.actions - length machine.actions ≡ 0 = omega arith in rw e (ap (acts_from machine plans ask rows b (length machine.actions)) z)
    go false e = rw e refl

  -- the stop is followed by the actions
  pub stop-left : (b : places.Branch) → left_of machine plans ask rows b None 1 ≡ actions_due machine plans ask rows b
  stop-left b = let all : length machine.actions - 0 ≡ length machine.actions = omega arith in
      ap (λ n. cond (nat_lt (kept_of ask + length b.x.choices) 64) (acts_from machine plans ask rows b 0 n) []) all ∙ ap (λ ds. cond (nat_lt (kept_of ask + length b.x.choices) 64) ds []) (sym (acts-below b (length machine.actions)))

  -- an action is followed by those behind it
  pub act-left : (b : places.Branch) (k : ℕ) → kept_of ask + length b.x.choices < 64 → k < length machine.actions → left_of machine plans ask rows b None (suc k) ≡ action_due machine plans ask rows b (record { 0 = k }) ++ left_of machine plans ask rows b None (suc (suc k))
  act-left b k fewer known =
      let t = lt-to (kept_of ask + length b.x.choices) 64 fewer in
      let m : length machine.actions - k ≡ suc (length machine.actions - suc k) = omega (arith, known) in
      rw t (ap (acts_from machine plans ask rows b k) m)

-- where a second way is, there are actions
pub ways-fewer : (machine : Machine) (plans : List Plan) (ask : Ask) (x : Suffix) (k : ℕ) → suc k < ways_of machine plans ask x None → (kept_of ask + length x.choices < 64) × (k < length machine.actions)
ways-fewer machine plans ask x k within = go (nat_lt (kept_of ask + length x.choices) 64) refl within where
  is-lt : nat_lt (kept_of ask + length x.choices) 64 ≡ true → kept_of ask + length x.choices < 64
  is-lt f = grind (arith, nat_tests)

  go : (t : Bool) → nat_lt (kept_of ask + length x.choices) 64 ≡ t → suc k < cond t (suc (length machine.actions)) 1 → (kept_of ask + length x.choices < 64) × (k < length machine.actions)
  go true e w = (is-lt e, omega (arith, w))
  go false e w = absurd (omega (arith, w))

module _ {N : Type 0} (reading : Reading N) (machine : Machine) (plans : List Plan) (ask : Ask) (sums : List (Option ℕ)) (limit : ℕ) (old new : List Node) (b : BoardValue N) (r : ShowBranch) where
  -- a way that is gone with more behind it
  pub entered-behind : (o : Option ShowBranch) (ds behind more : List TreeRow → List Due) → IsEntered reading machine plans ask sums limit old new b r ds behind o
      → IsEntered reading machine plans ask sums limit old new b r (λ rows. ds rows ++ more rows) (λ rows. behind rows ++ more rows) o
  entered-behind None ds behind more shows = λ rows has. adds-behind machine plans ask rows (pos limit) (ds rows) (behind rows) (more rows) old new (shows rows has)
  entered-behind (Some child) ds behind more g = record {
    suffix = g.suffix;
    carries = g.carries;
    smaller = g.smaller;
    is_open = g.is_open;
    early = g.early;
    shows = λ rows has. let kids = kids_of machine plans ask rows (branch_by child g.suffix) in
        subst (λ us. Adds machine plans ask rows (pos limit) (ds rows ++ more rows) old new us) (append_assoc kids (behind rows) (more rows))
        (adds-behind machine plans ask rows (pos limit) (ds rows) (kids ++ behind rows) (more rows) old new (g.shows rows has));
  }

  -- the same dues by other names
  pub entered-as : (o : Option ShowBranch) (ds ds' behind behind' : List TreeRow → List Due) → ((rows : List TreeRow) → ds rows ≡ ds' rows) → ((rows : List TreeRow) → behind rows ≡ behind' rows) → IsEntered reading machine plans ask sums limit old new b r ds behind o
      → IsEntered reading machine plans ask sums limit old new b r ds' behind' o
  entered-as None ds ds' behind behind' e f shows = λ rows has. subst (λ us. Adds machine plans ask rows (pos limit) us old new (behind' rows)) (e rows) (subst (λ us. Adds machine plans ask rows (pos limit) (ds rows) old new us) (f rows) (shows rows has))
  entered-as (Some child) ds ds' behind behind' e f g = record {
    suffix = g.suffix;
    carries = g.carries;
    smaller = g.smaller;
    is_open = g.is_open;
    early = g.early;
    shows = λ rows has. let kids = kids_of machine plans ask rows (branch_by child g.suffix) in
        subst (λ us. Adds machine plans ask rows (pos limit) us old new (kids ++ behind' rows)) (e rows) (subst (λ us. Adds machine plans ask rows (pos limit) (ds rows) old new (kids ++ us)) (f rows) (g.shows rows has));
  }

  -- an action is gone, or the stop, or a place
  pub act-gone : (o : Option ShowBranch) (x : Suffix) (way k : ℕ) → way ≡ suc k → way < ways_of machine plans ask x None → IsEntered reading machine plans ask sums limit old new b r (λ rows. action_due machine plans ask rows (branch_by r x) (record { 0 = k })) (λ _. []) o
      → IsEntered reading machine plans ask sums limit old new b r (λ rows. left_of machine plans ask rows (branch_by r x) None way) (λ rows. left_of machine plans ask rows (branch_by r x) None (suc way)) o
  act-gone o x way k e within entered =
      let w = ways-fewer machine plans ask x k (subst (λ n. n < ways_of machine plans ask x None) e within) in
      let left = λ (n : ℕ) (rows : List TreeRow). left_of machine plans ask rows (branch_by r x) None n in
      let act = λ (rows : List TreeRow). action_due machine plans ask rows (branch_by r x) (record { 0 = k }) in
      subst (λ n. IsEntered reading machine plans ask sums limit old new b r (left n) (left (suc n)) o) (sym e)
      (entered-as o (λ rows. act rows ++ left (suc (suc k)) rows) (left (suc k)) (left (suc (suc k))) (left (suc (suc k))) (λ rows. sym (act-left machine plans ask rows (branch_by r x) k w.0 w.1)) (λ rows. refl)
      (entered-behind o act (λ _. []) (left (suc (suc k))) entered))

  pub place-gone : (o : Option ShowBranch) (x : Suffix) (way : ℕ) (rule : HoldRule) (h : Option HoldRule) → h ≡ Some rule
      → IsEntered reading machine plans ask sums limit old new b r (λ rows. places_from machine plans ask rows (branch_by r x) rule way) (λ rows. places_from machine plans ask rows (branch_by r x) rule (way + 1)) o
      → IsEntered reading machine plans ask sums limit old new b r (λ rows. left_of machine plans ask rows (branch_by r x) h way) (λ rows. left_of machine plans ask rows (branch_by r x) h (suc way)) o
  place-gone o x way rule h e entered =
      let from = λ (n : ℕ) (rows : List TreeRow). places_from machine plans ask rows (branch_by r x) rule n in
      subst (λ k. IsEntered reading machine plans ask sums limit old new b r (λ rows. left_of machine plans ask rows (branch_by r x) k way) (λ rows. left_of machine plans ask rows (branch_by r x) k (suc way)) o) (sym e)
      (entered-as o (from way) (from way) (from (way + 1)) (from (suc way)) (λ rows. refl) (λ rows. ap (λ n. from n rows) (add-one way)) entered)

pub stop-gone : (machine : Machine) (plans : List Plan) (ask : Ask) (sums : List (Option ℕ)) (limit : ℕ) (old new : List Node) (r : ShowBranch) (x : Suffix) (way : ℕ) → way ≡ 0 → Shows machine plans ask sums limit old new (λ rows. stop_due machine plans ask rows (branch_by r x)) (λ _. [])
    → Shows machine plans ask sums limit old new (λ rows. left_of machine plans ask rows (branch_by r x) None way) (λ rows. left_of machine plans ask rows (branch_by r x) None (suc way))
stop-gone machine plans ask sums limit old new r x way e shows =
    subst (λ n. Shows machine plans ask sums limit old new (λ rows. left_of machine plans ask rows (branch_by r x) None n) (λ rows. left_of machine plans ask rows (branch_by r x) None (suc n))) (sym e)
    (λ rows has. let b = branch_by r x in
    let stops = stop_due machine plans ask rows b in
    let acts = actions_due machine plans ask rows b in
    subst (λ us. Adds machine plans ask rows (pos limit) (stops ++ acts) old new us) (sym (stop-left machine plans ask rows b)) (adds-behind machine plans ask rows (pos limit) stops [] acts old new (shows rows has)))
