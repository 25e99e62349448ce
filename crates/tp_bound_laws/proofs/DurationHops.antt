-- Hops along durations are kept.
use Rattle.std.proofs.Common.{◌≡◌, inl, inr, ℕ, suc, ◌+◌, ◌≤◌, ◌<◌, Bool, true, false, cond, ◌&&◌, ◌==◌, List, [], ◌∷◌, length, reverse, refl, sym, ◌∙◌, ap, subst, arith, Option, Some, None, IsSomeAnd}
use Rattle.std.specs.Prelude.{slice_get, pos, neg_ℤ}
use Rattle.std.proofs.lemmas.Bool.{eqb-true, and_parts}
use Rattle.std.proofs.lemmas.Int.{ints}
use Rattle.std.proofs.lemmas.List.{length-reverse}
use Rattle.std.proofs.lemmas.Option.{slice_get_within}
use Rattle.tp_base.proofs.SliceFacts.{slice_get_end}
use Rattle.tp_base.proofs.TraceFacts.{reverse-cons}
use Rattle.tp_machine.specs.ModuleUse.{action_at}
use Rattle.tp_machine.specs.declared.parts.ActId.{ActId}
use Rattle.tp_machine.specs.declared.parts.Action.{Action}
use Rattle.tp_machine.specs.declared.machine.Machine.{Machine}
use Rattle.tp_schedule.specs.Choices.{Choice, ChoicesLast}
use Rattle.tp_schedule.specs.Plans.{LastsWithin, is_same_copy, plan_of}
use Rattle.tp_schedule.specs.Spots.{Spot, Ticks}
use Rattle.tp_schedule.specs.Spots.Spot.{kept, own}
use Rattle.tp_schedule.specs.declared.parts.Ask.{Ask}
use Rattle.tp_schedule.specs.declared.parts.Plan.{Plan}
use Rattle.tp_schedule.specs.declared.parts.SheetId.{SheetId}
use Rattle.tp_schedule.proofs.CopyFacts.{same_copy-is}
use Rattle.tp_choices.proofs.PlansOf.{plan_of-contains}
use Rattle.tp_constraints.specs.Gaps.{Gap, IsPoint, KeepsGap, gap}
use Rattle.tp_constraints.specs.Suffixes.{Suffix, SuffixTimes}
use Rattle.tp_bound_laws.specs.Chains.{act_in, acts_in, choice_act, duration_gap, kept_act, least_gap, most_gap, own_act}

-- what a hop from a point says is kept, and leads to a known point
pub record IsKeptHop (plans : List Plan) (count : ℕ) (t : Ticks) (from : Spot) (g : Gap) : Type 0 where
  pub keeps : KeepsGap t g
  pub known : IsPoint plans count g.to
  pub here : g.from ≡ from

same_Some : {X : Type 0} (x y : X) → Some x ≡ Some y → x ≡ y
same_Some x y e = cc

-- an action between two points
pub record Lasts (plans : List Plan) (count : ℕ) (t : Ticks) (from to : Spot) (a : Action) : Type 0 where
  pub least : t from + a.least ≤ t to
  pub most : t to ≤ t from + a.most
  pub known_from : IsPoint plans count from
  pub known_to : IsPoint plans count to

act-some : (machine : Machine) (o : Option ActId) (a : Action) → act_in machine o ≡ Some a → (act : ActId) × (o ≡ Some act) × (action_at machine act.0 ≡ Some a)
act-some machine None a e = absurd cc
act-some machine (Some act) a e = (act, refl, e)

plan-some : (o : Option Plan) (i : ℕ) (act : ActId) → slice_get (acts_in o) i ≡ Some act → (p : Plan) × (o ≡ Some p) × (slice_get p.acts i ≡ Some act)
plan-some None i act e = absurd cc
plan-some (Some p) i act e = (p, refl, e)

lasts-by : (o : Option Action) (a : Action) (from to : ℕ) → o ≡ Some a → IsSomeAnd o (λ b. (from + b.least ≤ to) × (to ≤ from + b.most)) → (from + a.least ≤ to) × (to ≤ from + a.most)
lasts-by o a from to e h = subst (λ p. IsSomeAnd p (λ b. (from + b.least ≤ to) × (to ≤ from + b.most))) e h

module _ (machine : Machine) (plans : List Plan) (ask : Ask) (x : Suffix) (t : Ticks) (times : SuffixTimes machine plans ask x t) where
  abbrev count : ℕ
  count = suc (length x.choices)

  kept-lasts : (c : SheetId) (i : ℕ) (a : Action) → kept_act machine plans c i ≡ Some a → Lasts plans count t (kept c i) (kept c (suc i)) a
  kept-lasts c i a e =
      let act = act-some machine (slice_get (acts_in (plan_of c plans)) i) a e in
      let p = plan-some (plan_of c plans) i act.0 act.1 in
      let in' = plan_of-contains c plans p.0 p.1 in
      let same : p.0.sheet ≡ c = same_copy-is p.0.sheet c in'.1 in
      let within : i < length p.0.acts = slice_get_within p.0.acts i act.0 p.2 in
      let both = lasts-by (action_at machine act.0.0) a (t (kept p.0.sheet i)) (t (kept p.0.sheet (suc i))) act.2 (times.keeps.lasts p.0 in'.0 i act.0 p.2) in
      subst (λ d. Lasts plans count t (kept d i) (kept d (suc i)) a) same (record { least = both.0; most = both.1; known_from = (p.0, in'.0, refl, omega arith); known_to = (p.0, in'.0, refl, omega arith) })

  choice-lasts : (choices : List Choice) (n : ℕ) (c : Choice) → ChoicesLast machine t choices → slice_get (reverse choices) n ≡ Some c → (n < length choices) × LastsWithin machine c.act (t (own (suc n))) (t (own n))
  choice-lasts [] n c last e = absurd cc
  choice-lasts (d ∷ choices) n c last e = elim (slice_get_end (reverse choices) d n c (ap (λ cs. slice_get cs n) (sym (reverse-cons d choices)) ∙ e)) [
    | inl l ↦ let r = choice-lasts choices n c last.1 l in (omega (arith, r.0), r.1)
    | inr r ↦
        let n-is : length choices ≡ n = sym (r.0 ∙ length-reverse choices) in (
          omega (arith, n-is),
          subst (λ k. LastsWithin machine c.act (t (own (suc k))) (t (own k))) n-is (subst (λ (b : Choice). LastsWithin machine b.act (t (own (suc (length choices)))) (t (own (length choices)))) r.1 last.0),
        )
  ]

  own-some : (o : Option Choice) (act : ActId) → choice_act o ≡ Some act → (c : Choice) × (o ≡ Some c) × (c.act ≡ act)
  own-some None act e = absurd cc
  own-some (Some c) act e = (c, refl, cc)

  own-lasts : (n : ℕ) (a : Action) → own_act machine x.choices n ≡ Some a → Lasts plans count t (own (suc n)) (own n) a
  own-lasts n a e =
      let act = act-some machine (choice_act (slice_get (reverse x.choices) n)) a e in
      let c = own-some (slice_get (reverse x.choices) n) act.0 act.1 in
      let l = choice-lasts x.choices n c.0 times.lasts c.1 in
      let known : action_at machine c.0.act.0 ≡ Some a = ap (λ (k : ActId). action_at machine k.0) c.2 ∙ act.2 in
      let both = lasts-by (action_at machine c.0.act.0) a (t (own (suc n))) (t (own n)) known l.1 in
      record { least = both.0; most = both.1; known_from = omega (arith, l.0); known_to = omega (arith, l.0) }

  least-hop : (from to : Spot) (o : Option Action) (g : Gap) → ((a : Action) → o ≡ Some a → Lasts plans count t from to a) → least_gap from to o ≡ Some g → IsKeptHop plans count t from g
  least-hop from to None g lasts e = absurd cc
  least-hop from to (Some a) g lasts e =
      let l = lasts a refl in
      let low = l.least in
      subst (IsKeptHop plans count t from) (same_Some (gap from to (pos a.least)) g e) (record { keeps = omega (arith, ints); known = l.known_to; here = refl })

  most-hop : (from to : Spot) (o : Option Action) (g : Gap) → ((a : Action) → o ≡ Some a → Lasts plans count t to from a) → most_gap from to o ≡ Some g → IsKeptHop plans count t from g
  most-hop from to None g lasts e = absurd cc
  most-hop from to (Some a) g lasts e =
      let l = lasts a refl in
      let high = l.most in
      subst (IsKeptHop plans count t from) (same_Some (gap from to (neg_ℤ (pos a.most))) g e) (record { keeps = omega (arith, ints); known = l.known_from; here = refl })

  pub duration-hop : (from to : Spot) (g : Gap) → duration_gap machine plans x.choices from to ≡ Some g → IsKeptHop plans count t from g
  duration-hop (kept c i) (kept d j) g e = go (is_same_copy c d && (j == suc i)) (is_same_copy c d && (i == suc j)) refl refl e where
    go : (a b : Bool) → (is_same_copy c d && (j == suc i)) ≡ a → (is_same_copy c d && (i == suc j)) ≡ b → cond a (least_gap (kept c i) (kept c (suc i)) (kept_act machine plans c i)) (cond b (most_gap (kept c (suc j)) (kept c j) (kept_act machine plans c j)) None) ≡ Some g
        → IsKeptHop plans count t (kept c i) g
    go true b u v h = least-hop (kept c i) (kept c (suc i)) (kept_act machine plans c i) g (kept-lasts c i) h
    go false true u v h =
        let is : i ≡ suc j = eqb-true i (suc j) (and_parts (is_same_copy c d) (i == suc j) v).1 in
        subst (λ k. IsKeptHop plans count t (kept c k) g) (sym is) (most-hop (kept c (suc j)) (kept c j) (kept_act machine plans c j) g (kept-lasts c j) h)
    go false false u v h = absurd cc
  duration-hop (own m) (own n) g e = go (m == suc n) (n == suc m) refl refl e where
    go : (a b : Bool) → (m == suc n) ≡ a → (n == suc m) ≡ b → cond a (least_gap (own (suc n)) (own n) (own_act machine x.choices n)) (cond b (most_gap (own m) (own (suc m)) (own_act machine x.choices m)) None) ≡ Some g → IsKeptHop plans count t (own m) g
    go true b u v h =
        let is : m ≡ suc n = eqb-true m (suc n) u in
        subst (λ k. IsKeptHop plans count t (own k) g) (sym is) (least-hop (own (suc n)) (own n) (own_act machine x.choices n) g (own-lasts n) h)
    go false true u v h = most-hop (own m) (own (suc m)) (own_act machine x.choices m) g (own-lasts m) h
    go false false u v h = absurd cc
  duration-hop (kept c i) (own n) g e = absurd cc
  duration-hop (own m) (kept d j) g e = absurd cc
