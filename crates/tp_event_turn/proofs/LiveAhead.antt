-- Each plan of an alternative on live plans, and of one that differs in ticks alone, is live, and its unreleased starts are
-- ahead.
use Rattle.std.proofs.Common.{◌≡◌, ℕ, ◌<◌, ◌≤◌, inl, inr, Bool, true, false, List, length, refl, sym, ap, ◌∙◌, arith, Contains, All, subst, Some}
use Rattle.std.proofs.lemmas.Bool.{cases_lt}
use Rattle.std.proofs.lemmas.List.Elements.{All-contains}
use Rattle.tp_machine.specs.declared.machine.Machine.{Machine}
use Rattle.tp_schedule.specs.Answers.{IsAlternative, IsAsked, IsAskedFrom, IsRetimed, KeepsFixed, follows_front, kept_from, kept_of, unmoved}
use Rattle.tp_schedule.specs.Legality.{IsLegal}
use Rattle.tp_schedule.specs.LivePlans.{is_live}
use Rattle.tp_schedule.specs.PlannerAnswers.{none_exempt}
use Rattle.tp_schedule.specs.Plans.{IsTimedPlan, is_same_copy, plan_of, point}
use Rattle.tp_schedule.specs.declared.parts.Ask.{Ask}
use Rattle.tp_schedule.specs.declared.parts.Origin.{Origin}
use Rattle.tp_schedule.specs.declared.parts.Origin.TheVariants.{Feeder as FromFeeder, Front as FromFront}
use Rattle.tp_schedule.specs.declared.parts.Plan.{Plan}
use Rattle.tp_schedule.proofs.CopyFacts.{plan_of-itself, same_copy-is}
use Rattle.tp_choices.specs.LiveParts.{EndsAhead}
use Rattle.tp_choices.proofs.PastFacts.{past_points}
use Rattle.tp_choices.proofs.PlansOf.{plan_of-contains}
use Rattle.tp_choices.proofs.PointFacts.{fixed-by, point-le, points-equal}
use Rattle.tp_choices.proofs.Unmoved.{unmoved-found}
use Rattle.tp_event_rules.proofs.AnsweredPlans.{mine-is, other-from}

-- a point ahead makes a plan live
pub live-by : (machine : Machine) (now : ℕ) (p : Plan) (i : ℕ) → now < point p i → is_live machine now p ≡ true
live-by machine now p i ahead = go (is_live machine now p) refl where
  go : (b : Bool) → is_live machine now p ≡ b → b ≡ true
  go true e = refl
  go false e = absurd (let low = past_points machine now p e i in omega arith)

-- a plan of which all is released is what it was
pub same-plan : (machine : Machine) (plans new : List Plan) → All (IsTimedPlan machine) plans → IsLegal machine new → KeepsFixed plans new
    → (q p : Plan) → Contains new q → Contains plans p → unmoved q ≡ unmoved p → length q.acts ≤ q.released → q ≡ p
same-plan machine plans new timed legal fixed q p in-q in-p same all =
    let timed-q = All-contains (IsTimedPlan machine) new q legal.timed in-q in
    let timed-p = All-contains (IsTimedPlan machine) plans p timed in-p in
    let lengths : length q.acts ≡ length p.acts = ap (λ (r : Plan). length r.acts) same in
    let released : q.released ≡ p.released = ap (λ (r : Plan). r.released) same in
    let some = timed-p.some in
    let planned : plan_of p.sheet new ≡ Some q = subst (λ c. plan_of c new ≡ Some q) (ap (λ (r : Plan). r.sheet) same) (plan_of-itself new q legal.in_order in-q) in
    let points = points-equal machine q p timed-q timed-p lengths (λ i within. fixed p q in-p planned i (fixed-by p i (omega arith) (omega arith)) within) in
    λ i. record (same i) { points = points i }

-- so a plan stays live that has its unreleased starts ahead
stays-live : (machine : Machine) (now : ℕ) (plans new : List Plan) → All (IsTimedPlan machine) plans → IsLegal machine new → KeepsFixed plans new
    → (q p : Plan) → Contains new q → Contains plans p → unmoved q ≡ unmoved p → ((i : ℕ) → q.released ≤ i → i < length q.acts → now < point q i)
    → is_live machine now p ≡ true → is_live machine now q ≡ true
stays-live machine now plans new timed legal fixed q p in-q in-p same ahead live = elim (cases_lt q.released (length q.acts)) [
  | inl less ↦ live-by machine now q q.released (ahead q.released (omega arith) less)
  | inr le ↦ subst (λ r. is_live machine now r ≡ true) (sym (same-plan machine plans new timed legal fixed q p in-q in-p same le)) live
]

-- schedules that differ in ticks alone
module _ (machine : Machine) (now : ℕ) (plans new : List Plan) (timed : All (IsTimedPlan machine) plans) (r : IsRetimed machine now none_exempt plans new) where
  pub retimed-ahead : (q : Plan) → Contains new q → (i : ℕ) → q.released ≤ i → i < length q.acts → now < point q i
  retimed-ahead q in' i le within = let floor = r.floors q in' refl i le within in omega arith

  pub retimed-live : ((p : Plan) → Contains plans p → is_live machine now p ≡ true) → (q : Plan) → Contains new q → is_live machine now q ≡ true
  retimed-live all q in' =
      let found = unmoved-found plans new q (sym r.same) in' in
      stays-live machine now plans new timed r.legal r.fixed q found.0 in' found.1 (sym found.2) (retimed-ahead q in') (all found.0 found.1)

-- alternatives
module _ (machine : Machine) (plans : List Plan) (ask : Ask) (new : List Plan) (a : IsAlternative machine plans ask new) (asked : IsAsked machine plans ask) (ends : EndsAhead ask.now ask.origin) where
  in-new : Contains new a.plan × (is_same_copy a.plan.sheet ask.sheet ≡ true)
  in-new = plan_of-contains ask.sheet new a.plan a.planned

  mine-timed : IsTimedPlan machine a.plan
  mine-timed = All-contains (IsTimedPlan machine) new a.plan a.legal.timed in-new.0

  -- the asked copy's first unreleased point is ahead
  mine-first : ask.now < point a.plan (kept_of ask)
  mine-first = go ask.origin refl asked ends where
    go : (o : Origin) → ask.origin ≡ o → IsAskedFrom machine plans ask o → EndsAhead ask.now o → ask.now < point a.plan (kept_of ask)
    go FromFeeder e none ahead =
        let kept-none : kept_of ask ≡ 0 = ap kept_from e in
        let free : follows_front ask a.plan ≡ false = rw (in-new.1, kept-none) refl in
        let some = mine-timed.some in
        let floor = a.floors a.plan in-new.0 free (kept_of ask) (omega (arith, a.answers.released)) (omega arith) in
        omega arith
    go (FromFront state end count) e (p, is, front) ahead =
        let kept-is : kept_of ask ≡ count = ap kept_from e in
        let in-plans = plan_of-contains ask.sheet plans p is in
        let same : p.sheet ≡ ask.sheet = same_copy-is p.sheet ask.sheet in-plans.1 in
        let stands : point a.plan count ≡ point p count = a.fixed p a.plan in-plans.0 (subst (λ c. plan_of c new ≡ Some a.plan) (sym same) a.planned) count (rw front.front refl) (omega (arith, front.acts)) in
        let ends-at : point p count ≡ end = ap (point p) (sym front.acts) ∙ front.ends in
        rw kept-is (omega (arith, ahead, stands, ends-at))

  mine-ahead : (i : ℕ) → a.plan.released ≤ i → i < length a.plan.acts → ask.now < point a.plan i
  mine-ahead i le within =
      let first = mine-first in
      let rises = point-le machine a.plan mine-timed (kept_of ask) i (omega (arith, a.answers.released)) (omega arith) in
      omega arith

  other-ahead : (q : Plan) → Contains new q → is_same_copy q.sheet ask.sheet ≡ false → (i : ℕ) → q.released ≤ i → i < length q.acts → ask.now < point q i
  other-ahead q in' other i le within = let floor = a.floors q in' (rw other refl) i le within in omega arith

  pub new-ahead : (q : Plan) → Contains new q → (i : ℕ) → q.released ≤ i → i < length q.acts → ask.now < point q i
  new-ahead q in' i le within = go (is_same_copy q.sheet ask.sheet) refl where
    go : (b : Bool) → is_same_copy q.sheet ask.sheet ≡ b → ask.now < point q i
    go false e = other-ahead q in' e i le within
    go true e =
        let is = mine-is machine plans ask new a q in' e in
        subst (λ (r : Plan). r.released ≤ i → i < length r.acts → ask.now < point r i) (sym is) (mine-ahead i) le within

  pub new-live : ((p : Plan) → Contains plans p → is_live machine ask.now p ≡ true) → (q : Plan) → Contains new q → is_live machine ask.now q ≡ true
  new-live all q in' = go (is_same_copy q.sheet ask.sheet) refl where
    go : (b : Bool) → is_same_copy q.sheet ask.sheet ≡ b → is_live machine ask.now q ≡ true
    go true e = subst (λ r. is_live machine ask.now r ≡ true) (sym (mine-is machine plans ask new a q in' e)) (live-by machine ask.now a.plan (kept_of ask) mine-first)
    go false e =
        let from = other-from machine plans ask new a q in' e in
        stays-live machine ask.now plans new a.legal_before.timed a.legal a.fixed q from.0 in' from.1 from.2.is (other-ahead q in' e) (all from.0 from.1)
