-- The plans of an alternative: the others are those of before but for their points, and the asked copy has one.
use Rattle.std.proofs.Common.{◌≡◌, ◌⊎◌, inl, inr, Bool, true, false, not, List, map, refl, sym, ap, Contains, subst, Some}
use Rattle.std.proofs.lemmas.Bool.{not_from_false}
use Rattle.tp_machine.specs.declared.machine.Machine.{Machine}
use Rattle.tp_schedule.specs.Answers.{IsAlternative, unmoved}
use Rattle.tp_schedule.specs.Plans.{is_same_copy, plan_of, without}
use Rattle.tp_schedule.specs.declared.parts.Ask.{Ask}
use Rattle.tp_schedule.specs.declared.parts.Plan.{Plan}
use Rattle.tp_schedule.specs.declared.parts.SheetId.{SheetId}
use Rattle.tp_schedule.proofs.CopyFacts.{same_copy-is, plan_of-itself}
use Rattle.tp_schedule.proofs.Membership.{Contains-map, Contains-map_from, Contains-filter, Contains-filter_from}
use Rattle.tp_event_rules.specs.Moments.{is_tray_plan}

-- what a plan is but for its points
pub record IsUnmoved (q p : Plan) : Type 0 where
  pub is : unmoved q ≡ unmoved p

pub unmoved-sheet : (q p : Plan) → IsUnmoved q p → q.sheet ≡ p.sheet
unmoved-sheet q p u = ap (λ (r : Plan). r.sheet) u.is

pub unmoved-tray_plan : (q p : Plan) → IsUnmoved q p → is_tray_plan q ≡ is_tray_plan p
unmoved-tray_plan q p u = ap is_tray_plan u.is

other-of : (c : SheetId) (plans plans' : List Plan) → map unmoved (without c plans') ≡ map unmoved (without c plans)
    → (q : Plan) → Contains plans' q → is_same_copy q.sheet c ≡ false → (p : Plan) × Contains plans p × IsUnmoved q p
other-of c plans plans' same q in' other =
    let here = Contains-map unmoved (without c plans') q (Contains-filter (λ p. not (is_same_copy p.sheet c)) plans' q in' (not_from_false (is_same_copy q.sheet c) other)) in
    let there = Contains-map_from unmoved (without c plans) (unmoved q) (subst (λ l. Contains l (unmoved q)) same here) in
    (there.0, (Contains-filter_from (λ p. not (is_same_copy p.sheet c)) plans there.0 there.1).0, record { is = there.2 })

module _ (machine : Machine) (plans : List Plan) (ask : Ask) (plans' : List Plan) (a : IsAlternative machine plans ask plans') where
  -- where a plan of the alternative comes from, and where a plan of before goes
  pub other-from : (q : Plan) → Contains plans' q → is_same_copy q.sheet ask.sheet ≡ false → (p : Plan) × Contains plans p × IsUnmoved q p
  other-from q in' other = other-of ask.sheet plans plans' a.others q in' other

  pub other-to : (p : Plan) → Contains plans p → is_same_copy p.sheet ask.sheet ≡ false → (q : Plan) × Contains plans' q × IsUnmoved q p
  other-to p in' other =
      let to = other-of ask.sheet plans' plans (sym a.others) p in' other in
      (to.0, to.1, record { is = sym to.2.is })

  pub mine-is : (q : Plan) → Contains plans' q → is_same_copy q.sheet ask.sheet ≡ true → q ≡ a.plan
  mine-is q in' same =
      let itself = plan_of-itself plans' q a.legal.in_order in' in
      let sheet = same_copy-is q.sheet ask.sheet same in
      let planned : plan_of ask.sheet plans' ≡ Some a.plan = a.planned in
      let at : plan_of q.sheet plans' ≡ plan_of ask.sheet plans' = ap (λ c. plan_of c plans') sheet in
      cc

  -- each plan is the asked copy's or another's
  pub plan-cases : (q : Plan) → Contains plans' q → (q ≡ a.plan) ⊎ ((p : Plan) × Contains plans p × IsUnmoved q p × (is_same_copy q.sheet ask.sheet ≡ false))
  plan-cases q in' = go (is_same_copy q.sheet ask.sheet) refl where
    go : (b : Bool) → is_same_copy q.sheet ask.sheet ≡ b → (q ≡ a.plan) ⊎ ((p : Plan) × Contains plans p × IsUnmoved q p × (is_same_copy q.sheet ask.sheet ≡ false))
    go true e = inl (mine-is q in' e)
    go false e = let from = other-from q in' e in inr (from.0, from.1, from.2, e)
