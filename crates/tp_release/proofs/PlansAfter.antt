-- The schedule after the move: what is left of it is legal, and keeps floors and horizon.
use Rattle.std.proofs.Common.{ℕ, ◌+◌, ◌<◌, ◌≤◌, Bool, true, false, cond, List, [], ◌∷◌, length, filter, sym, subst, arith}
use Rattle.std.proofs.lemmas.List.Elements.{All-contains}
use Rattle.tp_machine.specs.declared.machine.Machine.{Machine}
use Rattle.tp_schedule.specs.Answers.{KeepsFloors, KeepsHorizon}
use Rattle.tp_schedule.specs.Legality.{IsLegal}
use Rattle.tp_schedule.specs.LivePlans.{is_live}
use Rattle.tp_schedule.specs.PlannerAnswers.{none_exempt}
use Rattle.tp_schedule.specs.Plans.{IsTimedPlan, point}
use Rattle.tp_schedule.specs.declared.parts.Plan.{Plan}
use Rattle.tp_schedule.proofs.Membership.{Contains-filter_from, Contains-map_from}
use Rattle.tp_event_rules.specs.Clock.{released_until}
use Rattle.tp_event_rules.specs.Moments.{release_until}
use Rattle.tp_event_rules.proofs.LeftPlans.{AreLeft, none, gone, more, IsLegal-left, KeepsHorizon-left}
use Rattle.tp_event_rules.proofs.ReleasedPlans.{IsLeft-release, released-below}

abbrev pub plans_after : Machine → ℕ → List Plan → List Plan
plans_after machine to plans = filter (is_live machine to) (released_until machine to plans)

AreLeft-after : (machine : Machine) (to : ℕ) (plans : List Plan) → AreLeft machine plans (plans_after machine to plans)
AreLeft-after machine to [] = none
AreLeft-after machine to (p ∷ plans) = go (is_live machine to (release_until (to + machine.lead) p)) (AreLeft-after machine to plans) where
  go : (b : Bool) → AreLeft machine plans (plans_after machine to plans)
      → AreLeft machine (p ∷ plans) (cond b (release_until (to + machine.lead) p ∷ plans_after machine to plans) (plans_after machine to plans))
  go true rest = more p (release_until (to + machine.lead) p) plans (plans_after machine to plans) (IsLeft-release machine (to + machine.lead) p) rest
  go false rest = gone p plans (plans_after machine to plans) rest

pub legal-after : (machine : Machine) (to : ℕ) (plans : List Plan) → IsLegal machine plans → IsLegal machine (plans_after machine to plans)
legal-after machine to plans legal = IsLegal-left machine plans (plans_after machine to plans) (AreLeft-after machine to plans) legal

pub floors-after : (machine : Machine) (to : ℕ) (plans : List Plan) → IsLegal machine plans → KeepsFloors machine to none_exempt (plans_after machine to plans)
floors-after machine to plans legal = λ p in' not_exempt i released within.
    let kept = Contains-filter_from (is_live machine to) (released_until machine to plans) p in' in
    let from = Contains-map_from (release_until (to + machine.lead)) plans p kept.0 in
    let timed = All-contains (IsTimedPlan machine) plans from.0 legal.timed from.1 in
    subst (λ q. q.released ≤ i → i < length q.acts → to + machine.lead < point q i) (sym from.2)
    (λ r w. released-below machine (to + machine.lead) from.0 i timed r w) released within

pub horizon-after : (machine : Machine) (now to : ℕ) (plans : List Plan) → now ≤ to → KeepsHorizon machine now plans → KeepsHorizon machine to (plans_after machine to plans)
horizon-after machine now to plans later horizon = λ p in' i within not_fixed.
    let below : point p i ≤ now + machine.window = KeepsHorizon-left machine now plans (plans_after machine to plans) (AreLeft-after machine to plans) horizon p in' i within not_fixed in
    omega arith
