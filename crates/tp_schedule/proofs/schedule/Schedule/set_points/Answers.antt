-- The plan that is written is the copy's plan with other points.
use Rattle.std.proofs.Common.{◌≡◌, arith, length, refl, Some}
use Rattle.tp_schedule.specs.Plans.{IsFormed, plan_of, with_points}
use Rattle.tp_schedule.proofs.ChangeFacts.{IsOrdered-change_plan, All-plan_of, IsFormed-with_points, IsSomeAnd-at, change_plan-there, plan_of-sheet}
use Rattle.tp_schedule.proofs.schedule.Schedule.set_points.Goals as goal

pub write_plan-requires-clause-planned : goal.write_plan-requires-clause-planned
write_plan-requires-clause-planned c =
    let here : plan_of c.args.sheet c.self.inside.plans.items ≡ Some c.plan_in.result.now = rw c.as_slice.ensures.value at c.plan_in.ensures in
    rw (c.copy-plan.ensures.same, plan_of-sheet c.args.sheet c.self.inside.plans.items c.plan_in.result.now here, here) refl

pub returns-clause-plans : goal.returns-clause-plans
returns-clause-plans c =
    let here : plan_of c.args.sheet c.self.inside.plans.items ≡ Some c.plan_in.result.now = rw c.as_slice.ensures.value at c.plan_in.ensures in
    rw (c.write_plan.ensures.plans, c.copy-plan.ensures.same, c.copy-plan-2.ensures.same, ← c.self.view_is)
    (change_plan-there c.args.sheet (with_points c.args.points.now) c.self.inside.plans.items c.plan_in.result.now here refl)

pub invariant_of-self : goal.invariant_of-self
invariant_of-self c =
    let here : plan_of c.args.sheet c.self.inside.plans.items ≡ Some c.plan_in.result.now = rw c.as_slice.ensures.value at c.plan_in.ensures in
    let formed : IsFormed c.plan_in.result.now = All-plan_of IsFormed c.args.sheet c.self.inside.plans.items c.plan_in.result.now c.self.invariant.1.formed here in
    let fits : length c.args.points.now ≡ length c.plan_in.result.now.points = IsSomeAnd-at c.args.sheet (λ p. length c.args.points.now ≡ length p.points) c.self.inside.plans.items c.plan_in.result.now (rw (← c.self.view_is) at c.requires.planned) here in (
      omega (arith, c.write_plan.ensures.len, c.self.invariant.0),
      rw (c.write_plan.ensures.plans, c.copy-plan.ensures.same, c.copy-plan-2.ensures.same)
          (IsOrdered-change_plan c.self.inside.plans.items (with_points c.args.points.now c.plan_in.result.now) c.self.invariant.1 (IsFormed-with_points c.plan_in.result.now c.args.points.now formed fits)),
    )
