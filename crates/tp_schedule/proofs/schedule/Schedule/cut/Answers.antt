-- The plan that is written is the copy's plan, cut to so many actions.
use Rattle.std.proofs.Common.{◌≡◌, ◌≤◌, arith, length, refl, Some}
use Rattle.tp_schedule.specs.Plans.{IsFormed, plan_of, cut_to}
use Rattle.tp_schedule.proofs.ChangeFacts.{IsOrdered-change_plan, All-plan_of, IsFormed-cut_to, IsSomeAnd-at, change_plan-there, plan_of-sheet}
use Rattle.tp_schedule.proofs.schedule.Schedule.cut.Goals as goal

pub cut_to-requires-2 : goal.cut_to-requires-2
cut_to-requires-2 c =
    let here : plan_of c.args.sheet c.self.inside.plans.items ≡ Some c.plan_in.result.now = rw c.as_slice.ensures.value at c.plan_in.ensures in
    let formed : IsFormed c.plan_in.result.now = All-plan_of IsFormed c.args.sheet c.self.inside.plans.items c.plan_in.result.now c.self.invariant.1.formed here in
    let fits : c.args.kept ≤ length c.plan_in.result.now.acts = IsSomeAnd-at c.args.sheet (λ p. c.args.kept ≤ length p.acts) c.self.inside.plans.items c.plan_in.result.now (rw (← c.self.view_is) at c.requires.planned) here in
    rw c.copy-plan.ensures.same (record { shorter = let one = formed.one_more in omega arith })

pub write_plan-requires-clause-planned : goal.write_plan-requires-clause-planned
write_plan-requires-clause-planned c =
    let here : plan_of c.args.sheet c.self.inside.plans.items ≡ Some c.plan_in.result.now = rw c.as_slice.ensures.value at c.plan_in.ensures in
    rw (c.copy-plan.ensures.same, plan_of-sheet c.args.sheet c.self.inside.plans.items c.plan_in.result.now here, here) refl

pub returns-clause-plans : goal.returns-clause-plans
returns-clause-plans c =
    let here : plan_of c.args.sheet c.self.inside.plans.items ≡ Some c.plan_in.result.now = rw c.as_slice.ensures.value at c.plan_in.ensures in
    rw (c.write_plan.ensures.plans, c.cut_to.ensures.cut, c.cut_to-2.ensures.cut, c.copy-plan.ensures.same, ← c.self.view_is)
    (change_plan-there c.args.sheet (cut_to c.args.kept) c.self.inside.plans.items c.plan_in.result.now here refl)

pub invariant_of-self : goal.invariant_of-self
invariant_of-self c =
    let here : plan_of c.args.sheet c.self.inside.plans.items ≡ Some c.plan_in.result.now = rw c.as_slice.ensures.value at c.plan_in.ensures in
    let formed : IsFormed c.plan_in.result.now = All-plan_of IsFormed c.args.sheet c.self.inside.plans.items c.plan_in.result.now c.self.invariant.1.formed here in
    let fits : c.args.kept ≤ length c.plan_in.result.now.acts = IsSomeAnd-at c.args.sheet (λ p. c.args.kept ≤ length p.acts) c.self.inside.plans.items c.plan_in.result.now (rw (← c.self.view_is) at c.requires.planned) here in (
      omega (arith, c.write_plan.ensures.len, c.self.invariant.0),
      rw (c.write_plan.ensures.plans, c.cut_to.ensures.cut, c.cut_to-2.ensures.cut, c.copy-plan.ensures.same)
          (IsOrdered-change_plan c.self.inside.plans.items (cut_to c.args.kept c.plan_in.result.now) c.self.invariant.1 (IsFormed-cut_to c.plan_in.result.now c.args.kept formed c.requires.some fits)),
    )
