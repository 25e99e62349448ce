-- The write stands at the copy's place.
use Rattle.std.proofs.Common.{◌≡◌, sym, ◌∙◌, Some, position}
use Rattle.tp_schedule.specs.Plans.{is_same_copy}
use Rattle.tp_schedule.proofs.ChangeFacts.{change_plan-at, planned-has_place}
use Rattle.tp_schedule.proofs.copies.write_plan.Goals as goal

pub returns-in-Some-clause-plans : goal.returns-in-Some-clause-plans
returns-in-Some-clause-plans c =
    let place : Some c.in-Some.at ≡ position (λ q. is_same_copy q.sheet c.args.plan.sheet) c.args.plans.now.items = sym c.in-Some.is ∙ (rw c.as_slice.ensures.value at c.copy_place.ensures.place) in
    change_plan-at c.args.plan.sheet (λ _. c.args.plan) c.args.plans.now.items c.in-Some.at c.index_mut.result.now place c.index_mut.ensures.value

pub returns-in_default-clause-plans : goal.returns-in_default-clause-plans
returns-in_default-clause-plans c =
    absurd (planned-has_place c.args.plan.sheet c.args.plans.now.items c.requires.planned (sym c.in_default.is ∙ (rw c.as_slice.ensures.value at c.copy_place.ensures.place)))
