use Rattle.std.proofs.Common.{◌∙◌, sym}
use Rattle.std.proofs.lemmas.Option.{get_or_from_slice_get, slice_get_within}
use Rattle.tp_schedule.proofs.ChangeFacts.{plan_of-at}
use Rattle.tp_schedule_check.proofs.PlanFacts.{no-plan}
use Rattle.tp_schedule_check.proofs.plans.plan_of.Goals as goal

pub returns-in-Some-clause-plan : goal.returns-in-Some-clause-plan
returns-in-Some-clause-plan c =
    let plans = c.args.schedule.now.plans in
    let p = c.plan_at.result.now in
    sym (plan_of-at c.args.copy plans c.in-Some.at p (sym c.in-Some.is ∙ c.find.ensures) (slice_get_within plans c.in-Some.at p c.plan_at.ensures.plan) (sym (get_or_from_slice_get plans c.in-Some.at p p c.plan_at.ensures.plan)))

pub returns-in-None-clause-plan : goal.returns-in-None-clause-plan
returns-in-None-clause-plan c = sym (no-plan c.args.copy c.args.schedule.now.plans c.in-None.ensures)
