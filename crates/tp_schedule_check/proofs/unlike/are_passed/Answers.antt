use Rattle.std.proofs.Common.{◌∙◌, sym}
use Rattle.tp_schedule_check.proofs.AlikeFacts.{keeps, passes}
use Rattle.tp_schedule_check.proofs.unlike.are_passed.Goals as goal

pub plans-preserved : goal.plans-preserved
plans-preserved c = c.plans.invariant ∙ passes c.args.asked c.args.schedule.now.plans c.plans.at c.plan_at.result.now c.plan_at.ensures.plan (sym c.is_exempt.ensures ∙ c.if-not-is_exempt.false)

pub returns-then-not-is_exempt : goal.returns-then-not-is_exempt
returns-then-not-is_exempt c = (
  λ t. absurd cc,
  λ none. (let e = keeps c.args.asked c.args.schedule.now.plans c.plans.at c.plan_at.result.now c.plan_at.ensures.plan (sym c.is_exempt.ensures ∙ c.if-not-is_exempt.true) in let f = c.plans.invariant in absurd cc),
)
