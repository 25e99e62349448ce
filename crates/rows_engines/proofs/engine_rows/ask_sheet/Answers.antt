use Rattle.std.proofs.Common.{subst, sym}
use Rattle.tp_schedule.specs.PlannerAnswers.{CanPlanOn}
use Rattle.rows_engines.proofs.SearchFacts.{plan_on-answered}
use Rattle.rows_engines.proofs.engine_rows.ask_sheet.Goals as goal

pub returns-in-Ok-clause-plan_on : goal.returns-in-Ok-clause-plan_on
returns-in-Ok-clause-plan_on g c =
    let asked = c.in_ok-ask.ensures in
    subst (λ now. CanPlanOn c.args.machine.now now c.ask.new.schedule.plans) asked.now
    (plan_on-answered (g.P.Planner.rules.spent c.args.planner.now) c.args.machine.now c.in_ok-ask.ask c.args.schedule.now.plans c.ask.new.schedule.plans c.in-Ok.reply asked.new
    (subst (λ now. CanPlanOn c.args.machine.now now c.args.schedule.now.plans) (sym asked.now) c.requires.plan_on) c.in-Ok.ensures.answer)
