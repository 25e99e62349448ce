use Rattle.std.proofs.Common.{subst, sym}
use Rattle.tp_schedule.specs.PlannerAnswers.{CanPlanOn}
use Rattle.rows_engines.proofs.AskFacts.{plan_on-none}
use Rattle.rows_engines.proofs.planned_rows.one_planned.Goals as goal

pub plan_sheet-requires-clause-plan_on : goal.plan_sheet-requires-clause-plan_on
plan_sheet-requires-clause-plan_on g c = subst (CanPlanOn c.args.machine.now 0) (sym c.new-schedule.ensures.empty) (plan_on-none c.args.machine.now)
