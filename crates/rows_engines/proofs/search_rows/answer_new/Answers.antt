use Rattle.std.proofs.Common.{subst, sym}
use Rattle.tp_schedule.specs.PlannerAnswers.{CanPlanOn}
use Rattle.tp_search.specs.Workspaces.{IsSpentOf}
use Rattle.rows_engines.proofs.SearchFacts.{plan_on-answered}
use Rattle.rows_engines.proofs.search_rows.answer_new.Goals as goal

pub returns-clause-plan_on : goal.returns-clause-plan_on
returns-clause-plan_on g c =
    plan_on-answered (IsSpentOf c.args.work.now.nodes) c.args.machine.now c.args.ask.now c.reserve.new.self.plans c.answer.new.schedule.plans c.answer.result c.requires.new
    (subst (CanPlanOn c.args.machine.now c.args.ask.now.now) (sym c.reserve.ensures.plans) c.requires.plan_on) c.answer.ensures.answer
