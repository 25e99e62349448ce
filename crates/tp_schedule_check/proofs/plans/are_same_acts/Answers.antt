use Rattle.tp_schedule_check.proofs.PlanFacts.{acts-Decides}
use Rattle.tp_schedule_check.proofs.plans.are_same_acts.Goals as goal

pub returns : goal.returns
returns c = acts-Decides c.args.other.now c.args.one.now c.eq.result c.eq.ensures
