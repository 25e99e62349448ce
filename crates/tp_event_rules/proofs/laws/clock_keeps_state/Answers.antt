use Rattle.tp_event_rules.proofs.MovedClock.{lines-clock, sheets-clock}
use Rattle.tp_event_rules.proofs.MovedPlans.{plans-clock}
use Rattle.tp_event_rules.proofs.PlanOnFacts.{CanPlanOn-clock}
use Rattle.tp_event_rules.proofs.laws.clock_keeps_state.Goals as goal

pub returns-clause-planning : goal.returns-clause-planning
returns-clause-planning c = CanPlanOn-clock

pub returns-clause-lines : goal.returns-clause-lines
returns-clause-lines c = lines-clock

pub returns-clause-sheets : goal.returns-clause-sheets
returns-clause-sheets c = sheets-clock

pub returns-clause-plans : goal.returns-clause-plans
returns-clause-plans c = plans-clock
