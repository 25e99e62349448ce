use Rattle.tp_constraints.proofs.WayChildren.{child-late, goal-late, stop-late}
use Rattle.tp_constraints.proofs.choice_ways.late_lists_stay_shut.Goals as goal

pub returns-clause-goal : goal.returns-clause-goal
returns-clause-goal c = goal-late

pub returns-clause-child : goal.returns-clause-child
returns-clause-child c = child-late

pub returns-clause-stop : goal.returns-clause-stop
returns-clause-stop c = stop-late
