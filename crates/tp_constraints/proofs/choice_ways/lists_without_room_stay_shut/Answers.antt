use Rattle.tp_constraints.proofs.WayChildren.{child-closed, child-full, goal-closed}
use Rattle.tp_constraints.proofs.choice_ways.lists_without_room_stay_shut.Goals as goal

pub returns-clause-goal : goal.returns-clause-goal
returns-clause-goal c = goal-closed

pub returns-clause-child : goal.returns-clause-child
returns-clause-child c = child-closed

pub returns-clause-full : goal.returns-clause-full
returns-clause-full c = child-full
