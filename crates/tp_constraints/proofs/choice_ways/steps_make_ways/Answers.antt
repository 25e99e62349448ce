use Rattle.tp_constraints.proofs.WaySteps.{action-way, goal-way, place-way, stop-way}
use Rattle.tp_constraints.proofs.choice_ways.steps_make_ways.Goals as goal

pub returns-clause-goal : goal.returns-clause-goal
returns-clause-goal c = goal-way

pub returns-clause-action : goal.returns-clause-action
returns-clause-action c = action-way

pub returns-clause-place : goal.returns-clause-place
returns-clause-place c = place-way

pub returns-clause-stop : goal.returns-clause-stop
returns-clause-stop c = stop-way
