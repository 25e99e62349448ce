use Rattle.tp_constraints.proofs.Steps.{goal_law, action_law, stop_law}
use Rattle.tp_constraints.proofs.PlaceGaps.{place_law}
use Rattle.tp_constraints.proofs.steps_add_gaps.Goals as goal

pub returns-clause-goal : goal.returns-clause-goal
returns-clause-goal c = goal_law

pub returns-clause-action : goal.returns-clause-action
returns-clause-action c = action_law

pub returns-clause-place : goal.returns-clause-place
returns-clause-place c = place_law

pub returns-clause-stop : goal.returns-clause-stop
returns-clause-stop c = stop_law
