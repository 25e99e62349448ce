use Rattle.tp_constraints.proofs.PointTable.{table_law}
use Rattle.tp_constraints.proofs.BoardNets.{load_net, goal_net, action_net, place_net, stop_net}
use Rattle.tp_constraints.proofs.steps_add_edges.Goals as goal

pub returns-clause-table : goal.returns-clause-table
returns-clause-table c = table_law

pub returns-clause-load : goal.returns-clause-load
returns-clause-load c = load_net

pub returns-clause-goal : goal.returns-clause-goal
returns-clause-goal c = goal_net

pub returns-clause-action : goal.returns-clause-action
returns-clause-action c = action_net

pub returns-clause-place : goal.returns-clause-place
returns-clause-place c = place_net

pub returns-clause-stop : goal.returns-clause-stop
returns-clause-stop c = stop_net
