use Rattle.tp_constraints.proofs.NeighbourHops.{load_hops, goal_hops, action_hops, stop_hops}
use Rattle.tp_constraints.proofs.PlaceHops.{places_hops}
use Rattle.tp_constraints.proofs.gaps_are_hops.Goals as goal

pub returns-clause-load : goal.returns-clause-load
returns-clause-load c = load_hops

pub returns-clause-goal : goal.returns-clause-goal
returns-clause-goal c = goal_hops

pub returns-clause-action : goal.returns-clause-action
returns-clause-action c = action_hops

pub returns-clause-place : goal.returns-clause-place
returns-clause-place c = places_hops

pub returns-clause-stop : goal.returns-clause-stop
returns-clause-stop c = stop_hops
