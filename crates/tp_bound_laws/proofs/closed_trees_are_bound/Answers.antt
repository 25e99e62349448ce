use Rattle.tp_bound_laws.proofs.ClosedTrees.{trees_are_covers}
use Rattle.tp_bound_laws.proofs.closed_trees_are_bound.Goals as goal

pub returns : goal.returns
returns c = trees_are_covers
