use Rattle.tp_bound_laws.proofs.TreeBounds.{tree_bounds}
use Rattle.tp_bound_laws.proofs.LiveTrees.{tree_tells}
use Rattle.tp_bound_laws.proofs.trees_show_bounds.Goals as goal

pub returns-clause-bounds : goal.returns-clause-bounds
returns-clause-bounds c = tree_bounds

pub returns-clause-tells : goal.returns-clause-tells
returns-clause-tells c = tree_tells
