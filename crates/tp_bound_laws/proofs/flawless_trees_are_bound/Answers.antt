use Rattle.tp_bound_laws.proofs.Flawless.{flawless_is_bound}
use Rattle.tp_bound_laws.proofs.flawless_trees_are_bound.Goals as goal

pub returns : goal.returns
returns c = flawless_is_bound
