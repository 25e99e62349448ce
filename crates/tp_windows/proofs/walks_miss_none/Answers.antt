use Rattle.tp_windows.proofs.Halving.{none_law, split_law, walk_law}
use Rattle.tp_windows.proofs.walks_miss_none.Goals as goal

pub returns-clause-split : goal.returns-clause-split
returns-clause-split c = split_law

pub returns-clause-walk : goal.returns-clause-walk
returns-clause-walk c = walk_law

pub returns-clause-none : goal.returns-clause-none
returns-clause-none c = none_law
