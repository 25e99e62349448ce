use Rattle.tp_constraints.proofs.PlaceWalks.{before_hops, stand_hops, start_hops}
use Rattle.tp_constraints.proofs.walks_are_hops.Goals as goal

pub returns-clause-start : goal.returns-clause-start
returns-clause-start c = start_hops

pub returns-clause-before : goal.returns-clause-before
returns-clause-before c = before_hops

pub returns-clause-stand : goal.returns-clause-stand
returns-clause-stand c = stand_hops
