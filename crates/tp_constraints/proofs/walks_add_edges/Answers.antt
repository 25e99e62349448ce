use Rattle.tp_constraints.proofs.PlaceWalks.{before_net, earlier_net, stand_net, start_net, walk_shut, walk_solutions}
use Rattle.tp_constraints.proofs.walks_add_edges.Goals as goal

pub returns-clause-start : goal.returns-clause-start
returns-clause-start c = start_net

pub returns-clause-before : goal.returns-clause-before
returns-clause-before c = before_net

pub returns-clause-stand : goal.returns-clause-stand
returns-clause-stand c = stand_net

pub returns-clause-earlier : goal.returns-clause-earlier
returns-clause-earlier c = earlier_net

pub returns-clause-solutions : goal.returns-clause-solutions
returns-clause-solutions c = walk_solutions

pub returns-clause-shut : goal.returns-clause-shut
returns-clause-shut c = walk_shut
