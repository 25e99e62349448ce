use Rattle.tp_constraints.proofs.WayEnds.{complete-start, going-incomplete, start-complete}
use Rattle.tp_constraints.proofs.choice_ways.complete_ways_start.Goals as goal

pub returns-clause-start : goal.returns-clause-start
returns-clause-start c = complete-start

pub returns-clause-complete : goal.returns-clause-complete
returns-clause-complete c = start-complete

pub returns-clause-going : goal.returns-clause-going
returns-clause-going c = going-incomplete
