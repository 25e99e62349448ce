use Rattle.tp_constraints.proofs.WayLists.{first-only, way-list, way-walk}
use Rattle.tp_constraints.proofs.choice_ways.ways_are_lists.Goals as goal

pub returns-clause-list : goal.returns-clause-list
returns-clause-list c = way-list

pub returns-clause-walk : goal.returns-clause-walk
returns-clause-walk c = way-walk

pub returns-clause-only : goal.returns-clause-only
returns-clause-only c = first-only
