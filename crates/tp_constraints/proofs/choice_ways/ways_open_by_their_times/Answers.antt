use Rattle.tp_constraints.proofs.WayLists.{open-times, way-opens}
use Rattle.tp_constraints.proofs.choice_ways.ways_open_by_their_times.Goals as goal

pub returns-clause-opens : goal.returns-clause-opens
returns-clause-opens c = way-opens

pub returns-clause-times : goal.returns-clause-times
returns-clause-times c = open-times
