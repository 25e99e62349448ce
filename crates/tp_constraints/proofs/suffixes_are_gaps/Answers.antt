use Rattle.tp_constraints.proofs.SuffixGaps.{suffix_law}
use Rattle.tp_constraints.proofs.Rooms.{room_law}
use Rattle.tp_constraints.proofs.suffixes_are_gaps.Goals as goal

pub returns-clause-times : goal.returns-clause-times
returns-clause-times c = suffix_law

pub returns-clause-rooms : goal.returns-clause-rooms
returns-clause-rooms c = room_law
