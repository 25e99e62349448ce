use Rattle.tp_constraints.proofs.ScheduleGaps.{gaps_law}
use Rattle.tp_constraints.proofs.schedules_are_gaps.Goals as goal

pub returns : goal.returns
returns c = gaps_law
