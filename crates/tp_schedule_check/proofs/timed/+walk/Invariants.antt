use Rattle.std.proofs.Common.{length}
use Rattle.tp_schedule_check.proofs.timed.+walk.Given as goal

abbrev pub decreases-walk : goal.decreases-walk
decreases-walk l = length l.acts.now
