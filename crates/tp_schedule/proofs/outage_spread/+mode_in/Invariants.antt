use Rattle.std.proofs.Common.{length}
use Rattle.tp_schedule.proofs.outage_spread.+mode_in.Given as goal

abbrev pub decreases-mode_in : goal.decreases-mode_in
decreases-mode_in l = length l.holds.now
