use Rattle.std.proofs.Common.{length}
use Rattle.tp_schedule.proofs.outage_spread.+mode_of_acts.Given as goal

abbrev pub decreases-mode_of_acts : goal.decreases-mode_of_acts
decreases-mode_of_acts l = length l.acts.now
