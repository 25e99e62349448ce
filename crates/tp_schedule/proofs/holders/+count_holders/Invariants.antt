use Rattle.std.proofs.Common.{length}
use Rattle.tp_schedule.proofs.holders.+count_holders.Given as goal

abbrev pub decreases-count_holders : goal.decreases-count_holders
decreases-count_holders l = length l.acts.now
