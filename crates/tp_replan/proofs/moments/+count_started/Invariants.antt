use Rattle.std.proofs.Common.{length}
use Rattle.tp_replan.proofs.moments.+count_started.Given as goal

abbrev pub decreases-count_started : goal.decreases-count_started
decreases-count_started l = length l.acts.now
