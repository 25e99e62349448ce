use Rattle.std.proofs.Common.{length}
use Rattle.tp_snapshot.proofs.plans.+count_started.Given as goal

abbrev pub decreases-count_started : goal.decreases-count_started
decreases-count_started l = length l.starts.now
