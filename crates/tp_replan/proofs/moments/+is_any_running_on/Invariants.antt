use Rattle.std.proofs.Common.{length}
use Rattle.tp_replan.proofs.moments.+is_any_running_on.Given as goal

abbrev pub decreases-is_any_running_on : goal.decreases-is_any_running_on
decreases-is_any_running_on l = length l.acts.now
