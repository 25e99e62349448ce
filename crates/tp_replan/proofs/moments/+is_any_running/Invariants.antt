use Rattle.std.proofs.Common.{length}
use Rattle.tp_replan.proofs.moments.+is_any_running.Given as goal

abbrev pub decreases-is_any_running : goal.decreases-is_any_running
decreases-is_any_running l = length l.acts.now
