use Rattle.std.proofs.Common.{length}
use Rattle.tp_replan.proofs.moments.+is_any_to_run_on.Given as goal

abbrev pub decreases-is_any_to_run_on : goal.decreases-is_any_to_run_on
decreases-is_any_to_run_on l = length l.acts.now
