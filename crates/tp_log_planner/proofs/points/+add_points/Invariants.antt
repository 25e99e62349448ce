use Rattle.std.proofs.Common.{length}
use Rattle.tp_log_planner.proofs.points.+add_points.Given as goal

abbrev pub decreases-add_points : goal.decreases-add_points
decreases-add_points l = length l.ticks.now
