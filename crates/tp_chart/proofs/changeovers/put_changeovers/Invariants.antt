use Rattle.std.proofs.Common.{length}
use Rattle.tp_chart.proofs.changeovers.put_changeovers.Given as goal

abbrev pub decreases-bars : goal.decreases-bars
decreases-bars l = length l.rest
