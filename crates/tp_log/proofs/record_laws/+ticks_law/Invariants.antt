use Rattle.std.proofs.Common.{length}
use Rattle.tp_log.proofs.record_laws.+ticks_law.Given as goal

abbrev pub decreases-ticks_law : goal.decreases-ticks_law
decreases-ticks_law l = length l.ticks.now
