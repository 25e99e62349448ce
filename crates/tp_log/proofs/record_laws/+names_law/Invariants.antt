use Rattle.std.proofs.Common.{length}
use Rattle.tp_log.proofs.record_laws.+names_law.Given as goal

abbrev pub decreases-names_law : goal.decreases-names_law
decreases-names_law l = length l.names.now
