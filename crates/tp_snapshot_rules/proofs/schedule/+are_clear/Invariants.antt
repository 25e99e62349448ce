use Rattle.std.proofs.Common.{length}
use Rattle.tp_snapshot_rules.proofs.schedule.+are_clear.Given as goal

abbrev pub decreases-are_clear : goal.decreases-are_clear
decreases-are_clear l = length l.acts.now
