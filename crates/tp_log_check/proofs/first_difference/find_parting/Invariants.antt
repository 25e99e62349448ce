use Rattle.std.proofs.Common.{length}
use Rattle.tp_log_check.proofs.PartingFacts.{GoneThrough}
use Rattle.tp_log_check.proofs.first_difference.find_parting.Given as goal

abbrev pub invariant-items : goal.invariant-items
invariant-items l = GoneThrough l.notes l.items l.rest l.due

abbrev pub decreases-items : goal.decreases-items
decreases-items l = length l.rest
