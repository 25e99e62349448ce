use Rattle.std.proofs.Common.{length}
use Rattle.tp_log_check.proofs.PartingFacts.{LookedThrough}
use Rattle.tp_log_check.proofs.first_difference.find_tree.Given as goal

abbrev pub invariant-trees : goal.invariant-trees
invariant-trees l = LookedThrough l.from l.items l.rest

abbrev pub decreases-trees : goal.decreases-trees
decreases-trees l = length l.rest
