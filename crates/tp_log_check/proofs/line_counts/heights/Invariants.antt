use Rattle.std.proofs.Common.{◌≡◌, ◌+◌, length}
use Rattle.tp_log_check.specs.Heights.{heights}
use Rattle.tp_log_check.proofs.line_counts.heights.Given as goal

abbrev pub invariant-items : goal.invariant-items
invariant-items l = l.lines + heights l.rest ≡ heights l.items

abbrev pub decreases-items : goal.decreases-items
decreases-items l = length l.rest
