use Rattle.std.proofs.Common.{◌≡◌, ◌+◌, ◌<◌, ◌≤◌, ◌^◌, length}
use Rattle.tp_log_check.specs.Heights.{heights}
use Rattle.tp_log_check.proofs.flaw_lines.line_behind.Given as goal

abbrev pub invariant-items : goal.invariant-items
invariant-items l = (l.line + 1 + heights l.items < 2 ^ 64 → l.next + heights l.rest ≡ l.line + 1 + heights l.items) × (length l.rest ≤ length l.items)

abbrev pub decreases-items : goal.decreases-items
decreases-items l = length l.rest
