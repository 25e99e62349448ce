use Rattle.std.proofs.Common.{◌≡◌, ◌+◌, ◌≤◌, ◌++◌, length}
use Rattle.tp_chart.specs.Lines.{log_in}
use Rattle.tp_chart.proofs.lines.log_in.Given as goal

abbrev pub decreases-lines : goal.decreases-lines
decreases-lines l = length l.rest

abbrev pub invariant-lines : goal.invariant-lines
invariant-lines l = (l.log.items ++ log_in l.number l.rest ≡ log_in l.number l.text) × (length l.log.items + length l.rest ≤ length l.text)
