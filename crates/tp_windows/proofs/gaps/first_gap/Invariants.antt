use Rattle.std.proofs.Common.{ℕ, ◌-◌, ◌≤◌, length}
use Rattle.tp_windows.specs.Rows.{StandsInRow}
use Rattle.tp_windows.specs.Spans.{IsIn}
use Rattle.tp_windows.proofs.gaps.first_gap.Given as goal

abbrev pub invariant-halves : goal.invariant-halves
invariant-halves l = record {
  order : l.low ≤ l.high;
  within : l.high ≤ length l.row.kept.now;
  behind : (start end g : ℕ) → IsIn l.span start end → StandsInRow l.row.gap l.row.rule l.row.kept.now start end g → l.low ≤ g;
}

abbrev pub decreases-halves : goal.decreases-halves
decreases-halves l = l.high - l.low
