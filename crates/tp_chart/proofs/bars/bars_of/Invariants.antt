use Rattle.std.proofs.Common.{◌≡◌, ◌+◌, ◌≤◌, ◌++◌, length}
use Rattle.tp_chart.specs.Bars.{bars_from}
use Rattle.tp_chart.proofs.bars.bars_of.Given as goal

abbrev pub decreases-courses : goal.decreases-courses
decreases-courses l = length l.rest

abbrev pub invariant-courses : goal.invariant-courses
invariant-courses l = record {
  so_far : l.bars.items ++ bars_from l.scope l.machine l.rows l.row l.rest ≡ bars_from l.scope l.machine l.rows 0 l.courses;
  counted : l.row + length l.rest ≤ length l.courses;
}
