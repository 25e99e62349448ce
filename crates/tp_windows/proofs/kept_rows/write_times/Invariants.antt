use Rattle.std.proofs.Common.{◌≡◌, ◌++◌, map, take, drop, All}
use Rattle.tp_windows.specs.RowLists.{timed}
use Rattle.tp_windows.specs.Rows.{IsNear}
use Rattle.tp_windows.proofs.kept_rows.write_times.Given as goal

abbrev pub invariant-holds : goal.invariant-holds
invariant-holds l = record {
  written : l.holds ≡ map (timed l.ranges.lows.items l.ranges.highs.items) (take l.number l.fn.holds) ++ drop l.number l.fn.holds;
  near : All IsNear (take l.number l.holds);
}
