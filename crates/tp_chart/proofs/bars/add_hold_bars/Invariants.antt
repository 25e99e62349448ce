use Rattle.std.proofs.Common.{◌≡◌, ◌++◌, take}
use Rattle.std.specs.List.{flat_map}
use Rattle.tp_chart.specs.Bars.{hold_bars_in}
use Rattle.tp_chart.proofs.bars.add_hold_bars.Given as goal

abbrev pub invariant-loop-run : goal.invariant-loop-run
invariant-loop-run l = l.bars.items ≡ l.fn.bars.items ++ flat_map (hold_bars_in l.first l.machine l.rows l.course) (take l.run-index l.runs)
