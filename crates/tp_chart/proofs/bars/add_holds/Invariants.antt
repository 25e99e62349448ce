use Rattle.std.proofs.Common.{◌≡◌, ◌++◌, filter, map, take}
use Rattle.tp_chart.specs.Bars.{hold_bar, holds_named, is_in}
use Rattle.tp_chart.proofs.bars.add_holds.Given as goal

abbrev pub invariant-loop-hold : goal.invariant-loop-hold
invariant-loop-hold l = l.bars.items ≡ l.fn.bars.items ++ filter (is_in l.first) (map (hold_bar l.rows l.course l.run) (take l.hold-index (holds_named l.machine l.run.act)))
