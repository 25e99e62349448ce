use Rattle.std.proofs.Common.{◌≡◌, ◌++◌, filter, map, take}
use Rattle.tp_chart.specs.Bars.{action_bar, is_in}
use Rattle.tp_chart.proofs.bars.add_action_bars.Given as goal

abbrev pub invariant-loop-run : goal.invariant-loop-run
invariant-loop-run l = l.bars.items ≡ l.fn.bars.items ++ filter (is_in l.first) (map (action_bar l.row l.course) (take l.run-index l.runs))
