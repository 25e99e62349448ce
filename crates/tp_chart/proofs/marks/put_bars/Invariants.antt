use Rattle.std.proofs.Common.{◌≡◌, ◌++◌, take}
use Rattle.std.specs.List.{flat_map}
use Rattle.tp_chart.specs.Pictures.{bar_text, colour_of}
use Rattle.tp_chart.proofs.marks.put_bars.Given as goal

abbrev pub invariant-loop-bar : goal.invariant-loop-bar
invariant-loop-bar l = l.out.items ≡ l.fn.out.items ++ flat_map (bar_text l.machine (colour_of l.jobs)) (take l.bar-index l.bars)
