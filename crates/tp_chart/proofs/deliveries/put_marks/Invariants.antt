use Rattle.std.proofs.Common.{◌≡◌, ◌++◌, take}
use Rattle.std.specs.List.{flat_map}
use Rattle.tp_chart.specs.Pictures.{colour_of, mark_text}
use Rattle.tp_chart.proofs.deliveries.put_marks.Given as goal

abbrev pub invariant-loop-mark : goal.invariant-loop-mark
invariant-loop-mark l = l.out.items ≡ l.fn.out.items ++ flat_map (mark_text (colour_of l.jobs)) (take l.mark-index l.marks)
