use Rattle.std.proofs.Common.{◌≡◌, fold, max, take}
use Rattle.tp_chart.proofs.view.later.Given as goal

abbrev pub invariant-loop-point : goal.invariant-loop-point
invariant-loop-point l = l.last ≡ fold max l.fn.last (take l.point-index l.points)
