use Rattle.std.proofs.Common.{◌≡◌, fold, max, take}
use Rattle.tp_chart.proofs.view.latest.Given as goal

abbrev pub invariant-loop-course : goal.invariant-loop-course
invariant-loop-course l = l.last ≡ fold (λ last w. fold max last w.points) 0 (take l.course-index l.courses)
