use Rattle.std.proofs.Common.{◌≡◌, map, take}
use Rattle.std.specs.List.{flat_map}
use Rattle.tp_chart.specs.Pictures.{marks_in, placeless}
use Rattle.tp_chart.proofs.deliveries.marks_of.Given as goal

abbrev pub invariant-loop-course : goal.invariant-loop-course
invariant-loop-course l = map placeless l.marks.items ≡ flat_map (marks_in l.frame.scope.first l.machine) (take l.course-index l.courses)
