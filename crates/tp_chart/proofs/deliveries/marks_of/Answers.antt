use Rattle.std.proofs.Common.{arith}
use Rattle.std.proofs.lemmas.Grind.{common_steps}
use Rattle.tp_chart.proofs.deliveries.marks_of.Goals as goal

pub loop-course-preserved : goal.loop-course-preserved
loop-course-preserved c = grind (arith, common_steps)
