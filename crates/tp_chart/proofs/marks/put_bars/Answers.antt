use Rattle.std.proofs.Common.{arith}
use Rattle.std.proofs.lemmas.Grind.{common_steps}
use Rattle.tp_chart.proofs.marks.put_bars.Goals as goal

pub loop-bar-preserved : goal.loop-bar-preserved
loop-bar-preserved c = grind (arith, common_steps)
