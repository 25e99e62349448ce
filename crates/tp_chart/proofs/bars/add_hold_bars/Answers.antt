use Rattle.std.proofs.Common.{arith}
use Rattle.std.proofs.lemmas.Grind.{common_steps}
use Rattle.tp_chart.proofs.bars.add_hold_bars.Goals as goal

pub loop-run-preserved : goal.loop-run-preserved
loop-run-preserved c = grind (arith, common_steps)
