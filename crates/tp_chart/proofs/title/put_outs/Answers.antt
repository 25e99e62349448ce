use Rattle.std.proofs.Common.{arith}
use Rattle.std.proofs.lemmas.Grind.{common_steps}
use Rattle.tp_chart.proofs.title.put_outs.Goals as goal

pub loop-outage-preserved : goal.loop-outage-preserved
loop-outage-preserved c = grind (arith, common_steps)
