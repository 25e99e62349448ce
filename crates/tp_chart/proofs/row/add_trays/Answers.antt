use Rattle.std.proofs.Common.{arith}
use Rattle.std.proofs.lemmas.Grind.{common_steps}
use Rattle.tp_chart.proofs.row.add_trays.Goals as goal

pub trays-preserved : goal.trays-preserved
trays-preserved c = grind (arith, common_steps)

pub purges-preserved : goal.purges-preserved
purges-preserved c = grind (arith, common_steps)
