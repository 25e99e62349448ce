use Rattle.std.proofs.Common.{arith}
use Rattle.std.proofs.lemmas.Grind.{common_steps}
use Rattle.tp_chart.proofs.row.add_modules.Goals as goal

pub modules-preserved : goal.modules-preserved
modules-preserved c = grind (arith, common_steps)
