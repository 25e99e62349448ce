use Rattle.std.proofs.Common.{arith}
use Rattle.std.proofs.lemmas.Grind.{common_steps}
use Rattle.tp_compose.proofs.flat_table.locations_value.Goals as goal

pub ends-preserved : goal.ends-preserved
ends-preserved c = grind (arith, common_steps)
