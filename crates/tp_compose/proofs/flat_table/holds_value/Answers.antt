use Rattle.std.proofs.Common.{arith}
use Rattle.std.proofs.lemmas.Grind.{common_steps}
use Rattle.tp_compose.proofs.flat_table.holds_value.Goals as goal

pub holds-preserved : goal.holds-preserved
holds-preserved c = grind (arith, common_steps)
