use Rattle.std.proofs.Common.{arith}
use Rattle.std.proofs.lemmas.Grind.{common_steps}
use Rattle.tp_compose.proofs.flat_table.put_resources.Goals as goal

pub names-preserved : goal.names-preserved
names-preserved c = grind (arith, common_steps)
