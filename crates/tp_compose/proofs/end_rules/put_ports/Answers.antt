use Rattle.std.proofs.Common.{arith}
use Rattle.std.proofs.lemmas.Grind.{common_steps}
use Rattle.tp_compose.proofs.end_rules.put_ports.Goals as goal

pub ports-preserved : goal.ports-preserved
ports-preserved c = grind (arith, common_steps)
