use Rattle.std.proofs.Common.{arith}
use Rattle.std.proofs.lemmas.Grind.{common_steps}
use Rattle.tp_compose.proofs.end_rules.joined.Goals as goal

pub joins-preserved : goal.joins-preserved
joins-preserved c = grind (arith, common_steps)
