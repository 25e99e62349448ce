use Rattle.std.proofs.Common.{arith}
use Rattle.std.proofs.lemmas.Grind.{common_steps}
use Rattle.tp_snapshot.proofs.Seen.{seen}
use Rattle.tp_snapshot.proofs.moments.stock_value.Goals as goal

pub stock-preserved : goal.stock-preserved
stock-preserved c = grind (arith, common_steps, seen)
