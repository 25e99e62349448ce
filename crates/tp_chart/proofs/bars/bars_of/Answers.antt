use Rattle.std.proofs.Common.{arith}
use Rattle.std.proofs.lemmas.Grind.{common_steps}
use Rattle.tp_chart.proofs.bars.bars_of.Goals as goal

pub courses-preserved : goal.courses-preserved
courses-preserved c = record {
  so_far = grind (arith, common_steps);
  counted = grind (arith, common_steps);
}
