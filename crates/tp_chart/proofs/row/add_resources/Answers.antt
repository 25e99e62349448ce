use Rattle.std.proofs.Common.{arith}
use Rattle.std.proofs.lemmas.Grind.{common_steps}
use Rattle.tp_chart.proofs.row.add_resources.Goals as goal

pub resources-preserved : goal.resources-preserved
resources-preserved c = record {
  so_far = grind (arith, common_steps);
  counted = grind (arith, common_steps);
}
