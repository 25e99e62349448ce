use Rattle.std.proofs.Common.{arith}
use Rattle.std.proofs.lemmas.Grind.{common_steps}
use Rattle.tp_schedule_check.proofs.parting.count_common.Goals as goal

pub holds-preserved : goal.holds-preserved
holds-preserved c = record {
  before = grind (arith, common_steps);
  after = grind (arith, common_steps);
  alike = grind (arith, common_steps);
}
