use Rattle.std.proofs.Common.{arith}
use Rattle.std.proofs.lemmas.Grind.{common_steps}
use Rattle.tp_log_planner.proofs.asides.next_from.Goals as goal

pub asides-preserved : goal.asides-preserved
asides-preserved c = record {
  passed = grind (arith, common_steps);
  further = grind (arith, common_steps);
  within = grind (arith, common_steps);
}
