use Rattle.std.proofs.Common.{arith}
use Rattle.std.proofs.lemmas.Grind.{common_steps}
use Rattle.tp_snapshot.proofs.Seen.{seen}
use Rattle.tp_snapshot.proofs.plans.acts_value.Goals as goal

pub acts-preserved : goal.acts-preserved
acts-preserved c = record {
  known = grind (arith, common_steps);
  whole = grind (arith, common_steps, seen);
}
