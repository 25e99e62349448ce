use Rattle.std.proofs.Common.{arith}
use Rattle.std.proofs.lemmas.Grind.{common_steps}
use Rattle.tp_snapshot.proofs.Seen.{seen}
use Rattle.tp_snapshot.proofs.waiting_copies.waiting_value.Goals as goal

pub waiting-preserved : goal.waiting-preserved
waiting-preserved c = record {
  known = grind (arith, common_steps);
  whole = grind (arith, common_steps, seen);
}
