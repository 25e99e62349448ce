use Rattle.std.proofs.Common.{arith}
use Rattle.std.proofs.lemmas.Grind.{common_steps}
use Rattle.tp_timelines.proofs.inserts.empty_orders.Goals as goal

pub orders-preserved : goal.orders-preserved
orders-preserved c = record {
  numbers = grind (arith, common_steps);
  capacity = grind (arith, common_steps);
  within = grind (arith, common_steps);
}
