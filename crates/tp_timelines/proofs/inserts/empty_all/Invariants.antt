use Rattle.std.proofs.Common.{◌≡◌, ℕ, length}
use Rattle.tp_timelines.specs.Orders.{numbers_of, HaveCapacity}
use Rattle.tp_timelines.proofs.OrderFacts.{emptied}
use Rattle.tp_timelines.proofs.inserts.empty_all.Given as goal

abbrev pub invariant-orders : goal.invariant-orders
invariant-orders l = record {
  numbers : numbers_of l.orders.items ≡ emptied l.at (numbers_of l.initial.orders.items);
  capacity : (holds : ℕ) → HaveCapacity holds l.initial.orders.items → HaveCapacity holds l.orders.items;
  len : length l.orders.items ≡ length l.initial.orders.items;
}
