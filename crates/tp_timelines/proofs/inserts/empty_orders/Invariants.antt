use Rattle.std.proofs.Common.{◌≡◌, ◌≤◌, ◌-◌, [], length, replicate}
use Rattle.tp_timelines.specs.Orders.{numbers_of, HaveCapacity}
use Rattle.tp_timelines.proofs.inserts.empty_orders.Given as goal

abbrev pub invariant-orders : goal.invariant-orders
invariant-orders l = record {
  numbers : numbers_of l.orders.items ≡ replicate (length l.orders.items) [];
  capacity : HaveCapacity l.holds l.orders.items;
  within : length l.orders.items ≤ l.count;
}

abbrev pub decreases-orders : goal.decreases-orders
decreases-orders l = l.count - length l.orders.items
