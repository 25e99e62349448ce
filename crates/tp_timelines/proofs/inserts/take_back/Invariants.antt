use Rattle.std.proofs.Common.{◌≡◌, ℕ, ◌≤◌, length, take, drop, vec_capacity}
use Rattle.tp_timelines.specs.Orders.{numbers_of, total, HaveCapacity}
use Rattle.tp_timelines.specs.Inserts.{taken_back, StandAt}
use Rattle.tp_timelines.proofs.inserts.take_back.Given as goal

abbrev pub invariant-back : goal.invariant-back
invariant-back l = record {
  inserted : l.inserted.items ≡ take (length l.inserted.items) l.initial.inserted.items;
  to : l.to ≤ length l.inserted.items;
  back : taken_back (drop l.to l.inserted.items) (numbers_of l.orders.items) ≡ taken_back (drop l.to l.initial.inserted.items) (numbers_of l.initial.orders.items);
  stand : StandAt (numbers_of l.orders.items) l.inserted.items;
  all : total (numbers_of l.initial.orders.items) ≡ length l.initial.inserted.items → total (numbers_of l.orders.items) ≡ length l.inserted.items;
  spacious : (holds : ℕ) → HaveCapacity holds l.initial.orders.items → HaveCapacity holds l.orders.items;
  capacity : vec_capacity l.inserted ≡ vec_capacity l.initial.inserted;
}

abbrev pub decreases-back : goal.decreases-back
decreases-back l = length l.inserted.items
