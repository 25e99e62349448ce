-- What timelines keep true of their fields.
use Rattle.std.specs.Prelude.{◌≡◌, ℕ, ◌<◌, ◌≤◌, ◌^◌, List, length, drop, map, slice_get, Some, vec_capacity}
use Rattle.tp_timelines.specs.declared.timelines.Timelines.TheInside.{Inside}
use Rattle.tp_timelines.specs.Orders.{Orders, numbers_of, total, HaveCapacity}
use Rattle.tp_timelines.specs.Inserts.{taken_back, StandAt}

abbrev pub orders_in : Inside → Orders
orders_in a = record {
  orders = numbers_of a.orders.items;
  past = map (λ n. taken_back (drop n a.inserted.items) (numbers_of a.orders.items)) a.marks.items;
  hold_capacity = a.hold_capacity;
  max_marks = a.max_marks;
}

-- marks stand at inserts that are there, and at no less than the marks before them
pub record AreMarks (marks : List ℕ) (inserts : ℕ) : Type 0 where
  pub below : (k n : ℕ) → slice_get marks k ≡ Some n → n ≤ inserts
  pub rise : (j k m n : ℕ) → j < k → slice_get marks j ≡ Some m → slice_get marks k ≡ Some n → m ≤ n

pub record IsTimelines (a : Inside) : Type 0 where
  pub all : total (numbers_of a.orders.items) ≡ length a.inserted.items
  pub stand : StandAt (numbers_of a.orders.items) a.inserted.items
  pub at_marks : AreMarks a.marks.items (length a.inserted.items)
  pub holds : length a.inserted.items ≤ a.hold_capacity
  pub marks : length a.marks.items ≤ a.max_marks
  pub fits : a.hold_capacity < 2 ^ 32
  pub capacity : HaveCapacity a.hold_capacity a.orders.items
  pub insert_capacity : a.hold_capacity ≤ vec_capacity a.inserted
  pub mark_space : a.max_marks ≤ vec_capacity a.marks
