use Rattle.std.proofs.Common.{◌≡◌, ℕ, ◌+◌, ◌*◌, ◌-◌, ◌<◌, ◌≤◌, ◌++◌, List, All, drop, take, length, map, vec_len, vec_capacity}
use Rattle.tp_base.specs.declared.edges.Edge.{Edge}
use Rattle.tp_constraints.specs.Numbers.{table_of}
use Rattle.tp_schedule.specs.Spots.{Slot}
use Rattle.tp_timelines.specs.Orders.{order_on, total}
use Rattle.tp_placing.specs.AddedEdges.{HasPut, slot_by}
use Rattle.tp_placing.specs.LoadedNet.{AreIds}
use Rattle.tp_placing.specs.LoadedBoard.{AreSlots}
use Rattle.tp_placing.specs.declared.causes.EdgeCause.{EdgeCause}
use Rattle.tp_placing.proofs.added_holds.put_holds.Given as goal

abbrev pub invariant-loop-number : goal.invariant-loop-number
invariant-loop-number l = record {
  put : (before : ℕ → List Slot) → ((r : ℕ) → All (λ s. s.rule.resource.0 ≡ r) (before r))
      → ((r : ℕ) → r < length l.machine.resources → AreSlots (table_of l.look.plans.now) l.look.held.now (order_on l.fn.timelines.orders r) (before r))
      → (es : List Edge) × (l.edges.items ≡ l.fn.edges.items ++ es)
      × HasPut l.machine l.look.plans.now before l.look.held.now l.timelines.orders es l.causes (map (slot_by (table_of l.look.plans.now)) (take (l.number - l.from) (drop l.from l.look.held.now)));
  causes : (more : List EdgeCause) × (l.causes ≡ l.fn.causes ++ more);
  ids : (r : ℕ) → r < length l.timelines.orders → AreIds l.look.held.now (order_on l.timelines.orders r);
  few : length l.causes ≡ length l.fn.causes + 2 * (l.number - l.from);
  some : vec_len l.edges ≤ vec_len l.fn.edges + 2 * (l.number - l.from);
  total : total l.timelines.orders ≡ total l.fn.timelines.orders + (l.number - l.from);
  resources : length l.timelines.orders ≡ length l.fn.timelines.orders;
  past : l.timelines.past ≡ l.fn.timelines.past;
  hold_capacity : l.timelines.hold_capacity ≡ l.fn.timelines.hold_capacity;
  marks : l.timelines.max_marks ≡ l.fn.timelines.max_marks;
  capacity : vec_capacity l.fn.edges ≤ vec_capacity l.edges;
  from : l.from ≤ l.number;
}
