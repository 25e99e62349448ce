use Rattle.std.proofs.Common.{◌≡◌, ℕ, ◌<◌, ◌≤◌, Some, pos, negsuc}
use Rattle.std.specs.Prelude.{◌≤ℤ◌, ◌+ℤ◌}
use Rattle.tp_base.specs.Net.{IsSolution}
use Rattle.tp_timelines.specs.Orders.{order_on}
use Rattle.tp_placing.specs.PushedHolds.{ArePlanned, IsPutBy, IsRowBy, LastsAtLeast, begin_by}
use Rattle.tp_placing.specs.Edges.{held_behind}
use Rattle.tp_placing.specs.declared.parts.Held.{Held}
use Rattle.tp_placing.proofs.crowded_places.begin_behind.Given as goal

abbrev pub invariant-walk : goal.invariant-walk
invariant-walk g l = record {
  within : l.at ≤ l.place;
  till_low : negsuc 4294967295 ≤ℤ l.till;
  till_high : l.till ≤ℤ pos 1099511627776;
  rest_low : pos 0 ≤ℤ l.rest;
  rest_high : l.rest ≤ℤ pos 1099511627776;
  pushes : (y : ℕ → ℕ) → ArePlanned l.known.machine.now l.known.plans.now l.known.firsts.now y → IsRowBy y l.known.held.now (order_on l.timelines.orders l.new.rule.resource.0) → (f h : Held) → held_behind l.known.held.now (order_on l.timelines.orders l.new.rule.resource.0) l.at ≡ Some f
      → held_behind l.known.held.now (order_on l.timelines.orders l.new.rule.resource.0) l.place ≡ Some h → (begin_by y f +ℤ l.rest) ≤ℤ begin_by y h;
  till : (y : ℕ → ℕ) (earlier : ℕ) → l.at < earlier → earlier ≤ l.place → IsSolution (g.N.Network.reading.net l.net) y → ArePlanned l.known.machine.now l.known.plans.now l.known.firsts.now y → LastsAtLeast y l.new l.fn.least → IsPutBy y l.known.held.now (order_on l.timelines.orders l.new.rule.resource.0) l.new earlier
      → (h : Held) → held_behind l.known.held.now (order_on l.timelines.orders l.new.rule.resource.0) l.place ≡ Some h → l.till ≤ℤ begin_by y h;
}

abbrev pub decreases-walk : goal.decreases-walk
decreases-walk g l = l.at
