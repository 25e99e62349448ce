use Rattle.std.proofs.Common.{◌≡◌, ℕ, [], false}
use Rattle.tp_base.specs.Net.{IsLeast}
use Rattle.tp_base.specs.Readings.{IsSameSize}
use Rattle.tp_schedule.specs.Times.{ticks_from}
use Rattle.tp_constraints.specs.Gaps.{low_of, cap_of}
use Rattle.tp_placing.specs.ClockMove.{with_bounds_from}
use Rattle.tp_placing.proofs.clock_move.move_plan.Given as goal

abbrev pub invariant-loop-at : goal.invariant-loop-at
invariant-loop-at g l = record {
  moved : g.N.Network.reading.net l.net ≡ with_bounds_from l.first (ticks_from (low_of l.floor (λ _. false) l.plan) 0 l.at) (ticks_from (cap_of l.horizon l.plan) 0 l.at) (g.N.Network.reading.net l.fn.net);
  least : (x : ℕ → ℕ) → IsLeast (g.N.Network.reading.net l.fn.net) x → IsLeast (g.N.Network.reading.net l.net) x;
  past : g.N.Network.reading.past l.net ≡ [];
  same_size : IsSameSize g.N.Network.reading l.fn.net l.net;
}
