use Rattle.std.proofs.Common.{◌≡◌, false}
use Rattle.tp_base.specs.Net.{HasLeast}
use Rattle.tp_base.specs.Readings.{IsSameSize}
use Rattle.tp_schedule.specs.Times.{ticks_from}
use Rattle.tp_constraints.specs.Gaps.{low_of, cap_of}
use Rattle.tp_placing.specs.LoadedNet.{with_bounds}
use Rattle.tp_placing.proofs.kept_points.add_plan.Given as goal

abbrev pub invariant-loop-at : goal.invariant-loop-at
invariant-loop-at g l = record {
  added : g.N.Network.reading.net l.net ≡ with_bounds (ticks_from (low_of l.floor (λ _. false) l.plan) 0 l.at) (ticks_from (cap_of l.horizon l.plan) 0 l.at) (g.N.Network.reading.net l.fn.net);
  solved : HasLeast (g.N.Network.reading.net l.net);
  past : g.N.Network.reading.past l.net ≡ g.N.Network.reading.past l.fn.net;
  same_size : IsSameSize g.N.Network.reading l.fn.net l.net;
}
