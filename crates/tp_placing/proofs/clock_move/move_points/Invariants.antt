use Rattle.std.proofs.Common.{◌≡◌, ◌++◌, ℕ, [], drop, take}
use Rattle.std.specs.List.{flat_map}
use Rattle.tp_base.specs.Net.{IsLeast}
use Rattle.tp_base.specs.Readings.{IsSameSize}
use Rattle.tp_placing.specs.LoadedNet.{caps_of, lows_of, point_count}
use Rattle.tp_placing.proofs.clock_move.move_points.Given as goal

-- the points of the plans so far have the new bounds, those behind them the old ones
abbrev pub invariant-loop-plan : goal.invariant-loop-plan
invariant-loop-plan g l = record {
  first : l.first ≡ point_count (take l.plan-index l.plans);
  lows : (g.N.Network.reading.net l.net).lows ≡ flat_map (lows_of l.floor) (take l.plan-index l.plans) ++ drop l.first (g.N.Network.reading.net l.fn.net).lows;
  caps : (g.N.Network.reading.net l.net).caps ≡ flat_map (caps_of l.horizon) (take l.plan-index l.plans) ++ drop l.first (g.N.Network.reading.net l.fn.net).caps;
  edges : (g.N.Network.reading.net l.net).edges ≡ (g.N.Network.reading.net l.fn.net).edges;
  least : (x : ℕ → ℕ) → IsLeast (g.N.Network.reading.net l.fn.net) x → IsLeast (g.N.Network.reading.net l.net) x;
  past : g.N.Network.reading.past l.net ≡ [];
  same_size : IsSameSize g.N.Network.reading l.fn.net l.net;
}
