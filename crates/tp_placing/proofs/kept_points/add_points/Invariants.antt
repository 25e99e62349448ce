use Rattle.std.proofs.Common.{◌≡◌, ◌≤◌, ◌+◌, ◌++◌, drop, length, vec_len, vec_capacity}
use Rattle.tp_base.specs.Net.{HasLeast}
use Rattle.tp_base.specs.Readings.{IsSameSize}
use Rattle.tp_placing.specs.LoadedNet.{with_plans, firsts_from, point_count}
use Rattle.tp_placing.proofs.kept_points.add_points.Given as goal

-- what is left makes all
abbrev pub invariant-loop-plan : goal.invariant-loop-plan
invariant-loop-plan g l = record {
  count : l.first + point_count (drop l.plan-index l.plans) ≡ point_count l.plans;
  room : length (g.N.Network.reading.net l.net).lows + point_count (drop l.plan-index l.plans) ≤ g.N.Network.reading.max_points l.net;
  space : vec_len l.firsts + length (drop l.plan-index l.plans) ≤ vec_capacity l.firsts;
  all : with_plans l.floor l.horizon (drop l.plan-index l.plans) (g.N.Network.reading.net l.net) ≡ with_plans l.floor l.horizon l.plans (g.N.Network.reading.net l.fn.net);
  firsts : l.firsts.items ++ firsts_from l.first (drop l.plan-index l.plans) ≡ l.fn.firsts.items ++ firsts_from 0 l.plans;
  capacity : vec_capacity l.fn.firsts ≤ vec_capacity l.firsts;
  solved : HasLeast (g.N.Network.reading.net l.net);
  past : g.N.Network.reading.past l.net ≡ g.N.Network.reading.past l.fn.net;
  same_size : IsSameSize g.N.Network.reading l.fn.net l.net;
}
