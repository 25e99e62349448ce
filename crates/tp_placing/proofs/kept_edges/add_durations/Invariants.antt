use Rattle.std.proofs.Common.{◌≡◌, ◌≤◌, ◌+◌, ◌++◌, drop, vec_capacity}
use Rattle.tp_placing.specs.LoadedNet.{plans_edges, point_count}
use Rattle.tp_placing.proofs.kept_edges.add_durations.Given as goal

abbrev pub invariant-loop-plan : goal.invariant-loop-plan
invariant-loop-plan l = record {
  count : l.first + point_count (drop l.plan-index l.plans) ≡ point_count l.plans;
  all : l.edges.items ++ plans_edges l.machine l.first (drop l.plan-index l.plans) ≡ l.fn.edges.items ++ plans_edges l.machine 0 l.plans;
  space : vec_capacity l.fn.edges ≤ vec_capacity l.edges;
}
