use Rattle.std.proofs.Common.{◌≡◌, ◌≤◌, ◌+◌, ◌++◌, drop, vec_capacity}
use Rattle.tp_placing.specs.LoadedNet.{lines_edges, point_count}
use Rattle.tp_placing.proofs.kept_edges.add_lines.Given as goal

abbrev pub invariant-loop-at : goal.invariant-loop-at
invariant-loop-at l = record {
  count : l.first + point_count (drop l.at l.plans) ≡ point_count l.plans;
  all : l.edges.items ++ lines_edges l.first (drop l.at l.plans) ≡ l.fn.edges.items ++ lines_edges 0 l.plans;
  space : vec_capacity l.fn.edges ≤ vec_capacity l.edges;
}
