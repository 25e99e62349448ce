use Rattle.std.proofs.Common.{◌≡◌, ◌≤◌, ◌-◌, ◌++◌, drop, length, vec_capacity}
use Rattle.tp_placing.specs.LoadedNet.{chain_causes, chain_edges, holds_on}
use Rattle.tp_placing.proofs.kept_chains.add_chain.Given as goal

abbrev pub invariant-loop-place : goal.invariant-loop-place
invariant-loop-place l = record {
  all : l.edges.items ++ chain_edges l.gap (length l.causes) (drop (l.place - 1) (holds_on l.held l.timelines.orders l.resource.0)) ≡ l.fn.edges.items ++ chain_edges l.gap (length l.fn.causes) (holds_on l.held l.timelines.orders l.resource.0);
  causes : l.causes ++ chain_causes (drop (l.place - 1) (holds_on l.held l.timelines.orders l.resource.0)) ≡ l.fn.causes ++ chain_causes (holds_on l.held l.timelines.orders l.resource.0);
  space : vec_capacity l.fn.edges ≤ vec_capacity l.edges;
}
