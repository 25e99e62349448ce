use Rattle.std.proofs.Common.{◌≡◌, ◌≤◌, ◌++◌, length, vec_capacity}
use Rattle.tp_placing.specs.LoadedNet.{chains_causes, chains_edges, holds_on}
use Rattle.tp_placing.proofs.kept_chains.add_chains.Given as goal

abbrev pub invariant-loop-left : goal.invariant-loop-left
invariant-loop-left l = record {
  within : l.left ≤ l.resources;
  all : l.edges.items ++ chains_edges l.machine (length l.causes) (holds_on l.held l.timelines.orders) l.left ≡ l.fn.edges.items ++ chains_edges l.machine (length l.fn.causes) (holds_on l.held l.timelines.orders) l.resources;
  causes : l.causes ++ chains_causes (holds_on l.held l.timelines.orders) l.left ≡ l.fn.causes ++ chains_causes (holds_on l.held l.timelines.orders) l.resources;
  space : vec_capacity l.fn.edges ≤ vec_capacity l.edges;
}

abbrev pub decreases-loop-left : goal.decreases-loop-left
decreases-loop-left l = l.left
