use Rattle.std.proofs.Common.{◌≡◌, ◌≤◌, ◌+◌, ◌++◌, drop, vec_capacity}
use Rattle.tp_placing.specs.LoadedNet.{acts_edges}
use Rattle.tp_placing.proofs.kept_edges.add_acts.Given as goal

abbrev pub invariant-loop-act : goal.invariant-loop-act
invariant-loop-act l = record {
  start : l.start ≡ l.from + l.act-index;
  all : l.edges.items ++ acts_edges l.machine l.start (drop l.act-index l.acts) ≡ l.fn.edges.items ++ acts_edges l.machine l.from l.acts;
  space : vec_capacity l.fn.edges ≤ vec_capacity l.edges;
}
