use Rattle.std.proofs.Common.{◌≡◌, ◌+◌, drop}
use Rattle.tp_placing.specs.LoadedNet.{next_end, point_count}
use Rattle.tp_placing.proofs.kept_edges.end_of_next.Given as goal

abbrev pub invariant-loop-other : goal.invariant-loop-other
invariant-loop-other l = record {
  count : l.first + point_count (drop l.other-index l.later) ≡ l.from + point_count l.later;
  same : next_end l.plan l.first (drop l.other-index l.later) ≡ next_end l.plan l.from l.later;
}
