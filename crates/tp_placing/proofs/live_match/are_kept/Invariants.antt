use Rattle.std.proofs.Common.{take}
use Rattle.tp_placing.specs.AddedEdges.{KeepEdges}
use Rattle.tp_placing.proofs.live_match.are_kept.Given as goal

abbrev pub invariant-loop-at : goal.invariant-loop-at
invariant-loop-at l = record {
  kept : KeepEdges l.plans (take l.at l.edges);
}
