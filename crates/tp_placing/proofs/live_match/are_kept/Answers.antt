use Rattle.std.proofs.Common.{arith, slice_index, subst, pos}
use Rattle.std.proofs.lemmas.List.{take_all}
use Rattle.std.proofs.lemmas.List.Elements.{All-more}
use Rattle.tp_base.specs.Net.{Keeps}
use Rattle.tp_placing.specs.AddedEdges.{KeepEdges}
use Rattle.tp_placing.specs.LoadedHolds.{ticks_in}
use Rattle.tp_placing.proofs.live_match.are_kept.Goals as goal

pub loop-at-preserved : goal.loop-at-preserved
loop-at-preserved c = record {
  kept = All-more (Keeps (slice_index (ticks_in c.args.plans.now))) c.args.edges.now c.loop-at.at (record { from = record { 0 = 0 }; to = record { 0 = 0 }; weight = pos 0; tag = 0 }) c.loop-at-test.true c.loop-at.invariant.kept
      (c.is_kept.ensures c.if-not-is_kept.false);
}

pub returns : goal.returns
returns c _ =
    let all = take_all c.loop-at.at c.args.edges.now (omega (arith, c.loop-at-test.false)) in
    subst (KeepEdges c.args.plans.now) all c.loop-at.invariant.kept
