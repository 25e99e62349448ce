use Rattle.std.proofs.Common.{◌≡◌, ◌∙◌, suc, length, refl, ap, arith, false}
use Rattle.tp_schedule.specs.Times.{ticks_from}
use Rattle.tp_constraints.specs.Gaps.{low_of, cap_of}
use Rattle.tp_placing.specs.LoadedNet.{with_bounds}
use Rattle.tp_placing.proofs.LoadPoints.{bounds-push, bounds-count}
use Rattle.tp_placing.proofs.NetworkFacts.{same-size-then}
use Rattle.tp_placing.proofs.kept_points.add_plan.Goals as goal

pub unreachable-requires : goal.unreachable-requires
unreachable-requires g c =
    let full = c.in-Err.ensures.full.0 refl in
    let count = bounds-count _ _ _ _ _ c.loop-at.invariant.added in
    let same = c.loop-at.invariant.same_size.points in
    let room = c.requires.capacity in
    let test = c.loop-at-test.true in
    let len = c.len-at-end.ensures.len in
    omega arith

pub loop-at-preserved : goal.loop-at-preserved
loop-at-preserved g c =
    let v = c.loop-at.invariant in
    let a = c.in-Ok.ensures in
    record {
      added = bounds-push _ _ _ (low_of c.args.floor (λ _. false) c.args.plan.now) (cap_of c.args.horizon c.args.plan.now) c.loop-at.at _ _ v.added c.lowest-low.ensures c.highest-high.ensures a.added;
      solved = a.solved;
      past = a.past ∙ v.past;
      same_size = same-size-then v.same_size a.same_size;
    }

pub returns-clause-added : goal.returns-clause-added
returns-clause-added g c =
    let end = c.loop-at-test.false in
    let within = c.loop-at.auto.at-end in
    let len = c.len-at-end.ensures.len in
    let all : c.loop-at.at ≡ suc (length c.args.plan.now.acts) = omega arith in
    c.loop-at.invariant.added ∙ ap (λ n. with_bounds (ticks_from (low_of c.args.floor (λ _. false) c.args.plan.now) 0 n) (ticks_from (cap_of c.args.horizon c.args.plan.now) 0 n) (g.N.Network.reading.net c.args.net.now)) all
