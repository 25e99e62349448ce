use Rattle.std.proofs.Common.{ap, arith}
use Rattle.tp_placing.specs.LoadedNet.{plans_edges, point_count}
use Rattle.tp_placing.proofs.LoadEdges.{first-fits, rest-left, drop-read}
use Rattle.tp_placing.proofs.kept_edges.add_durations.Goals as goal

pub add_acts-requires-clause-space : goal.add_acts-requires-clause-space
add_acts-requires-clause-space c =
    let v = c.loop-plan.invariant in
    let e = ap (plans_edges c.args.machine.now c.loop-plan.first) (drop-read c.args.plans.now c.loop-plan.plan-index c.plan-item.result c.loop-plan-test.true c.plan-item.is) in
    rw c.as_slice.ensures.items (first-fits _ _ _ _ _ _ _ _ _ _ c.loop-plan.edges.ok.0 c.args.edges.now.ok.0 v.all e c.requires.space v.space)

pub loop-plan-preserved : goal.loop-plan-preserved
loop-plan-preserved c =
    let v = c.loop-plan.invariant in
    let d = drop-read c.args.plans.now c.loop-plan.plan-index c.plan-item.result c.loop-plan-test.true c.plan-item.is in
    let e = ap (plans_edges c.args.machine.now c.loop-plan.first) d in
    let counted = ap point_count d in
    let a = c.add_acts.ensures in
    let added = rw c.as_slice.ensures.items at a.added in
    let count = v.count in
    let wide = v.space in
    let wider = a.space in
    rw c.len.ensures.len (record {
      count = omega arith;
      all = rest-left _ _ _ _ _ _ added e v.all;
      space = omega arith;
    })
