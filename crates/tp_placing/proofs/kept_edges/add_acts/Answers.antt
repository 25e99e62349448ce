use Rattle.std.proofs.Common.{arith}
use Rattle.std.proofs.lemmas.List.{at_drop_more}
use Rattle.tp_placing.specs.LoadedNet.{acts_edges}
use Rattle.tp_placing.proofs.LoadEdges.{first-fits, rest-left}
use Rattle.tp_placing.proofs.kept_edges.add_acts.Goals as goal

pub add_act-requires-clause-space : goal.add_act-requires-clause-space
add_act-requires-clause-space c =
    let v = c.loop-act.invariant in
    let e = at_drop_more (acts_edges c.args.machine.now c.loop-act.start) c.args.acts.now c.loop-act.act-index (record { 0 = 0 }) c.loop-act-test.true in
    first-fits _ _ _ _ _ _ _ _ _ _ c.loop-act.edges.ok.0 c.args.edges.now.ok.0 v.all e c.requires.space v.space

pub loop-act-preserved : goal.loop-act-preserved
loop-act-preserved c =
    let v = c.loop-act.invariant in
    let e = at_drop_more (acts_edges c.args.machine.now c.loop-act.start) c.args.acts.now c.loop-act.act-index (record { 0 = 0 }) c.loop-act-test.true in
    let a = c.add_act.ensures in
    let count = v.start in
    let wide = v.space in
    let wider = a.space in
    record {
      start = omega arith;
      all = rest-left _ _ _ _ _ _ a.added e v.all;
      space = omega arith;
    }
