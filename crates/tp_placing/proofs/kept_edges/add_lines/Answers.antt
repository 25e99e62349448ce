use Rattle.std.proofs.Common.{◌+◌, ap, arith}
use Rattle.std.proofs.lemmas.List.{take_rest}
use Rattle.tp_placing.specs.LoadedNet.{lines_edges, point_count}
use Rattle.tp_placing.proofs.LoadEdges.{first-fits, rest-left, drop-read}
use Rattle.tp_placing.proofs.kept_edges.add_lines.Goals as goal

pub add_line-requires : goal.add_line-requires
add_line-requires c =
    let v = c.loop-at.invariant in
    let e = ap (lines_edges c.loop-at.first) (drop-read c.args.plans.now c.loop-at.at c.index-plans-at.result c.loop-at-test.true c.index-plans-at.is) in
    rw (c.end_of_next-next.ensures, take_rest c.args.plans.now (c.loop-at.at + 1), c.len.ensures.len) (record { space = first-fits _ _ _ _ _ _ _ _ _ _ c.loop-at.edges.ok.0 c.args.edges.now.ok.0 v.all e c.requires.space v.space })

pub loop-at-preserved : goal.loop-at-preserved
loop-at-preserved c =
    let v = c.loop-at.invariant in
    let d = drop-read c.args.plans.now c.loop-at.at c.index-plans-at.result c.loop-at-test.true c.index-plans-at.is in
    let e = ap (lines_edges c.loop-at.first) d in
    let counted = ap point_count d in
    let a = c.add_line.ensures in
    let added = rw (c.end_of_next-next.ensures, take_rest c.args.plans.now (c.loop-at.at + 1), c.len.ensures.len) at a.added in
    let count = v.count in
    let wide = v.space in
    let wider = a.space in
    rw c.len.ensures.len (record {
      count = omega arith;
      all = rest-left _ _ _ _ _ _ added e v.all;
      space = omega arith;
    })
