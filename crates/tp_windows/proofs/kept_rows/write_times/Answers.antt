use Rattle.std.proofs.Common.{arith, subst, All}
use Rattle.std.proofs.lemmas.List.{take_all}
use Rattle.tp_windows.specs.RowLists.{timed}
use Rattle.tp_windows.specs.Rows.{IsNear}
use Rattle.tp_windows.proofs.ListSteps.{all_written, map_written}
use Rattle.tp_windows.proofs.kept_rows.write_times.Goals as goal

pub holds-preserved : goal.holds-preserved
holds-preserved c =
    let t = c.holds-test.true in
    let long = c.holds.auto.holds in
    record {
      written = map_written (timed c.args.ranges.now.lows.items c.args.ranges.now.highs.items) c.args.holds.now c.holds.holds c.holds.number _ c.timed.result t long c.holds.invariant.written c.timed.ensures.is;
      near = all_written IsNear c.holds.holds c.holds.number c.timed.result (omega (arith, t, long)) c.holds.invariant.near c.timed.ensures.near;
    }

pub returns-clause-near : goal.returns-clause-near
returns-clause-near c =
    let t = c.holds-test.false in
    let long = c.holds.auto.holds in
    subst (All IsNear) (take_all c.holds.number c.holds.holds (omega (arith, t, long))) c.holds.invariant.near
