use Rattle.std.proofs.Common.{arith, subst, sym, pos}
use Rattle.std.specs.Prelude.{◌≤ℤ◌, ◌+ℤ◌}
use Rattle.std.proofs.lemmas.Int.{ints}
use Rattle.tp_base.specs.Net.{IsEarliest}
use Rattle.tp_base.specs.declared.edges.PointId.{PointId}
use Rattle.tp_placing.specs.PushedHolds.{begin_point}
use Rattle.tp_placing.proofs.CrowdFacts.{earliest-below, moved-below, small-stays}
use Rattle.tp_placing.proofs.crowded_places.begin_now.Goals as goal

pub returns-clause-least : goal.returns-clause-least
returns-clause-least g c y sol =
    let net = g.N.Network.reading.net c.args.net.now in
    let hold = c.args.hold.now in
    let tick = c.earliest-tick.result in
    let e = subst (λ (p : PointId). IsEarliest net p.0 tick) c.anchored.ensures c.earliest-tick.ensures in
    let e64 = small-stays c.begin_from.result c.begin_from.ensures.low (omega (arith, ints, c.begin_from.ensures.high)) in
    subst (λ z. z ≤ℤ (pos (y (begin_point hold).0) +ℤ hold.rule.begin_off)) (sym e64) (moved-below tick (y (begin_point hold).0) hold.rule.begin_off c.begin_from.result (earliest-below net (begin_point hold).0 tick e c.requires.among.0 y sol) c.begin_from.ensures.sum)
