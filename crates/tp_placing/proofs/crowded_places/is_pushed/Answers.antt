use Rattle.std.proofs.Common.{◌≤◌, subst, sym, arith}
use Rattle.std.specs.Prelude.{◌≤ℤ◌}
use Rattle.std.proofs.lemmas.Int.{ints}
use Rattle.std.proofs.lemmas.Bool.Decides.{nat_tests}
use Rattle.tp_base.specs.Net.{IsEarliest}
use Rattle.tp_base.specs.declared.edges.PointId.{PointId}
use Rattle.tp_placing.specs.PushedHolds.{begin_by, begin_point}
use Rattle.tp_placing.proofs.CrowdFacts.{earliest-below, raised-known, raised-solution, small-stays}
use Rattle.tp_placing.proofs.crowded_places.is_pushed.Goals as goal

pub returns-in-Ok-clause-late : goal.returns-in-Ok-clause-late
returns-in-Ok-clause-late g c later y sol begins =
    let net = g.N.Network.reading.net c.args.net.now in
    let point = c.anchored-point.result.0 in
    let low = c.low_for-low.result in
    let high : low ≤ y point = subst (λ (p : PointId). low ≤ y p.0) (sym c.anchored-point.ensures) (c.low_for-low.ensures (y (begin_point c.args.hold.now).0) (subst (λ z. z ≤ℤ begin_by y c.args.hold.now) (sym (small-stays c.args.till (omega (arith, ints, c.requires.low.le)) (omega (arith, ints, c.requires.high.le)))) begins)) in
    let e = subst (λ n. IsEarliest n c.args.last.0 c.earliest-in-Ok.result) c.in-Ok.ensures.raised c.earliest-in-Ok.ensures in
    let below = earliest-below _ c.args.last.0 c.earliest-in-Ok.result e (raised-known net point low c.args.last.0 c.requires.last) y (raised-solution net point low y sol high) in
    grind (arith, nat_tests)

pub returns-in-Err-clause-late : goal.returns-in-Err-clause-late
returns-in-Err-clause-late g c later y sol begins =
    let net = g.N.Network.reading.net c.args.net.now in
    let point = c.anchored-point.result.0 in
    let low = c.low_for-low.result in
    let high : low ≤ y point = subst (λ (p : PointId). low ≤ y p.0) (sym c.anchored-point.ensures) (c.low_for-low.ensures (y (begin_point c.args.hold.now).0) (subst (λ z. z ≤ℤ begin_by y c.args.hold.now) (sym (small-stays c.args.till (omega (arith, ints, c.requires.low.le)) (omega (arith, ints, c.requires.high.le)))) begins)) in
    absurd (c.in-Err.ensures.late y (raised-solution net point low y sol high))
