use Rattle.std.proofs.Common.{◌≡◌, ℕ, ◌-◌, ◌≤◌, suc, subst, arith, to_z, w64}
use Rattle.std.proofs.lemmas.Int.{ints}
use Rattle.tp_timelines.specs.Orders.{order_on}
use Rattle.tp_placing.specs.PushedHolds.{ArePlanned}
use Rattle.tp_placing.proofs.CrowdFacts.{Bounds, Pushes, at-order, bounds-all, bounds-more, pushes-more, small-stays}
use Rattle.tp_placing.proofs.crowded_places.begin_behind.Goals as goal

pub end_now-end-requires : goal.end_now-end-requires
end_now-end-requires g c =
    let order = order_on c.args.timelines.now.orders c.args.new.now.rule.resource.0 in
    let there = at-order c.args.known.held.now order c.requires.numbers (c.walk.at - 1) c.at.result _ c.at.ensures in
    record { among = c.requires.among (c.walk.at - 1) _ there }

pub walk-preserved : goal.walk-preserved
walk-preserved g c =
    let net = g.N.Network.reading.net c.args.net.now in
    let held = c.args.known.held.now in
    let new = c.args.new.now in
    let least = c.args.least in
    let order = order_on c.args.timelines.now.orders new.rule.resource.0 in
    let times = λ (y : ℕ → ℕ). ArePlanned c.args.known.machine.now c.args.known.plans.now c.args.known.firsts.now y in
    let v = c.walk.invariant in
    let numbers = c.requires.numbers in
    let test = c.walk-test.true in
    let one : c.walk.at ≡ suc (c.walk.at - 1) = omega (arith, test) in
    let le : suc (c.walk.at - 1) ≤ c.args.place = omega (arith, one, v.within) in
    let pushes : Pushes held order times (suc (c.walk.at - 1)) c.args.place (to_z w64 c.walk.rest-bits) = subst (λ k. Pushes held order times k c.args.place (to_z w64 c.walk.rest-bits)) one v.pushes in
    let bounds : Bounds held order times net new least (suc (c.walk.at - 1)) c.args.place (to_z w64 c.walk.till-bits) = subst (λ k. Bounds held order times net new least k c.args.place (to_z w64 c.walk.till-bits)) one v.till in
    let e = c.earlier-till.ensures in
    let l = c.longer-rest.ensures in
    let till = small-stays c.earlier-till.result e.low e.high in
    let rest = small-stays c.longer-rest.result (omega (arith, ints, l.low)) l.high in
    let end = small-stays c.end_now-end.result c.end_now-end.ensures.low (omega (arith, ints, c.end_now-end.ensures.high)) in
    let len = small-stays c.least_length-length.result (omega (arith, ints, c.least_length-length.ensures.low)) (omega (arith, ints, c.least_length-length.ensures.high)) in
    let more = small-stays c.least_length.result (omega (arith, ints, c.least_length.ensures.low)) (omega (arith, ints, c.least_length.ensures.high)) in
    let there = at-order held order numbers (c.walk.at - 1) c.at.result _ c.at.ensures in
    record {
      within = omega (arith, le);
      till_low = omega (arith, ints, till, e.low);
      till_high = omega (arith, ints, till, e.high);
      rest_low = omega (arith, ints, rest, l.low);
      rest_high = omega (arith, ints, rest, l.high);
      pushes = pushes-more held order numbers times (c.walk.at - 1) c.args.place _ (to_z w64 c.walk.rest-bits) c.least_length.result _ pushes le c.requires.there there
          (λ y planned long. c.least_length.ensures.least y long (c.least_of.ensures y planned)) (omega (arith, ints, rest, more, l.sum));
      till = bounds-more held order numbers times net new _ least (c.walk.at - 1) c.args.place c.end_now-end.result (to_z w64 c.walk.till-bits) _ (to_z w64 c.walk.rest-bits) c.least_length-length.result bounds pushes le c.requires.there there
          c.end_now-end.ensures.least c.least_length-length.ensures.least (omega (arith, ints, till, e.one)) (omega (arith, ints, till, end, len, e.other));
    }

pub returns-clause-behind : goal.returns-clause-behind
returns-clause-behind g c =
    let net = g.N.Network.reading.net c.args.net.now in
    let held = c.args.known.held.now in
    let new = c.args.new.now in
    let order = order_on c.args.timelines.now.orders new.rule.resource.0 in
    let times = λ (y : ℕ → ℕ). ArePlanned c.args.known.machine.now c.args.known.plans.now c.args.known.firsts.now y in
    let v = c.walk.invariant in
    let e = c.earlier.ensures in
    let till = small-stays c.earlier.result e.low e.high in
    let from = small-stays c.begin_now-from.result c.begin_now-from.ensures.low (omega (arith, ints, c.begin_now-from.ensures.high)) in
    let len = small-stays c.least_length-length.result (omega (arith, ints, c.least_length-length.ensures.low)) (omega (arith, ints, c.least_length-length.ensures.high)) in
    bounds-all held order c.requires.numbers times net new c.args.least c.walk.at c.args.place c.begin_now-from.result (to_z w64 c.walk.till-bits) _ (to_z w64 c.walk.rest-bits) c.least_length-length.result v.till v.pushes v.within c.requires.there
    c.begin_now-from.ensures.least c.least_length-length.ensures.least (omega (arith, ints, till, e.one)) (omega (arith, ints, till, from, len, e.other))
