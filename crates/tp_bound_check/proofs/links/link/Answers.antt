use Rattle.std.proofs.Common.{◌+◌, ◌-◌, ◌<◌, length, arith, subst}
use Rattle.tp_bound_check.specs.Links.{AreLinked}
use Rattle.tp_bound_check.proofs.LinkFacts.{linked-more, linked-none}
use Rattle.tp_bound_check.proofs.links.link.Goals as goal

pub numbers-init : goal.numbers-init
numbers-init c = record { within = omega arith; linked = linked-none c.args.locations.now c.args.firsts.now c.args.nexts.now (length c.args.firsts.now) c.requires.empty }

pub numbers-preserved : goal.numbers-preserved
numbers-preserved c =
    let locs = c.args.locations.now in
    let at = c.numbers.at - 1 in
    let p = c.location_of-location.result in
    let below : p < length c.args.firsts.now = c.requires.known at p c.location_of-location.ensures in
    let known : p < length c.numbers.firsts = let f = c.numbers.auto.firsts in omega (arith, below, f) in
    let inside : at < length c.numbers.nexts = let n = c.numbers.auto.nexts in let w = c.numbers.invariant.within in let t = c.numbers-test.true in let r = c.requires.room in omega (arith, n, w, t, r) in
    let before : AreLinked locs c.numbers.firsts c.numbers.nexts (at + 1) = subst (AreLinked locs c.numbers.firsts c.numbers.nexts) (let t = c.numbers-test.true in omega arith) c.numbers.invariant.linked in
    record {
      within = let w = c.numbers.invariant.within in omega (arith, w);
      linked = linked-more locs c.numbers.firsts c.numbers.nexts at p c.location_of-location.ensures known inside before;
    }
