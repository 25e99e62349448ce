-- Each turn puts one action more before those that are indexed.
use Rattle.std.proofs.Common.{◌≡◌, ◌+◌, ◌-◌, ◌<◌, length, arith, sym, subst}
use Rattle.tp_routes.specs.Index.{AreIndexed, location_at}
use Rattle.tp_routes.proofs.IndexFacts.{indexed-none, indexed-more, action-there}
use Rattle.tp_routes.proofs.index.index_actions.Goals as goal

pub actions-init : goal.actions-init
actions-init c = record {
  within = omega (arith, c.len-at.ensures.len);
  indexed = subst (AreIndexed c.args.end c.args.machine.now.actions c.clear.new.numbers c.args.nexts.now) (sym c.len-at.ensures.len) (indexed-none c.args.end c.args.machine.now.actions c.clear.new.numbers c.args.nexts.now (length c.args.firsts.now) c.clear.ensures);
}

pub actions-preserved : goal.actions-preserved
actions-preserved c =
    let at = c.actions.at - 1 in
    let below : at < length c.args.machine.now.actions = omega (arith, c.actions.invariant.within, c.actions-test.true) in
    let there = action-there c.args.end c.args.machine.now.actions at c.location_of-location.result below c.location_of-location.ensures.location in
    let before : AreIndexed c.args.end c.args.machine.now.actions c.actions.firsts c.actions.nexts (at + 1) = subst (AreIndexed c.args.end c.args.machine.now.actions c.actions.firsts c.actions.nexts) (let h = c.actions-test.true in omega arith) c.actions.invariant.indexed in
    let known : location_at c.args.end there.0 < length c.actions.firsts = omega (arith, there.2, c.location_of-location.ensures.within, c.actions.auto.firsts, c.requires.locations) in
    let within : at < length c.actions.nexts = omega (arith, c.actions.invariant.within, c.actions-test.true, c.actions.auto.nexts, c.requires.room) in
    rw there.2 (record {
      within = omega (arith, c.actions.invariant.within);
      indexed = indexed-more c.args.end c.args.machine.now.actions c.actions.firsts c.actions.nexts at there.0 there.1 known within before;
    })

pub returns : goal.returns
returns c = (let none : c.actions.at ≡ 0 = omega (arith, c.actions-test.false) in subst (AreIndexed c.args.end c.args.machine.now.actions c.actions.firsts c.actions.nexts) none c.actions.invariant.indexed)
