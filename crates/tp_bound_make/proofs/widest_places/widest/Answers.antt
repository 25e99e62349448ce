use Rattle.std.proofs.Common.{◌≡◌, ◌∙◌, length, sym, subst, arith}
use Rattle.std.specs.Prelude.{pos}
use Rattle.tp_constraints.specs.Suffixes.{order_in}
use Rattle.tp_schedule.specs.Plans.{AreNamed}
use Rattle.tp_bound_make.specs.Ranges.{IsRange}
use Rattle.tp_bound_make.proofs.CarryFacts.{suffix-same}
use Rattle.tp_bound_make.proofs.MarkSteps.{back-trans}
use Rattle.tp_bound_make.proofs.RangeFacts.{range-from}
use Rattle.tp_bound_make.proofs.widest_places.widest.Goals as goal

pub range_at-requires-in-wider-clause-named : goal.range_at-requires-in-wider-clause-named
range_at-requires-in-wider-clause-named g c = subst AreNamed (sym c.wider.invariant.back.since.load.plans) c.requires.named

pub range_at-requires-in-wider-clause-last : goal.range_at-requires-in-wider-clause-last
range_at-requires-in-wider-clause-last g c x carried =
    let back = c.wider.invariant.back in
    let same = suffix-same g.N.Network.reading g.N.Network.refutes c.args.scene.machine.now c.args.scene.ask.now c.args.board.now c.wider.board back.content_same in
    subst (λ ps. c.args.places.last ≡ length (order_in c.args.scene.machine.now ps x c.args.places.rule.resource.0)) (sym back.since.load.plans) (c.requires.last x (sym same ∙ carried))

pub range_at-requires-in-wider-clause-begins : goal.range_at-requires-in-wider-clause-begins
range_at-requires-in-wider-clause-begins g c =
    let r = c.wider.invariant.range c.requires.carries.0 c.requires.carries.1.carried in
    let reaches = r.reaches in
    let above = c.middle_above-middle.ensures.above in
    omega (arith, reaches, above)

pub wider-smaller-in-Ok-Some-range_at : goal.wider-smaller-in-Ok-Some-range_at
wider-smaller-in-Ok-Some-range_at g c =
    let back = c.wider.invariant.back in
    let same = suffix-same g.N.Network.reading g.N.Network.refutes c.args.scene.machine.now c.args.scene.ask.now c.args.board.now c.wider.board back.content_same in
    let ranges = rw c.in-Ok-Some-range_at.field-0-is at c.in-Ok-Some-range_at.ensures in
    let reaches = (ranges.range c.requires.carries.0 (same ∙ c.requires.carries.1.carried)).reaches in
    let above = c.middle_above-middle.ensures.above in
    let test = c.wider-test.true in
    omega (arith, reaches, above, test)

pub wider-preserved-in-Ok-Some-range_at : goal.wider-preserved-in-Ok-Some-range_at
wider-preserved-in-Ok-Some-range_at g c =
    let machine = c.args.scene.machine.now in
    let ask = c.args.scene.ask.now in
    let places = c.args.places in
    let back = c.wider.invariant.back in
    let same = suffix-same g.N.Network.reading g.N.Network.refutes machine ask c.args.board.now c.wider.board back.content_same in
    let ranges = rw c.in-Ok-Some-range_at.field-0-is at c.in-Ok-Some-range_at.ensures in
    record {
      range = λ x carried. range-from machine c.args.board.now.plans ask (pos c.args.scene.limit) x places.rule places.lo c.middle_above-middle.result places.last c.in-Ok-Some-range_at.wider
          (subst (λ ps. IsRange machine ps ask (pos c.args.scene.limit) x places.rule places.lo c.middle_above-middle.result places.last c.in-Ok-Some-range_at.wider) back.since.load.plans (ranges.range x (same ∙ carried)));
      most = c.wider.invariant.most;
      back = back-trans g.N.Network.reading c.args.board.now c.wider.board c.range_at-in-wider.new.board machine back c.range_at-in-wider.ensures.back;
    }
