-- The feeders one by one.
use Rattle.std.proofs.Common.{take, sym, ◌∙◌, subst}
use Rattle.tp_stock.proofs.CountedFacts.{Marked, counts-far, counts-endless, marked-all, marked-none, marked-one, marked-other, next-feeder, take-whole}
use Rattle.tp_stock.proofs.refills.counted_locations.Goals as goal
use Rattle.tp_stock.proofs.refills.counted_locations.Goals.{then-is_some+then-feeder-lt256, else-is_some, else-is_some-via-then-is_some+else-feeder-lt256, else-is_some-via-else-is_some}

pub feeders-init : goal.feeders-init
feeders-init c = marked-none c.as_slice-feeder-items.result.now

pub feeders-preserved : goal.feeders-preserved
feeders-preserved c =
    let f = c.feeder-item.result in
    let before = take c.feeders.feeder-index c.as_slice-feeder-items.result.now in
    rw (next-feeder c.as_slice-feeder-items.result.now c.feeders.feeder-index f c.feeders-test.true c.feeder-item.is) (elim c.if-is_some.branch [
      | then-is_some+then-feeder-lt256 w ↦
          rw (w.counted-is, w.from.ensures) (marked-one before f c.feeders.counted w.if-feeder-lt256.true (sym c.is_some.ensures ∙ w.if-is_some.true) c.feeders.invariant)
      | else-is_some w ↦ rw w.counted-is (marked-other before f c.feeders.counted (elim w.else-is_some.branch [
        | else-is_some-via-then-is_some+else-feeder-lt256 v ↦ counts-far f v.if-feeder-lt256.false
        | else-is_some-via-else-is_some v ↦ counts-endless f (sym c.is_some.ensures ∙ v.if-is_some.false)
      ]) c.feeders.invariant)
    ])

pub returns : goal.returns
returns c =
    let items = c.as_slice-feeder-items.result.now in
    marked-all c.args.machine.now c.feeders.counted
    (subst (λ fs. Marked fs c.feeders.counted) (take-whole items c.feeders.feeder-index c.feeders-test.false ∙ c.as_slice-feeder-items.ensures) c.feeders.invariant)
