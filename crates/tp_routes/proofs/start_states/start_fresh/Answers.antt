-- The feeders one by one.
use Rattle.std.proofs.Common.{◌≡◌, ◌<◌, length, get_or, arith, sym, subst}
use Rattle.tp_schedule.specs.Routes.{fresh}
use Rattle.tp_routes.specs.FilledRooms.{IsSum, HasAtMost, StartsUpTo}
use Rattle.tp_routes.proofs.StartFacts.{fresh_sum, starts-more, starts-all}
use Rattle.tp_routes.proofs.SpreadFacts.{Lowers-refl}
use Rattle.tp_routes.proofs.start_states.start_fresh.Goals as goal
use Rattle.tp_routes.proofs.start_states.start_fresh.Goals.{then-may_begin, else-may_begin}

pub offer-requires-clause-is_sum : goal.offer-requires-clause-is_sum
offer-requires-clause-is_sum c =
    let f = c.feeder-item.result in
    let items : c.as_slice-feeder-items.result.now ≡ c.args.machine.now.feeders = c.as_slice-feeder-items.ensures in
    let below : c.feeders.feeder-index < length c.args.machine.now.feeders = subst (λ xs. c.feeders.feeder-index < length xs) items c.feeders-test.true in
    let at : f ≡ get_or c.args.machine.now.feeders c.feeders.feeder-index f = subst (λ xs. f ≡ get_or xs c.feeders.feeder-index f) items c.feeder-item.is in
    let may = c.may_begin.ensures.0 c.if-may_begin.true in
    subst (λ s. IsSum c.args.machine.now c.args.ask.now s 0) (sym c.new_sheet.ensures) (fresh_sum c.args.machine.now c.args.ask.now c.feeders.feeder-index f c.requires.fresh below at may.0 may.1)

pub feeders-preserved : goal.feeders-preserved
feeders-preserved c =
    let f = c.feeder-item.result in
    let before = c.feeders.invariant in
    elim c.if-may_begin.branch [
      | then-may_begin w ↦
          let there : HasAtMost w.offer.new.sums (fresh f.loc) 0 = subst (λ s. HasAtMost w.offer.new.sums s 0) w.new_sheet.ensures w.offer.ensures.there in
          rw (w.sums-is, w.waiting-is) (record {
            filling = w.offer.ensures.filling;
            spread = λ busy. w.offer.ensures.spread busy (length c.args.machine.now.actions) (before.spread busy);
            starts = starts-more c.as_slice-feeder-items.result.now c.args.ask.now c.feeders.sums w.offer.new.sums c.feeders.feeder-index f c.feeder-item.is c.feeders-test.true w.offer.ensures.lowers (λ media free. there) before.starts;
            room = w.offer.ensures.room;
          })
      | else-may_begin w ↦
          rw (w.sums-is, w.waiting-is) (record {
            filling = before.filling;
            spread = before.spread;
            starts = starts-more c.as_slice-feeder-items.result.now c.args.ask.now c.feeders.sums c.feeders.sums c.feeders.feeder-index f c.feeder-item.is c.feeders-test.true (Lowers-refl c.feeders.sums)
                (λ media free. (let may = c.may_begin.ensures.1 (media, free) in let not-so = w.if-may_begin.false in absurd cc)) before.starts;
            room = before.room;
          })
    ]

pub returns-clause-starts : goal.returns-clause-starts
returns-clause-starts c =
    let items : c.as_slice-feeder-items.result.now ≡ c.args.machine.now.feeders = c.as_slice-feeder-items.ensures in
    let all : c.feeders.feeder-index ≡ length c.as_slice-feeder-items.result.now = omega (arith, c.feeders.auto.feeder-index-end, c.feeders-test.false) in
    let upto : StartsUpTo c.as_slice-feeder-items.result.now c.args.ask.now c.feeders.sums (length c.as_slice-feeder-items.result.now) = subst (StartsUpTo c.as_slice-feeder-items.result.now c.args.ask.now c.feeders.sums) all c.feeders.invariant.starts in
    starts-all c.args.machine.now c.args.ask.now c.feeders.sums c.requires.fresh (subst (λ xs. StartsUpTo xs c.args.ask.now c.feeders.sums (length xs)) items upto)
