-- Location by location.
use Rattle.std.proofs.Common.{◌≡◌, ◌≢◌, ◌<◌, ◌∙◌, ap, length, get_or, get_or-set_other, get_or-set_same, length-set, below_more, pos, arith}
use Rattle.std.proofs.Common.{of_z, to_z, w64}
use Rattle.std.proofs.lemmas.Int.{ints, to_z-of_z}
use Rattle.std.proofs.lemmas.List.FromFn.{fill_by_all}
use Rattle.tp_stock.proofs.StockFacts.{at-location}
use Rattle.tp_stock.specs.Stock.{by_location, taken_at}
use Rattle.tp_session_standing.specs.StandingStates.{refill_at}
use Rattle.tp_session_standing.proofs.stock_rows.refills_of.Goals as goal

pub locations-preserved : goal.locations-preserved
locations-preserved c =
    let m = c.args.machine.now in
    let at = c.locations.at in
    let place : c.from-place.result ≡ at = c.from-place.ensures in
    let here : at < length c.locations.refills = omega (arith, c.locations.invariant.0) in
    let taken : get_or c.count_taken-taken.result.0 c.from-place.result 0 ≡ taken_at m c.args.plans.now.plans at =
    ap (λ n. get_or c.count_taken-taken.result.0 n 0) place ∙ ap (λ xs. get_or xs at 0) c.count_taken-taken.ensures ∙ at-location (taken_at m c.args.plans.now.plans) at 0 c.locations-test.true in
    let is : to_z w64 (of_z w64 c.refill_at.result) ≡ refill_at (taken_at m c.args.plans.now.plans at) at m.feeders c.args.stock.now =
    (let same : to_z w64 (of_z w64 c.refill_at.result) ≡ c.refill_at.result = grind (arith, ints, to_z-of_z) in
    let list : c.as_slice-feeders.result.now ≡ m.feeders = c.as_slice-feeders.ensures in
    same ∙ c.refill_at.ensures ∙ ap (λ n. refill_at n at c.as_slice-feeders.result.now c.args.stock.now) taken ∙ ap (λ fs. refill_at (taken_at m c.args.plans.now.plans at) at fs c.args.stock.now) list) in
    rw place (
      simp length-set c.locations.invariant.0,
      below_more _ _
          (λ k less. let ne : k ≢ at = omega arith in rw get_or-set_other (c.locations.invariant.1 k less))
          (rw get_or-set_same is),
    )

pub returns : goal.returns
unfolding by_location
returns c = fill_by_all (λ loc. refill_at (taken_at c.args.machine.now c.args.plans.now.plans loc) loc c.args.machine.now.feeders c.args.stock.now) c.locations.refills 256 (pos 0) c.locations.invariant.0
    (λ loc within. c.locations.invariant.1 loc (omega arith))
