-- What is free at the feeder is a count.
use Rattle.std.proofs.Common.{◌≡◌, ◌∙◌, Some, sym, ap, arith, to_z, of_z, w64}
use Rattle.std.proofs.lemmas.Int.{ints, to_z-of_z}
use Rattle.tp_stock.proofs.StockFacts.{free-told}
use Rattle.tp_stock.specs.Stock.{free_stock}
use Rattle.tp_session.proofs.FreeFacts.{free-within}
use Rattle.tp_session.proofs.stock.free_at_feeder.Goals as goal

pub count_of-requires-clause-some : goal.count_of-requires-clause-some
count_of-requires-clause-some c =
    let m = c.args.machine.now in
    let f = c.args.feeder.now in
    let refills = c.args.state.now.refills.0 in
    let plans = c.args.state.now.schedule.plans in
    let free = c.in-Some.free in
    let left : free_stock m refills plans f ≡ Some free = sym (free-told m refills plans f c.count_taken-taken.result.0 c.free_stock.result c.requires.known c.count_taken-taken.ensures c.free_stock.ensures) ∙ c.in-Some.is in
    let within = free-within m refills plans c.args.loc.0 f free c.requires.there c.requires.stocked.drawn c.requires.stocked.most left in
    let low = within.0 in
    let high = within.1 in
    grind (arith, ints, to_z-of_z)

pub count_of-requires-clause-few : goal.count_of-requires-clause-few
count_of-requires-clause-few c =
    let m = c.args.machine.now in
    let f = c.args.feeder.now in
    let refills = c.args.state.now.refills.0 in
    let plans = c.args.state.now.schedule.plans in
    let free = c.in-Some.free in
    let left : free_stock m refills plans f ≡ Some free = sym (free-told m refills plans f c.count_taken-taken.result.0 c.free_stock.result c.requires.known c.count_taken-taken.ensures c.free_stock.ensures) ∙ c.in-Some.is in
    let within = free-within m refills plans c.args.loc.0 f free c.requires.there c.requires.stocked.drawn c.requires.stocked.most left in
    let low = within.0 in
    let high = within.1 in
    grind (arith, ints, to_z-of_z)

pub returns-in-Some : goal.returns-in-Some
returns-in-Some c =
    let m = c.args.machine.now in
    let f = c.args.feeder.now in
    let refills = c.args.state.now.refills.0 in
    let plans = c.args.state.now.schedule.plans in
    let free = c.in-Some.free in
    let left : free_stock m refills plans f ≡ Some free = sym (free-told m refills plans f c.count_taken-taken.result.0 c.free_stock.result c.requires.known c.count_taken-taken.ensures c.free_stock.ensures) ∙ c.in-Some.is in
    let within = free-within m refills plans c.args.loc.0 f free c.requires.there c.requires.stocked.drawn c.requires.stocked.most left in
    let low = within.0 in
    let high = within.1 in
    let same : to_z w64 (of_z w64 free) ≡ free = grind (arith, ints, to_z-of_z) in
    ap Some (c.count_of.ensures ∙ same) ∙ sym left
