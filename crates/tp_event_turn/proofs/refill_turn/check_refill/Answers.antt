-- A feeder with a stock is refused, or refilled, by what is free there.
use Rattle.std.proofs.Common.{◌≡◌, ◌∙◌, true, false, Some, sym, arith, pos, ◌+ℤ◌}
use Rattle.std.specs.Prelude.{int_lt}
use Rattle.std.proofs.lemmas.Int.{ints, to_z-of_z}
use Rattle.tp_stock.proofs.StockFacts.{free-told}
use Rattle.tp_stock.specs.Stock.{free_stock, most_free}
use Rattle.tp_event_turn.proofs.RefillFacts.{not-many, too-many}
use Rattle.tp_event_turn.proofs.refill_turn.check_refill.Goals as goal

pub returns-in-Some-free_stock-clause-refused : goal.returns-in-Some-free_stock-clause-refused
returns-in-Some-free_stock-clause-refused c =
    let m = c.args.machine.now in
    let f = c.in-Some.feeder in
    let refills = c.args.state.now.refills.0 in
    let plans = c.args.state.now.schedule.plans in
    let free = c.in-Some-free_stock.free in
    let small = c.requires.bounded f.loc.0 in
    let left : free_stock m refills plans f ≡ Some free = sym (free-told m refills plans f c.count_taken-taken.result.0 c.free_stock.result c.in-Some.ensures.known c.count_taken-taken.ensures c.free_stock.ensures) ∙ c.in-Some-free_stock.is in
    let test : int_lt (pos most_free) (free +ℤ pos c.args.order.now.count) ≡ true = grind (arith, ints, to_z-of_z) in
    too-many m refills plans c.args.order.now.feeder c.args.order.now.count f (sym c.in-Some.ensures.is) free left test

pub returns-in-Some-2-clause-refused : goal.returns-in-Some-2-clause-refused
returns-in-Some-2-clause-refused c =
    let m = c.args.machine.now in
    let f = c.in-Some.feeder in
    let refills = c.args.state.now.refills.0 in
    let plans = c.args.state.now.schedule.plans in
    let free = c.in-Some-free_stock.free in
    let small = c.requires.bounded f.loc.0 in
    let left : free_stock m refills plans f ≡ Some free = sym (free-told m refills plans f c.count_taken-taken.result.0 c.free_stock.result c.in-Some.ensures.known c.count_taken-taken.ensures c.free_stock.ensures) ∙ c.in-Some-free_stock.is in
    let test : int_lt (pos most_free) (free +ℤ pos c.args.order.now.count) ≡ false = grind (arith, ints, to_z-of_z) in
    not-many m refills plans c.args.order.now.feeder c.args.order.now.count f (sym c.in-Some.ensures.is) free left test
