use Rattle.std.proofs.Common.{◌≡◌, ◌∙◌, sym, arith, Some}
use Rattle.std.specs.Prelude.{pos}
use Rattle.tp_placing.specs.Boards.{suffix_of}
use Rattle.tp_constraints.specs.Suffixes.{Suffix}
use Rattle.tp_bound_make.specs.Ranges.{IsRange}
use Rattle.tp_bound_make.proofs.CarryFacts.{hold-known, newest-hold, own-suffix}
use Rattle.tp_bound_make.proofs.EarlyFacts.{stands-on}
use Rattle.tp_bound_make.proofs.RangeFacts.{some-map}
use Rattle.tp_bound_make.proofs.widest_places.range_at.Goals as goal

pub close_place-requires-clause-within : goal.close_place-requires-clause-within
close_place-requires-clause-within g c x carried = let last = c.requires.last x carried in let ends = c.requires.ends in omega (arith, last, ends)

pub of-requires-clause-known : goal.of-requires-clause-known
of-requires-clause-known g c = hold-known c.args.scene.machine.now c.args.branch c.args.places.rule c.requires.next

pub returns-in-Ok-Some-clause-range : goal.returns-in-Ok-Some-clause-range
returns-in-Ok-Some-clause-range g c =
    let machine = c.args.scene.machine.now in
    let ask = c.args.scene.ask.now in
    let limit = c.args.scene.limit in
    let plans = c.args.board.now.plans in
    let places = c.args.places in
    let r = c.args.branch in
    let x0 = c.requires.carries.0 in
    let k = c.requires.carries.1 in
    let on = stands-on g.N.Network.reading machine ask c.args.board.now c.requires.set in
    let next = sym (newest-hold machine r.newest r.places x0.choices k.newest) ∙ c.requires.next in
    let closes = (rw c.in-Ok-Some.field-0-is at c.in-Ok-Some.ensures).closes in
    some-map _ (λ range. (x : Suffix) → suffix_of c.args.board.now ≡ Some x → IsRange machine plans ask (pos limit) x places.rule places.lo c.args.place places.last range) c.of.result
    (λ range h. own-suffix (suffix_of c.args.board.now) x0 k.carried (λ x. IsRange machine plans ask (pos limit) x places.rule places.lo c.args.place places.last range)
    (h plans x0 on.loadable.legal.in_order next k.count (c.requires.last x0 k.carried) (closes x0 k.carried)))
    c.of.ensures
