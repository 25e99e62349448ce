use Rattle.std.proofs.Common.{◌≡◌, ◌+◌, ◌∙◌, suc, length, ap, sym, subst, add-one, arith, Some}
use Rattle.tp_placing.specs.LoadedBoard.{order_after}
use Rattle.tp_bound_make.specs.TreeProgress.{hold_of, ways_of}
use Rattle.tp_bound_make.proofs.CarryFacts.{hold-known}
use Rattle.tp_bound_make.proofs.branch_ways.ways.Goals as goal

pub places-requires : goal.places-requires
places-requires g c =
    let known = hold-known c.args.scene.machine.now c.args.branch c.in-Some.rule (sym c.next_hold.ensures ∙ c.in-Some.is) in
    record { known = omega (arith, known, c.requires.set.stands.1.made.1) }

pub returns-in-Some-clause-count : goal.returns-in-Some-clause-count
returns-in-Some-clause-count g c x carried =
    let machine = c.args.scene.machine.now in
    let plans = c.args.board.now.plans in
    let resource = c.in-Some.rule.resource.0 in
    let next : hold_of machine c.args.branch ≡ Some c.in-Some.rule = sym c.next_hold.ensures ∙ c.in-Some.is in
    let here : c.places.result ≡ length (order_after machine plans (Some x) resource) = subst (λ o. c.places.result ≡ length (order_after machine plans o resource)) carried (c.places.ensures machine c.requires.set.stands) in
    subst (λ h. c.from.result + 1 ≡ ways_of machine plans c.args.scene.ask.now x h) (sym next) (add-one c.from.result ∙ ap suc (c.from.ensures ∙ here))
