-- The hold can be placed, and is in time.
use Rattle.std.proofs.Common.{subst, ◌+◌}
use Rattle.tp_constraints.specs.Suffixes.{with_place}
use Rattle.tp_placing.specs.declared.parts.Change.TheVariants.{Place}
use Rattle.tp_search.specs.Again.{CanMake}
use Rattle.tp_search.specs.declared.replay.Reached.TheVariants.{Holds}
use Rattle.tp_search.proofs.AgainSteps.{here, made-step, place-can, place-makes, place-put, place-reached, place-refused}
use Rattle.tp_search.proofs.replay.place_again.Goals as goal
use Rattle.tp_search.proofs.replay.place_again.Goals.{In-Holds}

can : (g : _) (c : In-Holds g) → CanMake g.N.Network.reading c.args.board.now c.args.machine.now (Place c.args.place) (Holds c.in-Holds.hold)
can g c = subst (CanMake g.N.Network.reading c.args.board.now c.args.machine.now (Place c.args.place)) c.in-Holds.is c.requires.can

pub place-requires-clause-next : goal.place-requires-clause-next
place-requires-clause-next g c =
    place-can g.N.Network.reading c.args.machine.now c.args.board.now c.args.place c.in-Holds.hold (can g (goal.at.place-requires-clause-next g c).In-Holds)

pub unreachable-requires : goal.unreachable-requires
unreachable-requires g c =
    place-refused g.N.Network.reading c.args.machine.now c.args.board.now c.args.place c.in-Holds.hold (can g (goal.at.unreachable-requires g c).In-Holds) c.in-Err.ensures.late

pub returns-in-Ok : goal.returns-in-Ok
returns-in-Ok g c =
    let k = can g (goal.at.returns-in-Ok g c).In-Holds in
    let reading = g.N.Network.reading in
    let machine = c.args.machine.now in
    let b = c.args.board.now in
    let at = here reading machine b c.args.place c.in-Holds.hold k in
    made-step reading machine b (Place c.args.place) (Holds c.in-Holds.hold) k c.place.new.self (with_place c.args.place at) (Holds (c.in-Holds.hold + 1))
    (place-makes reading machine b c.args.place c.in-Holds.hold k)
    (place-put reading machine b c.args.place c.in-Holds.hold k c.place.new.self c.in-Ok.ensures.suffix)
    (place-reached reading machine b c.args.place c.in-Holds.hold k)
    c.in-Ok.ensures.stands c.in-Ok.ensures.past c.in-Ok.ensures.loaded c.in-Ok.ensures.marks
