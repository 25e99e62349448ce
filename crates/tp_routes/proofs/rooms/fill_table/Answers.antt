-- A table at rest has the rooms.
use Rattle.tp_routes.proofs.RoomFacts.{at_rest}
use Rattle.tp_routes.proofs.StartFacts.{starts-falls, rest-from_spread}
use Rattle.tp_routes.proofs.rooms.fill_table.Goals as goal

pub settle-requires-clause-spread : goal.settle-requires-clause-spread
settle-requires-clause-spread c = c.start.ensures.spread

pub returns-clause-rooms : goal.returns-clause-rooms
returns-clause-rooms c =
    at_rest c.args.machine.now c.args.ask.now c.settle.new.sums c.settle.ensures.filling.states c.requires.origin c.settle.ensures.filling.reached
    (starts-falls c.args.machine.now c.args.ask.now c.start.new.sums c.settle.new.sums c.settle.ensures.lowers c.start.ensures.starts)
    (rest-from_spread c.args.machine.now c.args.ask.now c.settle.new.sums c.settle.new.waiting.items c.settle.ensures.rest c.settle.ensures.spread)
