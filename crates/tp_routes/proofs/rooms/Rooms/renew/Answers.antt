use Rattle.tp_routes.proofs.RoomsSame.{filled-for}
use Rattle.tp_routes.proofs.rooms.Rooms.renew.Goals as goal

pub returns-then-has_rooms_for-clause-rooms : goal.returns-then-has_rooms_for-clause-rooms
returns-then-has_rooms_for-clause-rooms c = (filled-for c.args.machine.now c.args.self.now c.args.ask.now c.requires.keeps (c.has_rooms_for.ensures c.if-has_rooms_for.true)).rooms

pub returns-then-has_rooms_for-clause-leads : goal.returns-then-has_rooms_for-clause-leads
returns-then-has_rooms_for-clause-leads c = (filled-for c.args.machine.now c.args.self.now c.args.ask.now c.requires.keeps (c.has_rooms_for.ensures c.if-has_rooms_for.true)).leads
