use Rattle.tp_routes.proofs.RoomFacts.{steps_keep_room}
use Rattle.tp_routes.proofs.laws.room_law.Goals as goal

pub returns : goal.returns
returns c = steps_keep_room
