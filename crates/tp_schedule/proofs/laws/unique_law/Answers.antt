use Rattle.tp_schedule.proofs.RoomFacts.{IsEarliest-end_unique}
use Rattle.tp_schedule.proofs.laws.unique_law.Goals as goal

pub returns-clause-end : goal.returns-clause-end
returns-clause-end c = IsEarliest-end_unique
