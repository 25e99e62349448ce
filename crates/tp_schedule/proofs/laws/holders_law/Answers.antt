use Rattle.tp_schedule.proofs.HolderFacts.{held_by_holders}
use Rattle.tp_schedule.proofs.laws.holders_law.Goals as goal

pub returns : goal.returns
returns c = held_by_holders
