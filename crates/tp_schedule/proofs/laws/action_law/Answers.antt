use Rattle.tp_schedule.proofs.AllowedFacts.{allowed_is_tested}
use Rattle.tp_schedule.proofs.laws.action_law.Goals as goal

pub returns-clause-allowed : goal.returns-clause-allowed
returns-clause-allowed c = allowed_is_tested
