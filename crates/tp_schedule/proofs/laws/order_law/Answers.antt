use Rattle.tp_schedule.proofs.LawFacts.{order_is_only, row_is_apart}
use Rattle.tp_schedule.proofs.laws.order_law.Goals as goal

pub returns-clause-only : goal.returns-clause-only
returns-clause-only c = order_is_only

pub returns-clause-row : goal.returns-clause-row
returns-clause-row c = row_is_apart
