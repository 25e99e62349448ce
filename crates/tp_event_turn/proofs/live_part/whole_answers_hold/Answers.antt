use Rattle.tp_event_turn.proofs.WholeAnswered.{whole-settles_hold}
use Rattle.tp_event_turn.proofs.WholeSpent.{whole-answers_hold, whole-budgets_hold}
use Rattle.tp_event_turn.proofs.live_part.whole_answers_hold.Goals as goal

pub returns-clause-asked : goal.returns-clause-asked
returns-clause-asked c = whole-answers_hold

pub returns-clause-spent : goal.returns-clause-spent
returns-clause-spent c = whole-budgets_hold

pub returns-clause-settled : goal.returns-clause-settled
returns-clause-settled c = whole-settles_hold
