use Rattle.tp_event_turn.proofs.LiveAnswered.{live-answers_hold, live-budgets_hold}
use Rattle.tp_event_turn.proofs.LiveSettled.{live-settles_hold}
use Rattle.tp_event_turn.proofs.live_part.live_answers_hold.Goals as goal

pub returns-clause-asked : goal.returns-clause-asked
returns-clause-asked c = live-answers_hold

pub returns-clause-spent : goal.returns-clause-spent
returns-clause-spent c = live-budgets_hold

pub returns-clause-settled : goal.returns-clause-settled
returns-clause-settled c = live-settles_hold
