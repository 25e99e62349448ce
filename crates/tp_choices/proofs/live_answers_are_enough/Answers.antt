use Rattle.tp_choices.proofs.RejoinedPlans.{join_exists}
use Rattle.tp_choices.proofs.LiveAnswers.{live_answers}
use Rattle.tp_choices.proofs.LiveBounds.{live_is_earliest, live_bounds_answers, live_has_none}
use Rattle.tp_choices.proofs.WholeAnswers.{whole_answers}
use Rattle.tp_choices.proofs.live_answers_are_enough.Goals as goal

pub returns-clause-whole : goal.returns-clause-whole
returns-clause-whole c = whole_answers

pub returns-clause-live : goal.returns-clause-live
returns-clause-live c = live_answers

pub returns-clause-joined : goal.returns-clause-joined
returns-clause-joined c = join_exists

pub returns-clause-earliest : goal.returns-clause-earliest
returns-clause-earliest c = live_is_earliest

pub returns-clause-none_before : goal.returns-clause-none_before
returns-clause-none_before c = live_bounds_answers

pub returns-clause-none : goal.returns-clause-none
returns-clause-none c = live_has_none
