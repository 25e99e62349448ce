use Rattle.tp_choices.proofs.AnswerOpens.{answer_opens}
use Rattle.tp_choices.proofs.SamePlaces.{ticks_fix_places}
use Rattle.tp_choices.proofs.answers_are_complete_lists.Goals as goal

pub returns-clause-opens : goal.returns-clause-opens
returns-clause-opens c = answer_opens

pub returns-clause-one : goal.returns-clause-one
returns-clause-one c = ticks_fix_places
