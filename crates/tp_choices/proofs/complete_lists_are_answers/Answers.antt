use Rattle.tp_choices.proofs.CompleteAnswers.{complete_answers}
use Rattle.tp_choices.proofs.complete_lists_are_answers.Goals as goal

pub returns : goal.returns
returns c = complete_answers
