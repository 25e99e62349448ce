use Rattle.tp_choices.proofs.LeastAnswers.{least_answers}
use Rattle.tp_choices.proofs.least_ticks_are_least_schedules.Goals as goal

pub returns : goal.returns
returns c = least_answers
