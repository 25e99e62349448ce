use Rattle.tp_choices.proofs.Fewer.{less_answers}
use Rattle.tp_choices.proofs.alternatives_need_no_others.Goals as goal

pub returns : goal.returns
returns c = less_answers
