use Rattle.tp_choices.proofs.ShorterLists.{parent_opens, parent_bound}
use Rattle.tp_choices.proofs.parents_open_no_later.Goals as goal

pub returns-clause-opens : goal.returns-clause-opens
returns-clause-opens c = parent_opens

pub returns-clause-bound : goal.returns-clause-bound
returns-clause-bound c = parent_bound
