use Rattle.tp_choices.proofs.Frontier.{frontier_begins, frontier_goes_on, frontier_bounds, frontier_ends, taken_is_earliest}
use Rattle.tp_choices.proofs.answers_pass_the_frontier.Goals as goal

pub returns-clause-begins : goal.returns-clause-begins
returns-clause-begins c = frontier_begins

pub returns-clause-goes_on : goal.returns-clause-goes_on
returns-clause-goes_on c = frontier_goes_on

pub returns-clause-bounds : goal.returns-clause-bounds
returns-clause-bounds c = frontier_bounds

pub returns-clause-ends : goal.returns-clause-ends
returns-clause-ends c = frontier_ends

pub returns-clause-taken : goal.returns-clause-taken
returns-clause-taken c = taken_is_earliest
