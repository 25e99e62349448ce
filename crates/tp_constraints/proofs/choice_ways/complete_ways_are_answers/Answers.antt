use Rattle.tp_constraints.proofs.WayAnswers.{complete-ends}
use Rattle.tp_constraints.proofs.WayMeets.{stop-ends}
use Rattle.tp_constraints.proofs.choice_ways.complete_ways_are_answers.Goals as goal

pub returns-clause-ends : goal.returns-clause-ends
returns-clause-ends c = complete-ends

pub returns-clause-stop : goal.returns-clause-stop
returns-clause-stop c = stop-ends
