use Rattle.tp_constraints.proofs.LeastSolutions.{commit_law, bound_law, settle_law}
use Rattle.tp_constraints.proofs.least_solutions_are_least_schedules.Goals as goal

pub returns-clause-commit : goal.returns-clause-commit
returns-clause-commit c = commit_law

pub returns-clause-bound : goal.returns-clause-bound
returns-clause-bound c = bound_law

pub returns-clause-settle : goal.returns-clause-settle
returns-clause-settle c = settle_law
