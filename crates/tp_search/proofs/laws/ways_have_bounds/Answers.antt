use Rattle.tp_search.proofs.WayBounds.{way-bound, way-commit}
use Rattle.tp_search.proofs.laws.ways_have_bounds.Goals as goal

pub returns-clause-bound : goal.returns-clause-bound
returns-clause-bound c = way-bound

pub returns-clause-commit : goal.returns-clause-commit
returns-clause-commit c = way-commit
