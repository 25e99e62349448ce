use Rattle.tp_windows.proofs.Covering.{bound_law, cover_law, goals_last}
use Rattle.tp_windows.proofs.ways_cover_routes.Goals as goal

pub returns-clause-last : goal.returns-clause-last
returns-clause-last c = goals_last

pub returns-clause-cover : goal.returns-clause-cover
returns-clause-cover c = cover_law

pub returns-clause-bound : goal.returns-clause-bound
returns-clause-bound c = bound_law
