use Rattle.tp_constraints.proofs.PlaceWalks.{walk_ahead, walk_late, walk_place, walk_start, walk_step}
use Rattle.tp_constraints.proofs.places_are_walks.Goals as goal

pub returns-clause-start : goal.returns-clause-start
returns-clause-start c = walk_start

pub returns-clause-ahead : goal.returns-clause-ahead
returns-clause-ahead c = walk_ahead

pub returns-clause-step : goal.returns-clause-step
returns-clause-step c = walk_step

pub returns-clause-place : goal.returns-clause-place
returns-clause-place c = walk_place

pub returns-clause-late : goal.returns-clause-late
returns-clause-late c = walk_late
