use Rattle.tp_windows.proofs.Fronts.{front_begins, front_bounds, front_drops, front_takes}
use Rattle.tp_windows.proofs.labels_bound_ends.Goals as goal

pub returns-clause-begins : goal.returns-clause-begins
returns-clause-begins c = front_begins

pub returns-clause-drops : goal.returns-clause-drops
returns-clause-drops c = front_drops

pub returns-clause-takes : goal.returns-clause-takes
returns-clause-takes c = front_takes

pub returns-clause-bounds : goal.returns-clause-bounds
returns-clause-bounds c = front_bounds
