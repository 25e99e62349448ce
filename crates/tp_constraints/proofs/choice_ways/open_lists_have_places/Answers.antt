use Rattle.tp_constraints.proofs.WayChildren.{child-places, place-beyond}
use Rattle.tp_constraints.proofs.choice_ways.open_lists_have_places.Goals as goal

pub returns-clause-count : goal.returns-clause-count
returns-clause-count c = child-places

pub returns-clause-within : goal.returns-clause-within
returns-clause-within c = place-beyond
