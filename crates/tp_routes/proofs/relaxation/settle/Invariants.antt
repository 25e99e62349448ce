use Rattle.std.proofs.Common.{vec_capacity}
use Rattle.tp_routes.specs.FilledRooms.{left_to_fill}
use Rattle.tp_routes.proofs.SpreadFacts.{SettledSoFar}
use Rattle.tp_routes.proofs.relaxation.settle.Given as goal

abbrev pub invariant-states : goal.invariant-states
invariant-states l = SettledSoFar l.machine l.ask l.fn.sums l.sums l.waiting.items (vec_capacity l.waiting)

abbrev pub decreases-states : goal.decreases-states
decreases-states l = left_to_fill l.sums l.waiting.items
