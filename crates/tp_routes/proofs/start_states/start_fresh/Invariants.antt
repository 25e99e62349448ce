use Rattle.std.proofs.Common.{vec_capacity}
use Rattle.tp_routes.proofs.StartFacts.{StartedSoFar}
use Rattle.tp_routes.proofs.start_states.start_fresh.Given as goal

abbrev pub invariant-feeders : goal.invariant-feeders
invariant-feeders l = StartedSoFar l.machine l.ask l.feeder-items l.sums l.waiting.items l.feeder-index (vec_capacity l.waiting)
