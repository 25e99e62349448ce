use Rattle.std.proofs.Common.{length, vec_capacity}
use Rattle.tp_routes.proofs.AlongFacts.{SpreadSoFar, ahead}
use Rattle.tp_routes.proofs.relaxation.spread.Given as goal

abbrev pub invariant-actions : goal.invariant-actions
invariant-actions l = SpreadSoFar l.machine l.ask l.fn.sums l.fn.waiting.items l.sums l.waiting.items l.from.number l.from.sum l.cursor (vec_capacity l.waiting)

abbrev pub decreases-actions : goal.decreases-actions
decreases-actions l = ahead (length l.machine.actions) l.cursor
