use Rattle.tp_routes.proofs.IndexFacts.{IndexedSoFar}
use Rattle.tp_routes.proofs.index.index_actions.Given as goal

abbrev pub invariant-actions : goal.invariant-actions
invariant-actions l = IndexedSoFar l.end l.machine.actions l.firsts l.nexts l.at

abbrev pub decreases-actions : goal.decreases-actions
decreases-actions l = l.at
