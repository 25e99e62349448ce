use Rattle.std.proofs.Common.{length}
use Rattle.tp_search.specs.Boards.{IsBack}
use Rattle.tp_search.specs.OpenedLists.{IsSameOpening}
use Rattle.tp_routes.proofs.AlongFacts.{ahead}
use Rattle.tp_search.proofs.LeadFacts.{IsLed, number}
use Rattle.tp_search.proofs.children.open_all.Given as goal

-- the children before the next action that leads to the list's first state were looked at, and the board is back
abbrev pub invariant-acts : goal.invariant-acts
invariant-acts g l = record {
  led : IsLed l.problem.machine.now l.board.plans l.problem.ask.now l.opening l.store l.laid.first.loc.0 l.next;
  same : IsSameOpening l.fn.opening l.opening l.fn.store l.store;
  back : IsBack g.N.Network.reading l.fn.board l.board l.problem.machine.now;
}

abbrev pub decreases-acts : goal.decreases-acts
decreases-acts g l = ahead (length l.problem.machine.now.actions) (number l.next)
