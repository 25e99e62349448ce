use Rattle.std.proofs.Common.{length}
use Rattle.tp_search.specs.Boards.{IsBack}
use Rattle.tp_routes.proofs.AlongFacts.{ahead}
use Rattle.tp_search.proofs.LeadFacts.{IsChain, number}
use Rattle.tp_search.proofs.dives.step_down.Given as goal

-- the board is back
abbrev pub invariant-acts : goal.invariant-acts
invariant-acts g l = record {
  chain : IsChain l.problem.machine.now l.list.first.loc.0 l.next;
  back : IsBack g.N.Network.reading l.fn.board l.board l.problem.machine.now;
}

abbrev pub decreases-acts : goal.decreases-acts
decreases-acts g l = ahead (length l.problem.machine.now.actions) (number l.next)
