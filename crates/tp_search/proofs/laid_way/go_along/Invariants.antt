use Rattle.tp_search.specs.Boards.{IsFurther}
use Rattle.tp_search.specs.Dives.{CanDive}
use Rattle.tp_search.proofs.laid_way.go_along.Given as goal

-- the board is further, and carries the list that was reached
abbrev pub invariant-along : goal.invariant-along
invariant-along g l = record {
  since : IsFurther g.N.Network.reading l.fn.board l.board;
  carries : CanDive g.N.Network.reading l.board l.problem.machine.now l.problem.ask.now l.reached;
}
