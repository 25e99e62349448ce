use Rattle.std.proofs.Common.{◌≤◌, vec_capacity}
use Rattle.tp_search.specs.Boards.{IsBack}
use Rattle.tp_search.proofs.GoalFacts.{AreGoalsBelow}
use Rattle.tp_search.proofs.goals.find_purges.Given as goal

-- the open goals of smaller numbers were found, and the board is back
abbrev pub invariant-numbers : goal.invariant-numbers
invariant-numbers g l = record {
  goals : AreGoalsBelow l.problem.machine.now l.fn.board.plans l.problem.ask.now l.number l.goals.items;
  back : IsBack g.N.Network.reading l.fn.board l.board l.problem.machine.now;
  space : vec_capacity l.fn.goals ≤ vec_capacity l.goals;
}
