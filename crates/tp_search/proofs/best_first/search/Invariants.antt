use Rattle.std.proofs.Common.{◌≡◌, ℕ, IfSome}
use Rattle.tp_placing.specs.Boards.{BoardValue}
use Rattle.tp_search.specs.Boards.{IsReady}
use Rattle.tp_search.specs.HeldLists.{HoldsList, IsOver}
use Rattle.tp_search.specs.Limits.{IsLimitKept}
use Rattle.tp_search.specs.SearchProgress.{IsSameSpace, IsSearching, still_to_take}
use Rattle.tp_search.proofs.best_first.search.Given as goal

-- the search has come to some bound, and the board is back or holds the list that was opened last, over what it stood on
abbrev pub invariant-steps : goal.invariant-steps
invariant-steps g l = record {
  over : (b : BoardValue g.row.N.Denot) → IsReady g.N.Network.reading b l.problem.machine.now l.problem.ask.now → IsOver g.N.Network.reading b l.fn.board l.problem.machine.now l.problem.ask.now l.fn.begun
      → IsOver g.N.Network.reading b l.board l.problem.machine.now l.problem.ask.now l.held;
  holds : IfSome l.held (HoldsList g.N.Network.reading l.board l.problem.machine.now l.problem.ask.now l.store);
  searching : (bound : ℕ) × IsSearching l.problem.machine.now l.board.plans l.problem.ask.now l.goals.items l.store bound;
  same : IsSameSpace l.fn.goals l.goals l.fn.store l.store;
  limit : IsLimitKept l.fn.store.limit l.store.limit;
}

abbrev pub decreases-steps : goal.decreases-steps
decreases-steps g l = still_to_take l.goals.items l.store
