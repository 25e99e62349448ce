-- The changes so far were made.
use Rattle.std.proofs.Common.{◌≡◌, take}
use Rattle.tp_placing.specs.Boards.{suffix_of}
use Rattle.tp_placing.specs.LoadedBoard.{Stands}
use Rattle.tp_search.specs.Again.{again_by, reached_in}
use Rattle.tp_search.specs.StoredLists.{IsSameButSteps}
use Rattle.tp_search.proofs.replay.changes_again.Given as goal

abbrev pub invariant-changes : goal.invariant-changes
invariant-changes g l = record {
  stands : Stands g.N.Network.reading l.board l.machine;
  reached_so : l.reached ≡ reached_in (suffix_of l.board);
  suffix : suffix_of l.board ≡ again_by (take l.at l.changes);
  same : IsSameButSteps g.N.Network.reading l.fn.board l.board;
}
