-- The holds so far have their places.
use Rattle.std.proofs.Common.{◌≡◌, take, Some, IsSomeAnd}
use Rattle.tp_placing.specs.Boards.{suffix_of}
use Rattle.tp_placing.specs.LoadedBoard.{Stands}
use Rattle.tp_search.specs.StoredLists.{IsSameButSteps, with_places}
use Rattle.tp_search.proofs.stored_list.place_all.Given as goal

abbrev pub invariant-holds : goal.invariant-holds
invariant-holds g l = record {
  stands : Stands g.N.Network.reading l.board l.machine;
  suffix : IsSomeAnd (suffix_of l.fn.board) (λ x. suffix_of l.board ≡ Some (with_places (take l.hold l.places) x));
  same : IsSameButSteps g.N.Network.reading l.fn.board l.board;
}
