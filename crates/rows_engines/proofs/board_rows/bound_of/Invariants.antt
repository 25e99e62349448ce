use Rattle.std.proofs.Common.{◌+◌}
use Rattle.rows_engines.specs.BoardAsk.{IsForNew, IsOpen}
use Rattle.rows_engines.proofs.board_rows.bound_of.Given as goal

abbrev pub invariant-loop-at : goal.invariant-loop-at
invariant-loop-at g l = record {
  new : IsForNew g.N.Network.reading l.board l.machine;
  goes_on : IsOpen (l.at + 2) l.board;
}
