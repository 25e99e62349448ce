use Rattle.tp_placing.specs.LoadedBoard.{IsMadeFor}
use Rattle.rows_engines.proofs.search_rows.modules_out.Given as goal

abbrev pub invariant-rows : goal.invariant-rows
invariant-rows g l = record {
  made : IsMadeFor l.board.made_for l.machine;
}
