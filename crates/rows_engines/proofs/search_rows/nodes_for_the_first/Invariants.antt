use Rattle.tp_placing.specs.LoadedBoard.{IsMadeFor}
use Rattle.rows_engines.proofs.search_rows.nodes_for_the_first.Given as goal

abbrev pub invariant-rows : goal.invariant-rows
invariant-rows g l = record {
  made : IsMadeFor l.board.made_for l.machine;
}
