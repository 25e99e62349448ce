use Rattle.tp_placing.specs.Calls.{IsSameLoad}
use Rattle.rows_engines.specs.LaidWays.{IsLaid}
use Rattle.rows_engines.proofs.laid_ways.lay.Given as goal

abbrev pub invariant-choices : goal.invariant-choices
invariant-choices g l = record {
  laid : IsLaid g.N.Network.reading l.board l.machine l.ask l.first l.at;
  same : IsSameLoad l.initial.board l.board;
}
