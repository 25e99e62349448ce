use Rattle.std.proofs.Common.{◌≤◌, length}
use Rattle.tp_event_rules.specs.LiveStates.{seen}
use Rattle.tp_event_rules.specs.Ready.{CanTakeEvents, KeepsStock}
use Rattle.rows_trees.proofs.taken_scripts.take_script.Given as goal

abbrev pub invariant-lines : goal.invariant-lines
invariant-lines g l = record {
  served : g.P.Planner.serves l.planner l.machine;
  can : CanTakeEvents l.machine l.taken (seen l.state);
  stocked : KeepsStock l.machine l.taken (seen l.state);
  few : l.taken ≤ 1000;
}

abbrev pub decreases-lines : goal.decreases-lines
decreases-lines g l = length l.rest
