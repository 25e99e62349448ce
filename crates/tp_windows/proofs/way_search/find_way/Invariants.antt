use Rattle.std.proofs.Common.{◌≤◌}
use Rattle.tp_windows.specs.SoughtWays.{IsFrontFor}
use Rattle.tp_windows.specs.WaitingLabels.{AreKeyed}
use Rattle.tp_windows.proofs.way_search.find_way.Given as goal

abbrev pub invariant-steps : goal.invariant-steps
invariant-steps l = record {
  less : l.steps ≤ l.fn.steps;
  keyed : AreKeyed l.sought.rests.now.rests.items l.front;
  front : IsFrontFor l.sought l.front.waiting.items l.front;
}

abbrev pub decreases-steps : goal.decreases-steps
decreases-steps l = l.steps
