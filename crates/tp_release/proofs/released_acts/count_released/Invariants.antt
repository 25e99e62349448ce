use Rattle.std.proofs.Common.{◌≡◌, ◌≤◌, ◌+◌, length}
use Rattle.tp_release.proofs.DueRuns.{due_below}
use Rattle.tp_release.proofs.released_acts.count_released.Given as goal

abbrev pub invariant-loop-at : goal.invariant-loop-at
invariant-loop-at l = record {
  count : l.released ≡ l.plan.released + length (due_below l.last l.plan l.at);
  few : l.released ≤ l.at;
}
