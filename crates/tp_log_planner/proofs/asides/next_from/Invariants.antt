use Rattle.std.proofs.Common.{◌≡◌, ◌-◌, ◌≤◌, drop, length}
use Rattle.tp_log_planner.specs.ToldAnswers.{behind_asides}
use Rattle.tp_log_planner.proofs.asides.next_from.Given as goal

abbrev pub invariant-asides : goal.invariant-asides
invariant-asides l = record {
  passed : behind_asides (drop l.at l.items) ≡ behind_asides (drop l.fn.from l.items);
  further : l.fn.from ≤ l.at;
  within : l.at ≤ length l.items;
}

abbrev pub decreases-asides : goal.decreases-asides
decreases-asides l = length l.items - l.at
