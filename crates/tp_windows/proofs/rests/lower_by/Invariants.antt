use Rattle.std.proofs.Common.{◌≡◌, ℕ, ◌+◌, ◌<◌, false}
use Rattle.tp_windows.specs.RestTables.{IsStepIn, KeepsGoals}
use Rattle.tp_windows.proofs.rests.lower_by.Given as goal

abbrev pub invariant-states : goal.invariant-states
invariant-states l = record {
  goals : KeepsGoals l.fn.rests l.rests;
  same : l.lowered ≡ false → l.rests ≡ l.fn.rests;
  closed : l.lowered ≡ false → (k : ℕ) → k < l.k → IsStepIn l.machine l.ask l.fn.rests l.act.0 (l.first + k);
}
