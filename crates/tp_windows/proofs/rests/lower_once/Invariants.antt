use Rattle.std.proofs.Common.{◌≡◌, ℕ, ◌<◌, ◌≤◌, false, length}
use Rattle.tp_windows.specs.RestTables.{AreStepsIn, KeepsGoals}
use Rattle.tp_windows.proofs.rests.lower_once.Given as goal

abbrev pub invariant-acts : goal.invariant-acts
invariant-acts l = record {
  within : l.left ≤ length l.machine.actions;
  goals : KeepsGoals l.fn.rests l.rests;
  closed : l.lowered ≡ false → (act : ℕ) → l.left ≤ act → act < length l.machine.actions → AreStepsIn l.machine l.ask l.rests act;
}

abbrev pub decreases-acts : goal.decreases-acts
decreases-acts l = l.left
