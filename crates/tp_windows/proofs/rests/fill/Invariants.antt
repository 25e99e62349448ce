use Rattle.tp_windows.specs.RestTables.{AreGoalsIn}
use Rattle.tp_windows.proofs.rests.fill.Given as goal

abbrev pub invariant-passes : goal.invariant-passes
invariant-passes l = AreGoalsIn l.machine l.ask l.rests
