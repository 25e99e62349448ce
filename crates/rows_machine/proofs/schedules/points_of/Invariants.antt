use Rattle.std.proofs.Common.{◌≡◌, length}
use Rattle.rows_machine.proofs.schedules.points_of.Given as goal

abbrev pub invariant-loop-tick : goal.invariant-loop-tick
invariant-loop-tick l = length l.points ≡ l.tick-index
