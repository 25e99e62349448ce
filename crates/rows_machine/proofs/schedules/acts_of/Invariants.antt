use Rattle.std.proofs.Common.{◌≡◌, length}
use Rattle.rows_machine.proofs.schedules.acts_of.Given as goal

abbrev pub invariant-loop-number : goal.invariant-loop-number
invariant-loop-number l = length l.acts ≡ l.number-index
