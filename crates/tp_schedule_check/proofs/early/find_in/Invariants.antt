use Rattle.std.proofs.Common.{ℕ, ◌<◌, ◌+◌}
use Rattle.tp_schedule_check.specs.Marks.{IsMarked}
use Rattle.tp_schedule_check.proofs.early.find_in.Given as goal

abbrev pub invariant-points : goal.invariant-points
invariant-points l = (i : ℕ) → i < l.at → IsMarked l.marks (l.number + i)
