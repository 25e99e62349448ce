use Rattle.std.proofs.Common.{◌≡◌, ℕ, ◌<◌, IsTrue}
use Rattle.tp_schedule.specs.Plans.{is_fixed, point}
use Rattle.tp_schedule_check.proofs.unlike.find_unfixed.Given as goal

abbrev pub invariant-points : goal.invariant-points
invariant-points l = (i : ℕ) → i < l.at → IsTrue (is_fixed l.plan i) → point l.other i ≡ point l.plan i
