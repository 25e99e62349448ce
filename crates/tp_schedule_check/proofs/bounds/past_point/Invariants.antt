use Rattle.std.proofs.Common.{ℕ, ◌<◌, ◌≤◌, IsFalse}
use Rattle.tp_schedule.specs.Plans.{is_fixed, point}
use Rattle.tp_schedule_check.proofs.bounds.past_point.Given as goal

abbrev pub invariant-points : goal.invariant-points
invariant-points l = (i : ℕ) → i < l.at → IsFalse (is_fixed l.plan i) → point l.plan i ≤ l.horizon
