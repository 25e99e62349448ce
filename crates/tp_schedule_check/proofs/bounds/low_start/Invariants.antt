use Rattle.std.proofs.Common.{ℕ, ◌<◌, ◌≤◌}
use Rattle.tp_schedule.specs.Plans.{point}
use Rattle.tp_schedule_check.proofs.bounds.low_start.Given as goal

abbrev pub invariant-starts : goal.invariant-starts
invariant-starts l = (i : ℕ) → l.plan.released ≤ i → i < l.at → l.floor < point l.plan i
