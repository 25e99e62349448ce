use Rattle.std.proofs.Common.{ℕ, ◌<◌, ◌≤◌}
use Rattle.tp_schedule.specs.Plans.{point}
use Rattle.tp_snapshot_rules.proofs.schedule.have_started.Given as goal

abbrev pub invariant-acts : goal.invariant-acts
invariant-acts l = (i : ℕ) → i < l.at → point l.plan i ≤ l.now
