use Rattle.std.proofs.Common.{◌≡◌, ◌++◌, drop}
use Rattle.tp_event_records.specs.RecordNames.{others, points_of}
use Rattle.tp_event_records.proofs.times.Times.of.Given as goal

abbrev pub invariant-plans : goal.invariant-plans
invariant-plans l = l.times ++ points_of (others l.asked (drop l.at l.schedule.plans)) ≡ points_of (others l.asked l.schedule.plans)
