use Rattle.std.proofs.Common.{◌≡◌, ◌+◌, ◌*◌, ◌≤◌, drop, length, sum_by}
use Rattle.tp_event_records.specs.RecordNames.{points_of}
use Rattle.tp_event_records.proofs.times.count_points.Given as goal

abbrev pub invariant-plans : goal.invariant-plans
invariant-plans l = record {
  rest : l.count + sum_by length (points_of (drop l.at l.schedule.plans)) ≡ sum_by length (points_of l.schedule.plans);
  few : l.count ≤ 65 * l.at;
}
