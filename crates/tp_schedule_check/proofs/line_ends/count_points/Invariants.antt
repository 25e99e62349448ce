use Rattle.std.proofs.Common.{◌≡◌, ◌≤◌, ◌+◌, ◌*◌, drop}
use Rattle.tp_schedule_check.specs.Lines.{point_count}
use Rattle.tp_schedule_check.proofs.line_ends.count_points.Given as goal

abbrev pub invariant-plans : goal.invariant-plans
invariant-plans l = record {
  count : l.count + point_count (drop l.at l.schedule.plans) ≡ point_count l.schedule.plans;
  within : l.count ≤ 65 * l.at;
}
