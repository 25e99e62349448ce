use Rattle.std.proofs.Common.{◌≡◌, ◌*◌, ◌≤◌, length, filter, take}
use Rattle.tp_schedule.specs.Holders.{holds_at, runs}
use Rattle.tp_schedule.proofs.schedule.Schedule.is_held_once.Given as goal

abbrev pub invariant-loop-plan : goal.invariant-loop-plan
invariant-loop-plan l = record {
  count : l.holders ≡ length (filter (holds_at l.machine l.resource.0 l.at) (runs (take l.plan-index l.plan-items)));
  within : l.holders ≤ 64 * l.plan-index;
}
