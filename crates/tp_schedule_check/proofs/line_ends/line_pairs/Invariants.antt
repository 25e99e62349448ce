use Rattle.std.proofs.Common.{◌≡◌, ℕ, ◌+◌, ◌*◌, ◌≤◌, drop, length, nat_eq}
use Rattle.std.specs.HashMap.{get}
use Rattle.tp_schedule_check.specs.Lines.{line_pairs, next_to, point_count}
use Rattle.tp_schedule_check.proofs.line_ends.line_pairs.Given as goal

abbrev pub invariant-plans : goal.invariant-plans
invariant-plans l = record {
  within : l.at ≤ length l.schedule.plans;
  number : l.number + point_count (drop l.at l.schedule.plans) ≡ point_count l.schedule.plans;
  few : l.number ≤ 65 * length l.schedule.plans;
  next : (tray : ℕ) → get nat_eq l.next tray ≡ next_to tray l.number (drop l.at l.schedule.plans);
  pairs : l.pairs.items ≡ line_pairs l.number (drop l.at l.schedule.plans);
}

abbrev pub decreases-plans : goal.decreases-plans
decreases-plans l = l.at
