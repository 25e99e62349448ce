use Rattle.std.proofs.Common.{◌≡◌, ◌≤◌, drop, length, map, take}
use Rattle.tp_schedule.specs.declared.parts.Plan.{Plan}
use Rattle.tp_event_rules.specs.Fates.{Fate as Befalls, left_by}
use Rattle.tp_replan.specs.Meanings.{meant}
use Rattle.tp_replan.proofs.remaining_plans.leave_all.Given as goal

abbrev pub invariant-leave : goal.invariant-leave
invariant-leave l = record {
  within : l.at ≤ length l.fn.schedule.plans;
  len : l.at ≤ length l.schedule.plans;
  before : take l.at l.schedule.plans ≡ take l.at l.fn.schedule.plans;
  left : (rule : Plan → Befalls) → map meant l.fates ≡ map rule l.fn.schedule.plans → drop l.at l.schedule.plans ≡ left_by rule l.now (drop l.at l.fn.schedule.plans);
}

abbrev pub decreases-leave : goal.decreases-leave
decreases-leave l = l.at
