use Rattle.std.proofs.Common.{◌≡◌, ◌≤◌, ◌*◌, ◌++◌, drop}
use Rattle.tp_schedule_check.specs.Early.{plans_steps}
use Rattle.tp_schedule_check.proofs.early.add_durations.Given as goal

abbrev pub invariant-plans : goal.invariant-plans
invariant-plans l = record {
  number : l.number ≤ 65 * l.at;
  steps : l.steps.items ++ plans_steps l.machine l.number (drop l.at l.schedule.plans) ≡ l.fn.steps.items ++ plans_steps l.machine 0 l.schedule.plans;
}
