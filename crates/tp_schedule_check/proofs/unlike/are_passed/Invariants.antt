use Rattle.std.proofs.Common.{◌≡◌, drop}
use Rattle.tp_schedule_check.specs.Alike.{others}
use Rattle.tp_schedule_check.proofs.unlike.are_passed.Given as goal

abbrev pub invariant-plans : goal.invariant-plans
invariant-plans l = others l.asked (drop l.fn.from l.schedule.plans) ≡ others l.asked (drop l.at l.schedule.plans)
