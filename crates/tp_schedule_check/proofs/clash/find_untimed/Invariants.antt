use Rattle.std.proofs.Common.{All, take}
use Rattle.tp_schedule.specs.Plans.{IsTimedPlan}
use Rattle.tp_schedule_check.proofs.clash.find_untimed.Given as goal

abbrev pub invariant-plans : goal.invariant-plans
invariant-plans l = All (IsTimedPlan l.machine) (take l.at l.schedule.plans)
