use Rattle.std.proofs.Common.{◌≡◌, take}
use Rattle.tp_schedule.proofs.schedule.Schedule.copy.Given as goal

abbrev pub invariant-loop-plan : goal.invariant-loop-plan
invariant-loop-plan l = l.plans.items ≡ take l.plan-index l.self.plans
