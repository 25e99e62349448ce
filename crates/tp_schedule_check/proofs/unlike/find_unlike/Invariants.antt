use Rattle.std.proofs.Common.{◌+◌, ◌-◌, length}
use Rattle.tp_schedule_check.proofs.AlikeFacts.{StandsFor}
use Rattle.tp_schedule_check.proofs.unlike.find_unlike.Given as goal

abbrev pub invariant-plans : goal.invariant-plans
invariant-plans l = StandsFor l.asked l.before.plans l.after.plans l.from l.to

abbrev pub decreases-plans : goal.decreases-plans
decreases-plans l = (length l.before.plans - l.from) + (length l.after.plans - l.to)
