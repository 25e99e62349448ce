use Rattle.std.proofs.Common.{length}
use Rattle.tp_schedule.proofs.outage_spread.+mode_of_plans.Given as goal

abbrev pub decreases-mode_of_plans : goal.decreases-mode_of_plans
decreases-mode_of_plans l = length l.plans.now
