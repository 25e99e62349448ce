use Rattle.std.proofs.Common.{All, take}
use Rattle.tp_schedule_check.specs.Bounds.{EndsWithin}
use Rattle.tp_schedule_check.proofs.bounds.find_past_horizon.Given as goal

abbrev pub invariant-plans : goal.invariant-plans
invariant-plans l = All (EndsWithin l.horizon) (take l.place l.schedule.plans)
