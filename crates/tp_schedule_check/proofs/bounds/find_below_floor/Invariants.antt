use Rattle.std.proofs.Common.{All, IsFalse, take}
use Rattle.tp_schedule_check.specs.Bounds.{StartsAbove}
use Rattle.tp_schedule_check.specs.Early.{is_exempt}
use Rattle.tp_schedule_check.proofs.bounds.find_below_floor.Given as goal

abbrev pub invariant-plans : goal.invariant-plans
invariant-plans l = All (λ p. IsFalse (is_exempt l.exempt p) → StartsAbove l.floor p) (take l.place l.schedule.plans)
