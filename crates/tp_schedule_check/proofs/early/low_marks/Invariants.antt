use Rattle.std.proofs.Common.{◌≡◌, take}
use Rattle.tp_schedule_check.specs.Early.{is_exempt, low_marks}
use Rattle.tp_schedule_check.proofs.early.low_marks.Given as goal

abbrev pub invariant-plans : goal.invariant-plans
invariant-plans l = l.marks.items ≡ low_marks l.floor (is_exempt l.exempt) (take l.at l.schedule.plans)
