use Rattle.std.proofs.Common.{◌≡◌, ◌++◌, ◌+◌, ◌-◌, length}
use Rattle.tp_schedule_check.specs.Early.{is_exempt, is_low, plan_marks, values_from}
use Rattle.tp_schedule_check.proofs.early.add_marks.Given as goal

abbrev pub invariant-points : goal.invariant-points
invariant-points l = l.marks.items ++ values_from (is_low l.floor (is_exempt l.exempt) l.plan) l.at (length l.plan.acts + 1 - l.at) ≡ l.fn.marks.items ++ plan_marks l.floor (is_exempt l.exempt) l.plan
