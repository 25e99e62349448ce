use Rattle.std.proofs.Common.{◌≡◌, filter, not, take}
use Rattle.tp_schedule_check.specs.Holds.{slot_of}
use Rattle.tp_schedule_check.specs.OrderDifferences.{is_new_of}
use Rattle.tp_schedule_check.proofs.parting.old_holds.Given as goal

abbrev pub invariant-holds : goal.invariant-holds
invariant-holds l = l.old.items ≡ filter (λ h. not (is_new_of l.asked (slot_of h))) (take l.at l.holds)
