use Rattle.std.proofs.Common.{◌≡◌, ℕ, suc, ◌<◌, slice_get, Some, IsFalse}
use Rattle.tp_schedule_check.specs.Holds.{overlaps}
use Rattle.tp_schedule_check.specs.declared.held.NumberedHold.{NumberedHold}
use Rattle.tp_schedule_check.proofs.clash.find_overlap.Given as goal

abbrev pub invariant-holds : goal.invariant-holds
invariant-holds l = (k : ℕ) (x y : NumberedHold) → suc k < l.at → slice_get l.holds k ≡ Some x → slice_get l.holds (suc k) ≡ Some y → IsFalse (overlaps l.machine x y)
