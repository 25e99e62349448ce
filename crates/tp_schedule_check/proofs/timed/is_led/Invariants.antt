use Rattle.std.proofs.Common.{◌≡◌, ℕ, ◌<◌, slice_get, Some}
use Rattle.tp_machine.specs.declared.parts.Feeder.{Feeder}
use Rattle.tp_schedule_check.specs.Timed.{LeadsFrom}
use Rattle.tp_schedule_check.proofs.timed.is_led.Given as goal

abbrev pub invariant-feeders : goal.invariant-feeders
invariant-feeders l = (k : ℕ) (f : Feeder) → k < l.at → slice_get l.machine.feeders k ≡ Some f → LeadsFrom l.machine l.plan f → ⊥
