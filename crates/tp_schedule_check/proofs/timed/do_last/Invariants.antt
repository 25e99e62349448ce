use Rattle.std.proofs.Common.{◌≡◌, ℕ, ◌+◌, ◌<◌, slice_get, slice_index, Some}
use Rattle.tp_machine.specs.declared.parts.ActId.{ActId}
use Rattle.tp_schedule.specs.Plans.{LastsWithin}
use Rattle.tp_schedule_check.proofs.timed.do_last.Given as goal

abbrev pub invariant-acts : goal.invariant-acts
invariant-acts l = (i : ℕ) (act : ActId) → i < l.at → slice_get l.acts i ≡ Some act → LastsWithin l.machine act (slice_index l.points i) (slice_index l.points (i + 1))
