use Rattle.std.proofs.Common.{◌≡◌, ℕ, ◌<◌, slice_get, Some}
use Rattle.tp_machine.specs.declared.parts.Feeder.{Feeder}
use Rattle.tp_schedule.specs.Routes.{fresh}
use Rattle.tp_schedule_check.specs.Asked.{LeadsFrom}
use Rattle.tp_schedule_check.proofs.asked.does_lead_from_feeder.Given as goal

abbrev pub invariant-feeders : goal.invariant-feeders
invariant-feeders l = (k : ℕ) (f : Feeder) → k < l.at → slice_get l.machine.feeders k ≡ Some f → LeadsFrom l.machine l.ask l.acts (fresh f.loc) → ⊥
