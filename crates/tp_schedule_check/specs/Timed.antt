-- A timed plan, as it is decided.
use Rattle.std.specs.Prelude.{◌≡◌, ℕ, ◌+◌, List, slice_get, slice_index, Some, IsSomeAnd}
use Rattle.tp_machine.specs.declared.machine.Machine.{Machine}
use Rattle.tp_machine.specs.declared.parts.ActId.{ActId}
use Rattle.tp_machine.specs.declared.parts.Feeder.{Feeder}
use Rattle.tp_schedule.specs.Plans.{EndsIn, LastsWithin}
use Rattle.tp_schedule.specs.Routes.{fresh, walk}
use Rattle.tp_schedule.specs.declared.parts.Plan.{Plan}

-- each action lasts within its durations, from its point to the next
abbrev pub DoLast : Machine → List ActId → List ℕ → Type 0
DoLast machine acts points = (i : ℕ) (act : ActId) → slice_get acts i ≡ Some act → LastsWithin machine act (slice_index points i) (slice_index points (i + 1))

-- the feeder has the plan's media, and from a new sheet there the actions lead to where the plan is to end
pub record LeadsFrom (machine : Machine) (p : Plan) (feeder : Feeder) : Type 0 where
  pub media : feeder.media ≡ p.want.media
  pub arrives : IsSomeAnd (walk machine p.want p.acts (fresh feeder.loc)) (EndsIn machine p p.kind)
