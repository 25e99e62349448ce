-- What an answer leaves for the next ask.
use Rattle.std.specs.Prelude.{◌≡◌, ℕ, List, Option, Some, None}
use Rattle.tp_schedule.specs.declared.parts.Plan.{Plan}
use Rattle.tp_event_records.specs.RecordNames.{points_of}

-- where points were kept, they are those of the plans, which the planner left so
abbrev pub IsLeft : (List Plan → Type 0) → List Plan → Option (List (List ℕ)) → Type 0
IsLeft follows plans None = Unit {0}
IsLeft follows plans (Some points) = follows plans × (points ≡ points_of plans)
