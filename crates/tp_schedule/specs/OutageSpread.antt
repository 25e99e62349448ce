-- A mode in which plans hold a resource at some tick of a stretch.
use Rattle.std.specs.Prelude.{ℕ, ◌+◌, pos, Bool, false, not, ◌&&◌, ◌==◌, if◌then◌else◌, int_le, int_lt, List, [], ◌∷◌, Option, Some, None}
use Rattle.tp_machine.specs.Modes.{mode_of}
use Rattle.tp_machine.specs.ModuleUse.{action_at, begin_of, end_of}
use Rattle.tp_machine.specs.declared.parts.HoldRule.{HoldRule}
use Rattle.tp_machine.specs.declared.machine.Machine.{Machine}
use Rattle.tp_schedule.specs.Holders.{Run, runs_of, holds_of_act}
use Rattle.tp_schedule.specs.declared.parts.Plan.{Plan}
use Rattle.tp_schedule.specs.declared.outage_spread.Stretch.{Stretch}

abbrev pub or_later : Option ℕ → Option ℕ → Option ℕ
or_later None later = later
or_later (Some n) later = Some n

-- the first number that is found
abbrev pub first_of : {X : Type 0} → (X → Option ℕ) → List X → Option ℕ
first_of find [] = None
first_of find (x ∷ xs) = or_later (find x) (first_of find xs)

-- whether the hold, of an action that runs from start to end, is of the resource and covers a tick of the stretch
abbrev pub is_held_within : Stretch → ℕ → ℕ → HoldRule → Bool
is_held_within s start end h =
    (h.resource.0 == s.resource.0) && (int_lt (begin_of h start end) (end_of h start end) && int_le (begin_of h start end) (pos (s.first + s.more)) && int_lt (pos s.first) (end_of h start end))

abbrev pub is_passed : Option ℕ → ℕ → Bool
is_passed None mode = false
is_passed (Some other) mode = other == mode

-- the mode of such a hold, where it is not the one that is passed over
unfoldable pub mode_within : Stretch → ℕ → ℕ → HoldRule → Option ℕ
mode_within s start end h = if is_held_within s start end h && not (is_passed s.besides (mode_of h)) then Some (mode_of h) else None

abbrev pub mode_of_run : Machine → Stretch → Run → Option ℕ
mode_of_run machine s run = first_of (mode_within s run.start run.end) (holds_of_act (action_at machine run.act.0))

abbrev pub mode_of_plan : Machine → Stretch → Plan → Option ℕ
mode_of_plan machine s p = first_of (mode_of_run machine s) (runs_of p)
