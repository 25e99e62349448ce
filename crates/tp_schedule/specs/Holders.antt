-- Which copies hold a resource at a tick.
use Rattle.std.specs.Prelude.{◌≡◌, ℕ, ◌+◌, Bool, ◌&&◌, ◌==◌, List, [], ◌∷◌, map, filter, flat_map, Option, Some, None, Contains, IsTrue}
use Rattle.std.specs.List.{list_any}
use Rattle.tp_machine.specs.Modes.{mode_of}
use Rattle.tp_machine.specs.ModuleUse.{action_at, covers}
use Rattle.tp_machine.specs.declared.parts.ActId.{ActId}
use Rattle.tp_machine.specs.declared.parts.Action.{Action}
use Rattle.tp_machine.specs.declared.parts.HoldRule.{HoldRule}
use Rattle.tp_machine.specs.declared.machine.Machine.{Machine}
use Rattle.tp_schedule.specs.declared.parts.Hold.{Hold}
use Rattle.tp_schedule.specs.declared.parts.Plan.{Plan}
use Rattle.tp_schedule.specs.declared.parts.SheetId.{SheetId}

-- an action of a copy in time: its number, from 1 on, and its start and end
pub record Run : Type 0 where
  pub sheet : SheetId
  pub number : ℕ
  pub act : ActId
  pub start : ℕ
  pub end : ℕ

-- the actions with their starts and ends, the first of this number
abbrev pub runs_from : SheetId → ℕ → List ActId → List ℕ → List Run
runs_from sheet n [] points = []
runs_from sheet n (act ∷ acts) [] = []
runs_from sheet n (act ∷ acts) (start ∷ []) = []
runs_from sheet n (act ∷ acts) (start ∷ end ∷ points) =
    record { sheet = sheet; number = n; act = act; start = start; end = end } ∷ runs_from sheet (n + 1) acts (end ∷ points)

abbrev pub runs_of : Plan → List Run
runs_of p = runs_from p.sheet 1 p.acts p.points

abbrev pub runs : List Plan → List Run
runs plans = flat_map runs_of plans

abbrev pub holds_of_act : Option Action → List HoldRule
holds_of_act None = []
holds_of_act (Some a) = a.holds

-- whether the hold, of an action that runs from start to end, is of the resource and covers the tick
abbrev pub is_held_by : HoldRule → ℕ → ℕ → ℕ → ℕ → Bool
is_held_by h resource start end tick = (h.resource.0 == resource) && covers h start end tick

-- whether the run holds the resource at the tick
abbrev pub holds_at : Machine → ℕ → ℕ → Run → Bool
holds_at machine resource tick run = list_any (λ h. is_held_by h resource run.start run.end tick) (holds_of_act (action_at machine run.act.0))

abbrev pub hold_of : Run → Hold
hold_of run = record { sheet = run.sheet; act = run.number }

-- the copies that hold the resource at the tick, each with the number of the action that holds it
abbrev pub held : Machine → List Plan → ℕ → ℕ → List Hold
held machine plans resource tick = map hold_of (filter (holds_at machine resource tick) (runs plans))

-- a holder of a resource: a copy, the number of its action, and the mode in which that holds
pub record Holder : Type 0 where
  pub hold : Hold
  pub mode : ℕ

abbrev pub holder_of : Run → HoldRule → Holder
holder_of run h = record { hold = hold_of run; mode = mode_of h }

-- the holders of the resource at the tick, one for each hold that covers it
abbrev pub holders_in : Machine → ℕ → ℕ → Run → List Holder
holders_in machine resource tick run = map (holder_of run) (filter (λ h. is_held_by h resource run.start run.end tick) (holds_of_act (action_at machine run.act.0)))

abbrev pub holders : Machine → List Plan → ℕ → ℕ → List Holder
holders machine plans resource tick = flat_map (holders_in machine resource tick) (runs plans)

-- a hold of an action of the plans is on the resource, covers the tick, and has this mode
pub record IsHeldIn (machine : Machine) (plans : List Plan) (resource tick mode : ℕ) : Type 0 where
  pub plan : Plan
  pub planned : Contains plans plan
  pub run : Run
  pub runs : Contains (runs_of plan) run
  pub hold : HoldRule
  pub holds : Contains (holds_of_act (action_at machine run.act.0)) hold
  pub covers : IsTrue (is_held_by hold resource run.start run.end tick)
  pub mode_is : mode_of hold ≡ mode
