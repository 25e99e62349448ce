-- Routes: lists of actions that lead by steps from a start state to a goal state; and the room that a state needs.
use Rattle.std.specs.Prelude.{◌≡◌, ◌≢◌, ℕ, ◌+◌, ◌≤◌, Bool, true, false, List, [], ◌∷◌, Option, Some, None, option_and_then, option_map, unwrap_or, Any, Contains, IsTrue, IsFalse}
use Rattle.tp_machine.specs.Steps.{step_of}
use Rattle.tp_machine.specs.ModuleUse.{action_at, is_allowed}
use Rattle.tp_machine.specs.declared.parts.ActId.{ActId}
use Rattle.tp_machine.specs.declared.parts.Action.{Action}
use Rattle.tp_machine.specs.declared.parts.Face.TheVariants.{Front as FrontUp}
use Rattle.tp_machine.specs.declared.parts.LocId.{LocId}
use Rattle.tp_machine.specs.declared.parts.Outs.{Outs}
use Rattle.tp_machine.specs.declared.parts.Sheet.{Sheet}
use Rattle.tp_machine.specs.declared.parts.State.{State}
use Rattle.tp_machine.specs.declared.parts.Want.{Want}
use Rattle.tp_machine.specs.declared.parts.Want.TheVariants.{Blank, Mono, Colour}
use Rattle.tp_machine.specs.declared.machine.Machine.{Machine}
use Rattle.tp_schedule.specs.LocationSets.{has}
use Rattle.tp_schedule.specs.declared.parts.Ask.{Ask}
use Rattle.tp_schedule.specs.declared.parts.Goal.{Goal}
use Rattle.tp_schedule.specs.declared.parts.Goal.TheVariants.{Tray, Purge}
use Rattle.tp_schedule.specs.declared.parts.Origin.{Origin}
use Rattle.tp_schedule.specs.declared.parts.Origin.TheVariants.{Feeder as FromFeeder, Front as FromFront}

-- the step of the action of this number, if the machine has it
abbrev pub step_by : Machine → Sheet → ActId → State → Option State
step_by machine sheet act s = option_and_then (λ a. step_of a sheet s) (action_at machine act.0)

-- where the actions lead from a state, if they can be taken one after another
abbrev pub walk : Machine → Sheet → List ActId → State → Option State
walk machine sheet [] s = Some s
walk machine sheet (act ∷ acts) s = option_and_then (walk machine sheet acts) (step_by machine sheet act s)

-- a new sheet at a location: front up and nothing done
abbrev pub fresh : LocId → State
fresh loc = record { loc = loc; up = FrontUp; front_done = false; back_done = false }

-- a start state of a new copy is at a feeder of the sheet's media
abbrev pub IsFreshStart : Machine → Sheet → State → Type 0
IsFreshStart machine sheet s = Any (λ f. (f.media ≡ sheet.media) × (s ≡ fresh f.loc)) machine.feeders

abbrev pub is_wanted : Want → Bool
is_wanted Blank = false
is_wanted Mono = true
is_wanted Colour = true

-- the one state at a tray with each wanted side done, no other side done, and the wanted face up
abbrev pub finished : Sheet → LocId → State
finished sheet tray = record { loc = tray; up = sheet.face; front_done = is_wanted sheet.front; back_done = is_wanted sheet.back }

-- a goal state: the finished sheet at its tray, or any state at any purge tray
abbrev pub IsGoalState : Machine → Sheet → Goal → State → Type 0
IsGoalState machine sheet (Tray t) s = s ≡ finished sheet t
IsGoalState machine sheet Purge s = Contains machine.purges s.loc

-- a start state of an ask: for a new copy a fresh start at a feeder that isn't empty, for a copy in flight the state after
-- its kept actions
abbrev pub IsStartFrom : Machine → Ask → Origin → State → Type 0
IsStartFrom machine ask FromFeeder s = IsFreshStart machine ask.want s × IsFalse (has ask.empty s.loc)
IsStartFrom machine ask (FromFront state end kept) s = s ≡ state

abbrev pub IsStart : Machine → Ask → State → Type 0
IsStart machine ask s = IsStartFrom machine ask ask.origin s

-- none of the modules that the action uses is out
abbrev pub is_act_allowed : Machine → Outs → ActId → Bool
is_act_allowed machine outs act = unwrap_or (option_map (is_allowed machine outs) (action_at machine act.0)) false

abbrev pub AreAllowed : Machine → Outs → List ActId → Type 0
AreAllowed machine outs acts = (act : ActId) → Contains acts act → IsTrue (is_act_allowed machine outs act)

-- the actions lead from a start state of the ask to the state
pub record Reaches (machine : Machine) (ask : Ask) (acts : List ActId) (s : State) : Type 0 where
  pub start : State
  pub starts : IsStart machine ask start
  pub leads : walk machine ask.want acts start ≡ Some s

-- a route of an ask: at least one action, leading from a start state to a goal state
pub record IsRoute (machine : Machine) (ask : Ask) (acts : List ActId) : Type 0 where
  pub some : acts ≢ []
  pub goal : State
  pub is_goal : IsGoalState machine ask.want ask.goal goal
  pub reaches : Reaches machine ask acts goal

-- the sum of the actions' least durations
abbrev pub least_in : Option Action → ℕ
least_in None = 0
least_in (Some a) = a.least

abbrev pub least_of : Machine → ActId → ℕ
least_of machine act = least_in (action_at machine act.0)

abbrev pub least_sum : Machine → List ActId → ℕ
least_sum machine [] = 0
least_sum machine (act ∷ acts) = least_of machine act + least_sum machine acts

-- room of a state: the least sum of least durations over all lists of zero or more allowed actions that lead from a
-- start state of the ask to the state
pub record IsRoom (machine : Machine) (ask : Ask) (s : State) (room : ℕ) : Type 0 where
  pub acts : List ActId
  pub allowed : AreAllowed machine ask.outs acts
  pub reaches : Reaches machine ask acts s
  pub sum : least_sum machine acts ≡ room
  pub least : (others : List ActId) → AreAllowed machine ask.outs others → Reaches machine ask others s → room ≤ least_sum machine others

-- no such list leads to the state
abbrev pub HasNoRoom : Machine → Ask → State → Type 0
HasNoRoom machine ask s = (acts : List ActId) → AreAllowed machine ask.outs acts → ¬ Reaches machine ask acts s
