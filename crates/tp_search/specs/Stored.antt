-- The lists that a search stores: entries of a pool as choice lists.
use Rattle.std.specs.Prelude.{ℕ, ◌<◌, ◌≤◌, Bool, false, true, List, [], ◌∷◌, length, map, take, Contains, Option, Some, None}
use Rattle.tp_machine.specs.ModuleUse.{action_at}
use Rattle.tp_machine.specs.declared.parts.ActId.{ActId}
use Rattle.tp_machine.specs.declared.parts.Face.TheVariants.{Front as FrontUp}
use Rattle.tp_machine.specs.declared.parts.State.{State}
use Rattle.tp_machine.specs.declared.machine.Machine.{Machine}
use Rattle.tp_pool.specs.Entries.{Entry, entry_at}
use Rattle.tp_pool.specs.declared.choice.Choice.{Choice as Stored}
use Rattle.tp_schedule.specs.Choices.{Choice, ChoiceList, IsComplete}
use Rattle.tp_schedule.specs.Holders.{holds_of_act}
use Rattle.tp_schedule.specs.declared.parts.Ask.{Ask}

-- an action with as many of the places as it has holds
abbrev pub choice_with : Machine → ActId → List ℕ → Choice
choice_with machine act places = record { act = act; places = take (length (holds_of_act (action_at machine act.0))) places }

-- a stored choice before others: one more with an action, none more with the stop
abbrev pub with_stored : Machine → Option ActId → List ℕ → List Choice → List Choice
with_stored machine None places choices = choices
with_stored machine (Some act) places choices = choice_with machine act places ∷ choices

abbrev pub is_stop : Option ActId → Bool
is_stop None = true
is_stop (Some act) = false

-- the list that has one stored choice more
abbrev pub child_by : Machine → State → List Choice → Stored → ChoiceList
child_by machine goal choices c = record { goal = goal; choices = with_stored machine c.act c.places choices; stopped = is_stop c.act }

-- the choices of stored ones, the newest first
abbrev pub choices_by : Machine → List Stored → List Choice
choices_by machine [] = []
choices_by machine (c ∷ cs) = with_stored machine c.act c.places (choices_by machine cs)

-- the list of stored choices, the newest first. It has the goal of the newest; no entry is without choices
abbrev pub list_by : Machine → List Stored → ChoiceList
list_by machine [] = record { goal = record { loc = record { 0 = 0 }; up = FrontUp; front_done = false; back_done = false }; choices = []; stopped = false }
list_by machine (c ∷ cs) = child_by machine c.goal (choices_by machine cs) c

abbrev pub lists_by : Machine → List Entry → List ChoiceList
lists_by machine entries = map (λ e. list_by machine e.choices) entries

-- the entry of the best complete list: none is complete with a smaller bound
pub record IsBest (machine : Machine) (ask : Ask) (entries : List Entry) (node : ℕ) : Type 0 where
  pub there : node < length entries
  pub complete : IsComplete machine ask (list_by machine (entry_at entries node).choices)
  pub least : (e : Entry) → Contains entries e → IsComplete machine ask (list_by machine e.choices) → (entry_at entries node).bound ≤ e.bound

abbrev pub HasBest : Machine → Ask → List Entry → Option ℕ → Type 0
HasBest machine ask entries None = (e : Entry) → Contains entries e → ¬ IsComplete machine ask (list_by machine e.choices)
HasBest machine ask entries (Some node) = IsBest machine ask entries node
