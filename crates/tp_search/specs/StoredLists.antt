-- Laying a stored list on a board: what its choices are, and what the board carries then.
use Rattle.std.specs.Prelude.{◌≡◌, ℕ, ◌<◌, List, [], ◌∷◌, length, drop, All, Some, IsSome, IsSomeAnd, IsFalse}
use Rattle.tp_base.specs.Readings.{Reading}
use Rattle.tp_machine.specs.declared.parts.ActId.{ActId}
use Rattle.tp_machine.specs.declared.parts.State.{State}
use Rattle.tp_machine.specs.declared.machine.Machine.{Machine}
use Rattle.tp_pool.specs.declared.choice.Choice.{Choice as Stored}
use Rattle.tp_schedule.specs.Choices.{Choice, ChoiceList, IsOpen, going}
use Rattle.tp_schedule.specs.declared.parts.Ask.{Ask}
use Rattle.tp_schedule.specs.declared.parts.Plan.{Plan}
use Rattle.tp_constraints.specs.Suffixes.{Suffix, list_of}
use Rattle.tp_placing.specs.Boards.{BoardValue, past_of, suffix_of}
use Rattle.tp_placing.specs.Calls.{IsSameLoad}
use Rattle.tp_placing.specs.LoadedBoard.{Stands}
use Rattle.tp_search.specs.Stored.{child_by, choice_with, choices_by}
use Rattle.tp_constraints.specs.Ways.{IsPlaced, IsWay}

-- each stored choice has this goal
abbrev pub HaveGoal : State → List Stored → Type 0
HaveGoal goal choices = All (λ c. c.goal ≡ goal) choices

-- at least one choice, all of them with this goal, and only the newest may be the stop
pub record IsStoredList (goal : State) (choices : List Stored) : Type 0 where
  pub some : 0 < length choices
  pub goals : HaveGoal goal choices
  pub acts : All (λ c. IsSome c.act) (drop 1 choices)

-- the list of these choices, or the goal's without choices
abbrev pub list_from : Machine → State → List Stored → ChoiceList
list_from machine goal [] = going goal []
list_from machine goal (c ∷ cs) = child_by machine goal (choices_by machine cs) c

-- the choices, the newest with these places
abbrev pub newest_with : List ℕ → List Choice → List Choice
newest_with places [] = []
newest_with places (c ∷ choices) = record { act = c.act; places = places } ∷ choices

abbrev pub with_places : List ℕ → Suffix → Suffix
with_places places x = record { choices = newest_with places x.choices; rooms = x.rooms; stopped = x.stopped }

-- the newest choice of the way is the action without a place, and the list with its places is open
pub record AwaitsPlaces (machine : Machine) (plans : List Plan) (ask : Ask) (act : ActId) (places : List ℕ) (x : Suffix) : Type 0 where
  pub goal : State
  pub first : State
  pub choices : List Choice
  pub newest : x.choices ≡ record { act = act; places = [] } ∷ choices
  pub goes_on : IsFalse x.stopped
  pub way : IsWay machine plans ask goal first x
  pub is_open : IsOpen machine plans ask (going goal (choice_with machine act places ∷ choices))

-- the suffix is a way of this list, each choice with its places
pub record IsWayTo (machine : Machine) (plans : List Plan) (ask : Ask) (first : State) (list : ChoiceList) (x : Suffix) : Type 0 where
  pub way : IsWay machine plans ask list.goal first x
  pub placed : IsPlaced machine x.choices
  pub same : list_of list.goal x ≡ list

module _ {N : Type 0} (reading : Reading N) where
  -- the board stands on the machine and the ask, and carries such a way
  pub record HasList (b : BoardValue N) (machine : Machine) (ask : Ask) (first : State) (list : ChoiceList) : Type 0 where
    pub stands : Stands reading b machine
    pub asked : b.ask ≡ Some ask
    pub way : IsSomeAnd (suffix_of b) (IsWayTo machine b.plans ask first list)

  -- the same is loaded, and the same marks are in force
  pub record IsSameButSteps (b b' : BoardValue N) : Type 0 where
    pub same_past : past_of reading b' ≡ past_of reading b
    pub loaded : IsSameLoad b b'
    pub marks : reading.max_marks b'.net ≡ reading.max_marks b.net
