-- Frontiers: lists of choice lists that every answer passes through.
use Rattle.std.specs.Prelude.{◌≡◌, ℕ, ◌≤◌, ◌<◌, ◌⊎◌, List, [], Contains, length}
use Rattle.tp_machine.specs.declared.machine.Machine.{Machine}
use Rattle.tp_schedule.specs.Answers.{IsAsked, IsAlternative, IsEarliest, NoneBefore}
use Rattle.tp_schedule.specs.Choices.{IsChoiceList, HasTimes, ChoiceList, IsOpen, OpensTo, IsChild, IsComplete}
use Rattle.tp_schedule.specs.Completions.{answered}
use Rattle.tp_schedule.specs.Legality.{IsLegal}
use Rattle.tp_schedule.specs.Spots.{Ticks}
use Rattle.tp_schedule.specs.Spots.Spot.{own}
use Rattle.tp_schedule.specs.declared.parts.Ask.{Ask}
use Rattle.tp_schedule.specs.declared.parts.Plan.{Plan}

-- the second list is the first, or a child of a child .. of it
pub data Extends (machine : Machine) (ask : Ask) : ChoiceList → ChoiceList → Type 0 where
  itself : {list : ChoiceList} → Extends machine ask list list
  further : {first next list : ChoiceList} → IsChild machine ask first next → Extends machine ask next list → Extends machine ask first list

module _ (machine : Machine) (plans : List Plan) (ask : Ask) where
  -- the list extends one of these
  abbrev pub IsMet : List ChoiceList → ChoiceList → Type 0
  IsMet frontier list = (first : ChoiceList) × Contains frontier first × Extends machine ask first list

  -- a frontier: each complete open list extends one of these
  abbrev pub IsFrontier : List ChoiceList → Type 0
  IsFrontier frontier = (list : ChoiceList) → IsComplete machine ask list → IsOpen machine plans ask list → IsMet frontier list

  -- the open lists without choices are among these
  abbrev pub HasStarts : List ChoiceList → Type 0
  HasStarts frontier = (list : ChoiceList) → list.choices ≡ [] → IsOpen machine plans ask list → Contains frontier list

  -- the first list is opened: each other one stays, and its open children come
  pub record IsOpened (list : ChoiceList) (before after : List ChoiceList) : Type 0 where
    pub stay : (other : ChoiceList) → Contains before other → (other ≡ list) ⊎ Contains after other
    pub come : (child : ChoiceList) → IsChild machine ask list child → IsOpen machine plans ask child → Contains after child

  -- none of these opens to an end below the tick
  abbrev pub NoneOpensBelow : List ChoiceList → ℕ → Type 0
  NoneOpensBelow frontier bound = (list : ChoiceList) → Contains frontier list → (end : ℕ) → OpensTo machine plans ask list end → bound ≤ end

-- the search begins with the open lists without choices
abbrev pub FrontierBegins : Type 0
FrontierBegins = (machine : Machine) (plans : List Plan) (ask : Ask) (frontier : List ChoiceList) → HasStarts machine plans ask frontier → IsFrontier machine plans ask frontier

-- opening a list that is not complete leaves a frontier
abbrev pub FrontierGoesOn : Type 0
FrontierGoesOn = (machine : Machine) (plans : List Plan) (ask : Ask) (list : ChoiceList) (before after : List ChoiceList)
    → IsFrontier machine plans ask before → IsOpened machine plans ask list before after → (IsComplete machine ask list → ⊥) → IsFrontier machine plans ask after

-- no answer ends before the least end to which a list of the frontier opens
abbrev pub FrontierBounds : Type 0
FrontierBounds = (machine : Machine) (plans : List Plan) (ask : Ask) (frontier : List ChoiceList) (bound : ℕ) → IsLegal machine plans → IsAsked machine plans ask
    → IsFrontier machine plans ask frontier → NoneOpensBelow machine plans ask frontier bound → NoneBefore machine plans ask bound

-- where the frontier has no list, there is no answer
abbrev pub FrontierEnds : Type 0
FrontierEnds = (machine : Machine) (plans : List Plan) (ask : Ask) → IsLegal machine plans → IsAsked machine plans ask
    → IsFrontier machine plans ask [] → (plans' : List Plan) → IsAlternative machine plans ask plans' → ⊥

-- a complete list that is taken while no list of the frontier opens to an end below its ticks' is an earliest answer
abbrev pub TakenIsEarliest : Type 0
TakenIsEarliest = (machine : Machine) (plans : List Plan) (ask : Ask) (frontier : List ChoiceList) (list : ChoiceList) (room : ℕ) (t : Ticks) → IsLegal machine plans → IsAsked machine plans ask
    → IsFrontier machine plans ask frontier → NoneOpensBelow machine plans ask frontier (t (own 0))
    → IsChoiceList machine plans ask list → IsComplete machine ask list → 0 < length list.choices → HasTimes machine plans ask list room t
    → IsEarliest machine plans ask (answered plans ask list.choices t)
