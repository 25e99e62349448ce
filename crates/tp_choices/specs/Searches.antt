-- How far a search has come: lists that wait, and lists that were opened.
use Rattle.std.specs.Prelude.{◌≡◌, ◌≢◌, ℕ, ◌≤◌, ◌<◌, ◌⊎◌, List, [], ◌∷◌, Contains, AllPairs, length}
use Rattle.tp_machine.specs.declared.machine.Machine.{Machine}
use Rattle.tp_schedule.specs.Answers.{IsAsked}
use Rattle.tp_schedule.specs.Choices.{ChoiceList, IsOpen, OpensTo, IsBound, IsChild, IsComplete}
use Rattle.tp_schedule.specs.Legality.{IsLegal}
use Rattle.tp_schedule.specs.SpentBudget.{FewListsOpen, IsStoredOrEmpty, IsSpent}
use Rattle.tp_schedule.specs.declared.parts.Ask.{Ask}
use Rattle.tp_schedule.specs.declared.parts.Plan.{Plan}
use Rattle.tp_choices.specs.Frontiers.{IsMet, IsFrontier, NoneOpensBelow}

module _ (machine : Machine) (plans : List Plan) (ask : Ask) where
  -- the list waits, or it was opened
  abbrev pub IsKnown : List ChoiceList → List ChoiceList → ChoiceList → Type 0
  IsKnown waiting opened list = Contains waiting list ⊎ Contains opened list

  -- each open list without choices and each open child of an opened list waits or was opened, and no opened list is complete
  pub record IsSearched (waiting opened : List ChoiceList) : Type 0 where
    pub starts : (list : ChoiceList) → list.choices ≡ [] → IsOpen machine plans ask list → IsKnown waiting opened list
    pub spread : (list child : ChoiceList) → Contains opened list → IsChild machine ask list child → IsOpen machine plans ask child → IsKnown waiting opened child
    pub unfinished : (list : ChoiceList) → Contains opened list → IsComplete machine ask list → ⊥

-- each open list extends one that waits, or was opened
abbrev pub SearchReaches : Type 0
SearchReaches = (machine : Machine) (plans : List Plan) (ask : Ask) (waiting opened : List ChoiceList) → IsSearched machine plans ask waiting opened
    → (list : ChoiceList) → IsOpen machine plans ask list → IsMet machine plans ask waiting list ⊎ Contains opened list

-- the lists that wait are a frontier
abbrev pub SearchFronts : Type 0
SearchFronts = (machine : Machine) (plans : List Plan) (ask : Ask) (waiting opened : List ChoiceList) → IsSearched machine plans ask waiting opened → IsFrontier machine plans ask waiting

-- where no list that waits opens to an end below the bound, each open list that does was opened
abbrev pub SearchBelow : Type 0
SearchBelow = (machine : Machine) (plans : List Plan) (ask : Ask) (waiting opened : List ChoiceList) (bound : ℕ) → IsSearched machine plans ask waiting opened → NoneOpensBelow machine plans ask waiting bound
    → (list : ChoiceList) (end : ℕ) → OpensTo machine plans ask list end → end < bound → Contains opened list

-- where no list waits and each opened list is stored or has no choices, no more open lists with choices exist than are stored
abbrev pub EndedHasFew : Type 0
EndedHasFew = (machine : Machine) (plans : List Plan) (ask : Ask) (opened stored : List ChoiceList) → IsSearched machine plans ask [] opened
    → ((list : ChoiceList) → Contains opened list → IsStoredOrEmpty stored list) → FewListsOpen machine plans ask (length stored)

-- where a search stands as it must store one list too many: the last list is being opened, and some of its children are stored
pub record IsFull (machine : Machine) (plans : List Plan) (ask : Ask) (waiting opened stored : List ChoiceList) (last : ChoiceList) (bound : ℕ) : Type 0 where
  pub searched : IsSearched machine plans ask (last ∷ waiting) opened
  pub different : AllPairs (λ a b. a ≢ b) stored
  pub chosen : (list : ChoiceList) → Contains stored list → IsOpen machine plans ask list × (list.choices ≢ [])
  pub known : (list : ChoiceList) → IsKnown machine plans ask (last ∷ waiting) opened list → IsStoredOrEmpty stored list
  pub from_opened : (parent list : ChoiceList) → Contains stored list → IsChild machine ask parent list → Contains (last ∷ opened) parent
  pub in_rising_order : (list : ChoiceList) (end : ℕ) → Contains (last ∷ opened) list → IsBound machine plans ask list end → end ≤ bound
  pub last_bound : IsBound machine plans ask last bound
  pub none_below : NoneOpensBelow machine plans ask (last ∷ waiting) bound
  pub missing : (child : ChoiceList) × IsChild machine ask last child × IsOpen machine plans ask child × (Contains stored child → ⊥)
  pub none_stored_complete : (list : ChoiceList) → Contains stored list → IsComplete machine ask list → IsBound machine plans ask list bound → ⊥
  pub no_child_complete : (child : ChoiceList) → IsChild machine ask last child → IsComplete machine ask child → IsBound machine plans ask child bound → ⊥

-- then the budget is spent, if it is as many as are stored
abbrev pub FullSpends : Type 0
FullSpends = (machine : Machine) (plans : List Plan) (ask : Ask) (waiting opened stored : List ChoiceList) (last : ChoiceList) (bound : ℕ) → IsLegal machine plans → IsAsked machine plans ask
    → IsFull machine plans ask waiting opened stored last bound → IsSpent machine plans ask (length stored) bound
