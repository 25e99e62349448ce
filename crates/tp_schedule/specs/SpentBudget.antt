-- When the budget of an ask is spent.
use Rattle.std.specs.Prelude.{◌≡◌, ◌≢◌, ℕ, ◌<◌, ◌≤◌, ◌⊎◌, List, [], length, AllPairs, Contains}
use Rattle.tp_machine.specs.declared.machine.Machine.{Machine}
use Rattle.tp_schedule.specs.Answers.{NoneBefore}
use Rattle.tp_schedule.specs.Choices.{ChoiceList, IsOpen, IsBound, IsChild, IsComplete}
use Rattle.tp_schedule.specs.declared.parts.Ask.{Ask}
use Rattle.tp_schedule.specs.declared.parts.Plan.{Plan}

-- the list is stored, or it has no choices
abbrev pub IsStoredOrEmpty : List ChoiceList → ChoiceList → Type 0
IsStoredOrEmpty stored list = Contains stored list ⊎ (list.choices ≡ [])

module _ (machine : Machine) (plans : List Plan) (ask : Ask) where
  -- each open child of the list is stored
  abbrev pub IsExpanded : List ChoiceList → ChoiceList → Type 0
  IsExpanded stored list = (child : ChoiceList) → IsChild machine ask list child → IsOpen machine plans ask child → Contains stored child

  -- the budget is spent at this bound. As many different open lists with choices as the budget are stored. The last list
  -- is open and has this bound; it is stored or has no choices, and so is the parent of each stored list, whose bound is at
  -- most this bound. The open children of each list with a smaller bound are stored, but the last list has an open child that is
  -- not. No stored list and no child of the last one is complete with this bound, and no alternative ends before it
  pub record IsSpent (budget bound : ℕ) : Type 0 where
    pub stored : List ChoiceList
    pub count : length stored ≡ budget
    pub different : AllPairs (λ a b. a ≢ b) stored
    pub chosen : (list : ChoiceList) → Contains stored list → IsOpen machine plans ask list × (list.choices ≢ [])
    pub last : ChoiceList
    pub last_bound : IsBound machine plans ask last bound
    pub last_known : IsStoredOrEmpty stored last
    pub parents : (parent list : ChoiceList) → Contains stored list → IsChild machine ask parent list → IsStoredOrEmpty stored parent × ((end : ℕ) → IsBound machine plans ask parent end → end ≤ bound)
    pub below : (list : ChoiceList) (end : ℕ) → IsBound machine plans ask list end → end < bound → IsExpanded stored list
    pub missing : (child : ChoiceList) × IsChild machine ask last child × IsOpen machine plans ask child × (Contains stored child → ⊥)
    pub none_stored_complete : (list : ChoiceList) → Contains stored list → IsComplete machine ask list → IsBound machine plans ask list bound → ⊥
    pub no_child_complete : (child : ChoiceList) → IsChild machine ask last child → IsComplete machine ask child → IsBound machine plans ask child bound → ⊥
    pub none_before : NoneBefore machine plans ask bound

  -- at most so many different open lists with choices exist
  abbrev pub FewListsOpen : ℕ → Type 0
  FewListsOpen most = (lists : List ChoiceList) → AllPairs (λ a b. a ≢ b) lists → ((list : ChoiceList) → Contains lists list → IsOpen machine plans ask list × (list.choices ≢ [])) → length lists ≤ most
