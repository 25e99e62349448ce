-- The limit of a search: a tick by which an alternative is known to end, if one is known. Lists that open to later ends alone are
-- left out then.
use Rattle.std.specs.Prelude.{◌≡◌, ℕ, ◌≤◌, List, [], Contains}
use Rattle.tp_machine.specs.declared.machine.Machine.{Machine}
use Rattle.tp_schedule.specs.Choices.{ChoiceList, IsChild, IsComplete, IsOpen, OpensTo}
use Rattle.tp_schedule.specs.declared.parts.Ask.{Ask}
use Rattle.tp_schedule.specs.declared.parts.Plan.{Plan}
use Rattle.tp_choices.specs.Searches.{IsKnown}
use Rattle.tp_search.specs.declared.store.Limit.{Limit}
use Rattle.tp_search.specs.declared.store.Limit.TheVariants.{By, Sought, Unsought}

-- the end is within the limit
abbrev pub IsWithin : Limit → ℕ → Type 0
IsWithin Unsought end = Unit {0}
IsWithin Sought end = Unit {0}
IsWithin (By limit) end = end ≤ limit

-- there is no limit
abbrev pub HasNoLimit : Limit → Type 0
HasNoLimit Unsought = Unit {0}
HasNoLimit Sought = Unit {0}
HasNoLimit (By l) = ⊥

-- the limit is kept, or found where it is sought, or no more sought
abbrev pub IsLimitKept : Limit → Limit → Type 0
IsLimitKept Unsought limit = limit ≡ Unsought
IsLimitKept Sought limit = Unit {0}
IsLimitKept (By l) limit = limit ≡ By l

module _ (machine : Machine) (plans : List Plan) (ask : Ask) where
  -- the list opens to an end within the limit
  pub record OpensWithin (limit : Limit) (list : ChoiceList) : Type 0 where
    pub end : ℕ
    pub opens : OpensTo machine plans ask list end
    pub within : IsWithin limit end

  -- where there is a limit, an alternative ends within it
  abbrev pub IsMetLimit : Limit → Type 0
  IsMetLimit Unsought = Unit {0}
  IsMetLimit Sought = Unit {0}
  IsMetLimit (By l) = (list : ChoiceList) × IsComplete machine ask list × OpensWithin (By l) list

  -- each open list without choices waits or was opened, and so does each child of an opened list that opens to an end within the
  -- limit; and no opened list is complete
  pub record IsSearchedTo (limit : Limit) (waiting opened : List ChoiceList) : Type 0 where
    pub starts : (list : ChoiceList) → list.choices ≡ [] → IsOpen machine plans ask list → IsKnown machine plans ask waiting opened list
    pub spread : (list child : ChoiceList) → Contains opened list → IsChild machine ask list child → OpensWithin limit child → IsKnown machine plans ask waiting opened child
    pub unfinished : (list : ChoiceList) → Contains opened list → IsComplete machine ask list → ⊥
