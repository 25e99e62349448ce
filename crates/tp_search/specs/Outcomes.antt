-- What a list that is taken leads to, and what a search comes to.
use Rattle.std.specs.Prelude.{◌≡◌, ℕ, ◌-◌, ◌<◌, ◌++◌, [], ◌∷◌, length, List}
use Rattle.tp_base.specs.Readings.{Reading}
use Rattle.tp_machine.specs.declared.parts.State.{State}
use Rattle.tp_machine.specs.declared.machine.Machine.{Machine}
use Rattle.tp_pool.specs.Entries.{choices_of}
use Rattle.tp_schedule.specs.Answers.{IsAlternative, NoneBefore}
use Rattle.tp_schedule.specs.Choices.{ChoiceList, IsBound, IsComplete, IsOpen}
use Rattle.tp_schedule.specs.SpentBudget.{FewListsOpen, IsSpent}
use Rattle.tp_schedule.specs.declared.parts.Ask.{Ask}
use Rattle.tp_schedule.specs.declared.parts.Plan.{Plan}
use Rattle.tp_placing.specs.Boards.{BoardContent, BoardValue, content_of, past_of}
use Rattle.tp_placing.specs.Calls.{IsSameLoad}
use Rattle.tp_search.specs.Boards.{IsBack}
use Rattle.tp_search.specs.StoredLists.{HasList, IsStoredList}
use Rattle.tp_search.specs.OpenedLists.{IsAtProgress, IsFresh, parent_of}
use Rattle.tp_search.specs.OpenedLists.Progress.{nothing, up_to}
use Rattle.tp_search.specs.SearchProgress.{list_at, list_of_goal, next_list, next_node, opening_of}
use Rattle.tp_search.specs.Stores.{HasBounds, StoreGrows, StoreValue}
use Rattle.tp_search.specs.declared.best_first.Outcome.{Outcome}
use Rattle.tp_search.specs.declared.best_first.Outcome.TheVariants.{Again, Found, Never, Spent}
use Rattle.tp_search.specs.declared.next_list.Next.{Next}
use Rattle.tp_search.specs.declared.next_list.Next.TheVariants.{Goal, Node}

module _ (machine : Machine) (plans : List Plan) (ask : Ask) where
  -- the list that was taken can be laid on a board: it is open, and a node's choices are those of a stored list
  abbrev pub CanLay : StoreValue → Next → Type 0
  CanLay s (Goal g) = IsOpen machine plans ask (list_of_goal g)
  CanLay s (Node n) = (n < length s.entries) × IsStoredList (list_at machine s.entries n).goal (choices_of s.entries n) × IsOpen machine plans ask (list_at machine s.entries n)

  -- it can be opened: it can go on, no child was looked at, and none is stored
  pub record CanOpen (s : StoreValue) (next : Next) : Type 0 where
    pub can_lay : CanLay s next
    pub goes_on : next_list machine s next ≡ parent_of machine s.entries (next_list machine s next).goal (next_node next)
    pub fresh : IsFresh machine ask (opening_of machine s next) s
    pub range : HasBounds machine ask s
    pub begins : IsAtProgress machine plans ask (opening_of machine s next) s nothing

  -- all its children were looked at
  pub record IsAllOpened (s : StoreValue) (next : Next) (s' : StoreValue) : Type 0 where
    pub grows : StoreGrows s s'
    pub progress : IsAtProgress machine plans ask (opening_of machine s next) s' (up_to (length machine.actions) [])

module _ {N : Type 0} (reading : Reading N) where
  -- the board carries a complete list, and no alternative ends before the list's bound. All this was laid since a mark
  pub record HasAnswer (b b' : BoardValue N) (machine : Machine) (ask : Ask) (base : ℕ) : Type 0 where
    pub number : base ≡ length (past_of reading b)
    pub kept : List BoardContent
    pub past_more : past_of reading b' ≡ past_of reading b ++ content_of reading b ∷ kept
    pub loaded : IsSameLoad b b'
    pub marks : reading.max_marks b'.net - 1 ≡ reading.max_marks b.net - 1
    pub first : State
    pub list : ChoiceList
    pub bound : ℕ
    pub laid : HasList reading b' machine ask first list
    pub complete : IsComplete machine ask list
    pub is_bound : IsBound machine b.plans ask list bound
    pub none_before : NoneBefore machine b.plans ask bound

  -- what a search of so many nodes came to
  abbrev pub IsOutcome : BoardValue N → BoardValue N → Machine → Ask → ℕ → Outcome → Type 0
  IsOutcome b b' machine ask nodes (Found base) = HasAnswer b b' machine ask base.0
  IsOutcome b b' machine ask nodes Never =
      ((plans' : List Plan) → ¬ IsAlternative machine b.plans ask plans') × IsBack reading b b' machine × FewListsOpen machine b.plans ask nodes
  IsOutcome b b' machine ask nodes (Spent bound) = IsSpent machine b.plans ask nodes bound × IsBack reading b b' machine
  IsOutcome b b' machine ask nodes Again = IsBack reading b b' machine
