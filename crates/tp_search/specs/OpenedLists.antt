-- Opening a list: which of its children were looked at, and what is known of them.
use Rattle.std.specs.Prelude.{◌≡◌, ◌≢◌, ℕ, ◌<◌, ◌≤◌, ◌⊎◌, List, [], ◌∷◌, ◌++◌, Bool, length, take, All, AllPairs, Contains, Option, IsTrue}
use Rattle.tp_machine.specs.declared.machine.Machine.{Machine}
use Rattle.tp_machine.specs.declared.parts.State.{State}
use Rattle.tp_pool.specs.Entries.{Entry, IsParentOf, choices_before}
use Rattle.tp_pool.specs.declared.choice.Choice.{Choice as Stored}
use Rattle.tp_schedule.specs.Choices.{Choice, ChoiceList, IsBound, IsChild, IsComplete, IsOpen, going}
use Rattle.tp_schedule.specs.declared.parts.Ask.{Ask}
use Rattle.tp_schedule.specs.declared.parts.Plan.{Plan}
use Rattle.tp_search.specs.declared.opening.Opening.{Opening}
use Rattle.tp_search.specs.Limits.{IsMetLimit, IsWithin, OpensWithin}
use Rattle.tp_search.specs.declared.store.Limit.{Limit}
use Rattle.tp_search.specs.Stored.{HasBest, choices_by, list_by, lists_by}
use Rattle.tp_search.specs.Stores.{StoreGrows, StoreValue}

-- places are tried from the last to the first: the first places differ, and where they do those of the first list are greater
abbrev pub AreTriedBefore : List ℕ → List ℕ → Type 0
AreTriedBefore [] ys = ⊥
AreTriedBefore (x ∷ xs) [] = ⊥
AreTriedBefore (x ∷ xs) (y ∷ ys) = (y < x) ⊎ ((x ≡ y) × AreTriedBefore xs ys)

-- the newest choice has a smaller action, or this one with first places that are tried before
abbrev pub IsAhead : ℕ → List ℕ → List Choice → Type 0
IsAhead act places [] = ⊥
IsAhead act places (c ∷ choices) = (c.act.0 < act) ⊎ ((c.act.0 ≡ act) × AreTriedBefore c.places places)

-- the newest choice has this action and these first places
abbrev pub IsUnder : ℕ → List ℕ → List Choice → Type 0
IsUnder act places [] = ⊥
IsUnder act places (c ∷ choices) = (c.act.0 ≡ act) × ((rest : List ℕ) × (c.places ≡ places ++ rest))

-- how far the children were looked at: not at all; the stop, and the choices of smaller actions and of places that are tried
-- before; or those under these first places too
pub data Progress : Type 0 where
  nothing : Progress
  up_to : ℕ → List ℕ → Progress
  through : ℕ → List ℕ → Progress

abbrev pub IsLooked : Progress → ChoiceList → Type 0
IsLooked nothing list = ⊥
IsLooked (up_to act places) list = IsTrue list.stopped ⊎ IsAhead act places list.choices
IsLooked (through act places) list = IsTrue list.stopped ⊎ (IsAhead act places list.choices ⊎ IsUnder act places list.choices)

module _ (machine : Machine) (plans : List Plan) (ask : Ask) (parent : ChoiceList) (bound : ℕ) where
  -- the entry is an open child that was looked at, with its bound
  pub record IsOpenChild (before : List Stored) (progress : Progress) (e : Entry) : Type 0 where
    pub newest : Stored
    pub choices : e.choices ≡ newest ∷ before
    pub goal : newest.goal ≡ parent.goal
    pub is_child : IsChild machine ask parent (list_by machine e.choices)
    pub looked : IsLooked progress (list_by machine e.choices)
    pub is_bound : IsBound machine plans ask (list_by machine e.choices) e.bound

  -- the child is complete with the parent's bound
  pub record Answers (child : ChoiceList) : Type 0 where
    pub is_child : IsChild machine ask parent child
    pub complete : IsComplete machine ask child
    pub is_bound : IsBound machine plans ask child bound

  -- an open child is not among the stored lists, of which there are as many as there can be
  pub record IsMissing (entries : List Entry) (room : ℕ) : Type 0 where
    pub all : length entries ≡ room
    pub child : ChoiceList
    pub is_child : IsChild machine ask parent child
    pub is_open : IsOpen machine plans ask child
    pub not_stored : Contains (lists_by machine entries) child → ⊥

  -- the children that were looked at, where they open to an end within the limit: stored behind the entries that there were, each
  -- once, unless the store is full. None of them is complete with the parent's bound, which is within the limit, and the best
  -- complete list that is stored is known
  pub record IsOpening (limit : Limit) (before : List Stored) (base : List Entry) (progress : Progress) (entries : List Entry) (room : ℕ) (full : Bool) (best : Option ℕ) : Type 0 where
    pub in_limit : IsWithin limit bound
    pub met : IsMetLimit machine plans ask limit
    pub new : List Entry
    pub grown : entries ≡ base ++ new
    pub children : All (IsOpenChild before progress) new
    pub apart : AllPairs (λ a b. list_by machine a.choices ≢ list_by machine b.choices) new
    pub reached : (child : ChoiceList) → IsChild machine ask parent child → IsLooked progress child → OpensWithin machine plans ask limit child → IsTrue full ⊎ Contains (lists_by machine new) child
    pub finished : (child : ChoiceList) → IsLooked progress child → ¬ Answers child
    pub spent : IsTrue full → IsMissing entries room
    pub has_best : HasBest machine ask entries best

-- the list that is being opened: that of its node, or the goal's without choices
abbrev pub parent_of : Machine → List Entry → State → Option ℕ → ChoiceList
parent_of machine entries goal parent = going goal (choices_by machine (choices_before entries parent))

-- the opening of a list has come so far
abbrev pub IsAtProgress : Machine → List Plan → Ask → Opening → StoreValue → Progress → Type 0
IsAtProgress machine plans ask o s progress =
    IsOpening machine plans ask (parent_of machine s.entries o.goal o.parent) o.bound s.limit (choices_before s.entries o.parent) (take o.stored s.entries) progress s.entries s.capacity s.full s.best

-- the same list is being opened, and what was stored stays
pub record IsSameOpening (o o' : Opening) (s s' : StoreValue) : Type 0 where
  pub goal : o'.goal ≡ o.goal
  pub parent : o'.parent ≡ o.parent
  pub bound : o'.bound ≡ o.bound
  pub stored : o'.stored ≡ o.stored
  pub grows : StoreGrows s s'

-- the parent was stored, if it is not a goal's list, and no list that was stored before is a child of it
pub record IsFresh (machine : Machine) (ask : Ask) (o : Opening) (s : StoreValue) : Type 0 where
  pub stored : o.stored ≤ length s.entries
  pub parent : IsParentOf o.stored o.parent
  pub same_goal : (c : Stored) (cs : List Stored) → choices_before s.entries o.parent ≡ c ∷ cs → c.goal ≡ o.goal
  pub none_before : (e : Entry) → Contains (take o.stored s.entries) e → ¬ IsChild machine ask (parent_of machine s.entries o.goal o.parent) (list_by machine e.choices)
