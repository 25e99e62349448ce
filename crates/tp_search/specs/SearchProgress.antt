-- How far a search has come: the goals and the stored lists that wait, and what is known of the lists that were opened.
use Rattle.std.specs.Prelude.{◌≡◌, ◌≢◌, ℕ, ◌+◌, ◌-◌, ◌<◌, ◌≤◌, false, List, [], ◌∷◌, ◌++◌, length, map, All, AllPairs, Contains, Option, Some, None, IfSome, Vec, vec_capacity}
use Rattle.std.specs.declared.alloc.Global.{Global}
use Rattle.tp_machine.specs.declared.machine.Machine.{Machine}
use Rattle.tp_pool.specs.Entries.{Entry, bound_of, choices_of}
use Rattle.tp_schedule.specs.Choices.{ChoiceList, IsBound, IsChild, going}
use Rattle.tp_schedule.specs.SpentBudget.{IsStoredOrEmpty}
use Rattle.tp_schedule.specs.declared.parts.Ask.{Ask}
use Rattle.tp_schedule.specs.declared.parts.Plan.{Plan}
use Rattle.tp_choices.specs.Frontiers.{HasStarts}
use Rattle.tp_search.specs.StoredLists.{IsStoredList}
use Rattle.tp_search.specs.Limits.{IsMetLimit, IsSearchedTo}
use Rattle.tp_search.specs.Stored.{HasBest, list_by, lists_by}
use Rattle.tp_search.specs.Stores.{HasBounds, IsTaken, StoreValue}
use Rattle.tp_search.specs.declared.goals.OpenGoal.{OpenGoal}
use Rattle.tp_search.specs.declared.opening.Opening.{Opening}
use Rattle.tp_search.specs.declared.next_list.Next.{Next}
use Rattle.tp_search.specs.declared.next_list.Next.TheVariants.{Goal, Node}

abbrev pub list_of_goal : OpenGoal → ChoiceList
list_of_goal g = going g.state []

abbrev pub list_at : Machine → List Entry → ℕ → ChoiceList
list_at machine entries node = list_by machine (choices_of entries node)

-- the lists that wait
abbrev pub waiting_in : Machine → List OpenGoal → StoreValue → List ChoiceList
waiting_in machine goals s = map list_of_goal goals ++ map (list_at machine s.entries) s.waits

-- these goals have open lists without choices, each with its bound, and no other goal has one
pub record AreOpenGoals (machine : Machine) (plans : List Plan) (ask : Ask) (goals : List OpenGoal) : Type 0 where
  pub bounds : All (λ g. IsBound machine plans ask (list_of_goal g) g.bound) goals
  pub apart : AllPairs (λ a b. a.state ≢ b.state) goals
  pub every : HasStarts machine plans ask (map list_of_goal goals)

-- an entry of a search: an open list with choices, with its bound
pub record IsOpenEntry (machine : Machine) (plans : List Plan) (ask : Ask) (e : Entry) : Type 0 where
  pub formed : IsStoredList (list_by machine e.choices).goal e.choices
  pub some : (list_by machine e.choices).choices ≢ []
  pub is_bound : IsBound machine plans ask (list_by machine e.choices) e.bound

-- a search that has come to this bound: no list that waits has a smaller one, and no list that was opened has a greater one
pub record IsSearching (machine : Machine) (plans : List Plan) (ask : Ask) (goals : List OpenGoal) (s : StoreValue) (bound : ℕ) : Type 0 where
  pub opened : List ChoiceList
  pub searched : IsSearchedTo machine plans ask s.limit (waiting_in machine goals s) opened
  pub met : IsMetLimit machine plans ask s.limit
  pub goals_bound : All (λ g. IsBound machine plans ask (list_of_goal g) g.bound) goals
  pub goals_apart : AllPairs (λ a b. a.state ≢ b.state) goals
  pub goals_later : All (λ g. bound ≤ g.bound) goals
  pub entries : All (IsOpenEntry machine plans ask) s.entries
  pub entries_apart : AllPairs (λ a b. list_by machine a.choices ≢ list_by machine b.choices) s.entries
  pub waits_known : (node : ℕ) → Contains s.waits node → node < length s.entries
  pub waits_later : (node : ℕ) → Contains s.waits node → bound ≤ bound_of s.entries node
  pub opened_stored : (list : ChoiceList) → Contains opened list → IsStoredOrEmpty (lists_by machine s.entries) list
  pub from_opened : (parent child : ChoiceList) → Contains (lists_by machine s.entries) child → IsChild machine ask parent child → Contains opened parent
  pub opened_earlier : (list : ChoiceList) (end : ℕ) → Contains opened list → IsBound machine plans ask list end → end ≤ bound
  pub unopened : (list : ChoiceList) → Contains (waiting_in machine goals s) list → ¬ Contains opened list
  pub has_best : HasBest machine ask s.entries s.best
  pub not_full : s.full ≡ false
  pub range : HasBounds machine ask s

-- the list that is taken, its bound and its node
abbrev pub next_list : Machine → StoreValue → Next → ChoiceList
next_list machine s (Goal g) = list_of_goal g
next_list machine s (Node n) = list_at machine s.entries n

abbrev pub next_bound : StoreValue → Next → ℕ
next_bound s (Goal g) = g.bound
next_bound s (Node n) = bound_of s.entries n

abbrev pub next_node : Next → Option ℕ
next_node (Goal g) = None
next_node (Node n) = Some n

-- the goal is taken out
pub record IsGoalTaken (goals : List OpenGoal) (g : OpenGoal) (goals' : List OpenGoal) : Type 0 where
  pub before : List OpenGoal
  pub after : List OpenGoal
  pub there : goals ≡ before ++ g ∷ after
  pub rest : goals' ≡ before ++ after

abbrev pub IsOut : List OpenGoal → StoreValue → List OpenGoal → StoreValue → Next → Type 0
IsOut goals s goals' s' (Goal g) = IsGoalTaken goals g goals' × (s' ≡ s)
IsOut goals s goals' s' (Node n) = (goals' ≡ goals) × IsTaken s n s'

-- the next list waited, and none that waits has a smaller bound
pub record IsNext (goals : List OpenGoal) (s : StoreValue) (goals' : List OpenGoal) (s' : StoreValue) (next : Next) : Type 0 where
  pub out : IsOut goals s goals' s' next
  pub goals_later : All (λ g. next_bound s next ≤ g.bound) goals'
  pub waits_later : (node : ℕ) → Contains s'.waits node → next_bound s next ≤ bound_of s.entries node

-- the best complete list has a greater bound, if there is one
abbrev pub IsBestLater : StoreValue → ℕ → Type 0
IsBestLater s bound = IfSome s.best (λ best. bound < bound_of s.entries best)

-- how the opening of the list that was taken begins
abbrev pub opening_of : Machine → StoreValue → Next → Opening
opening_of machine s next = record { parent = next_node next; goal = (next_list machine s next).goal; bound = next_bound s next; stored = length s.entries; barred = None }

-- how many lists can still be taken: those that wait, and those that can still be stored
abbrev pub still_to_take : List OpenGoal → StoreValue → ℕ
still_to_take goals s = length goals + length s.waits + (s.capacity - length s.entries)

-- the store and the goals have the same room as before
pub record IsSameSpace (goals goals' : Vec OpenGoal Global) (s s' : StoreValue) : Type 0 where
  pub capacity : s'.capacity ≡ s.capacity
  pub width : s'.width ≡ s.width
  pub space : vec_capacity goals ≤ vec_capacity goals'
