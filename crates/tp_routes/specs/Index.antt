-- The actions by a location at one of their ends.
use Rattle.std.specs.Prelude.{◌≡◌, ◌≢◌, ℕ, ◌+◌, ◌<◌, ◌≤◌, List, length, slice_get, slice_index_or, Option, Some, None}
use Rattle.tp_machine.specs.declared.parts.Action.{Action}
use Rattle.tp_machine.specs.declared.machine.Machine.{Machine}
use Rattle.tp_routes.specs.declared.index.ActEnd.{ActEnd}
use Rattle.tp_routes.specs.declared.index.ActEnd.TheVariants.{From, To}

-- the location that an action starts from, or the one that it leads to
abbrev pub location_at : ActEnd → Action → ℕ
location_at From a = a.from.0
location_at To a = a.to.0

-- no action that is at the location stands from the one number up to the other
abbrev pub NoneAt : ActEnd → List Action → ℕ → ℕ → ℕ → Type 0
NoneAt end actions loc low high = (k : ℕ) (a : Action) → low ≤ k → k < high → slice_get actions k ≡ Some a → location_at end a ≢ loc

-- the first action at the location, from this number on, if there is one
abbrev pub IsNextAt : ActEnd → List Action → ℕ → ℕ → Option ℕ → Type 0
IsNextAt end actions loc low None = NoneAt end actions loc low (length actions)
IsNextAt end actions loc low (Some n) = (low ≤ n) × (n < length actions) × ((a : Action) → slice_get actions n ≡ Some a → location_at end a ≡ loc) × NoneAt end actions loc low n

abbrev pub number_at : List (Option ℕ) → ℕ → Option ℕ
number_at numbers k = slice_index_or numbers k None

-- from this number on: the first action at each location, and behind each action the next one at its location
pub record AreIndexed (end : ActEnd) (actions : List Action) (firsts nexts : List (Option ℕ)) (low : ℕ) : Type 0 where
  pub first : (loc : ℕ) → loc < length firsts → IsNextAt end actions loc low (number_at firsts loc)
  pub next : (k : ℕ) (a : Action) → low ≤ k → slice_get actions k ≡ Some a → IsNextAt end actions (location_at end a) (k + 1) (number_at nexts k)

-- the index of all actions of a machine
pub record IsIndexOf (end : ActEnd) (machine : Machine) (firsts nexts : List (Option ℕ)) : Type 0 where
  pub locations : length firsts ≡ length machine.locations
  pub room : length machine.actions ≤ length nexts
  pub indexed : AreIndexed end machine.actions firsts nexts 0

-- no action that leads to the location stands from the one number up to the other; the first one from this number on, if there is
-- one; and the index of all actions by where they lead
abbrev pub NoneTo : List Action → ℕ → ℕ → ℕ → Type 0
NoneTo actions loc low high = NoneAt To actions loc low high

abbrev pub IsNextTo : List Action → ℕ → ℕ → Option ℕ → Type 0
IsNextTo actions loc low next = IsNextAt To actions loc low next

abbrev pub IsLeadIndex : Machine → List (Option ℕ) → List (Option ℕ) → Type 0
IsLeadIndex machine firsts nexts = IsIndexOf To machine firsts nexts
