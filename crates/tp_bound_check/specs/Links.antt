-- Numbers by their locations: the first number of each location, and behind each number the next one of its location.
use Rattle.std.specs.Prelude.{◌≡◌, ℕ, ◌+◌, ◌≤◌, ◌<◌, ◌==◌, List, drop, map, slice_get, slice_index_or, Option, Some, None, IfSome}
use Rattle.std.specs.List.{position_from}
use Rattle.tp_machine.specs.declared.machine.Machine.{Machine}

-- the first number of the location, from this number on
abbrev pub next_at : ℕ → ℕ → List ℕ → Option ℕ
next_at loc low locs = position_from (λ p. p == loc) low (drop low locs)

-- it is that number, and stands there
pub record IsNextAt (loc low : ℕ) (locs : List ℕ) (next : Option ℕ) : Type 0 where
  pub is : next ≡ next_at loc low locs
  pub there : IfSome next (λ n. (low ≤ n) × (slice_get locs n ≡ Some loc))

-- from this number on they are linked
pub record AreLinked (locs : List ℕ) (firsts nexts : List (Option ℕ)) (low : ℕ) : Type 0 where
  pub first : (loc : ℕ) → slice_index_or firsts loc None ≡ next_at loc low locs
  pub next : (k loc : ℕ) → low ≤ k → slice_get locs k ≡ Some loc → slice_index_or nexts k None ≡ next_at loc (k + 1) locs

-- each location is below the count
abbrev pub AreBelow : ℕ → List ℕ → Type 0
AreBelow count locs = (k loc : ℕ) → slice_get locs k ≡ Some loc → loc < count

-- where the actions of a machine start, and where they lead to
abbrev pub starts_of : Machine → List ℕ
starts_of machine = map (λ a. a.from.0) machine.actions

abbrev pub ends_of : Machine → List ℕ
ends_of machine = map (λ a. a.to.0) machine.actions
