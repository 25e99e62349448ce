-- The room rows of a table of rooms.
use Rattle.std.specs.Prelude.{◌≡◌, ℕ, zero, suc, ◌*◌, ◌<◌, List, [], ◌∷◌, ◌++◌, length, Option, Some, None, slice_get}
use Rattle.tp_bounds.specs.declared.tree.NamedState.{NamedState}
use Rattle.tp_bounds.specs.declared.tree.TreeRow.{TreeRow}
use Rattle.tp_machine.specs.declared.parts.State.{State}
use Rattle.tp_machine.specs.declared.machine.Machine.{Machine}
use Rattle.tp_routes.specs.Numbers.{number_of, state_at}
use Rattle.tp_schedule.specs.declared.parts.Ask.{Ask}
use Rattle.tp_routes.specs.Tables.{AreRooms, sum_at}
use Rattle.tp_bound_laws.specs.Rows.{row_of}

abbrev pub name_in : Option (List ℕ) → List ℕ
name_in None = []
name_in (Some name) = name

-- a state by the name of its location
abbrev pub named : Machine → State → NamedState
named machine s = record { place = name_in (slice_get machine.locations s.loc.0); up = s.up; front_done = s.front_done; back_done = s.back_done }

-- a row of the state of a number, if it has room
abbrev pub row_by : Machine → ℕ → Option ℕ → List TreeRow
row_by machine n None = []
row_by machine n (Some room) = record { state = named machine (state_at n); room = room } ∷ []

-- the rows of the states below a number
abbrev pub rows_below : Machine → List (Option ℕ) → ℕ → List TreeRow
rows_below machine sums zero = []
rows_below machine sums (suc n) = rows_below machine sums n ++ row_by machine n (sum_at sums n)

-- each state at a location has its room as a row, and no other state has one
abbrev pub HasRooms : Machine → List (Option ℕ) → List TreeRow → Type 0
HasRooms machine sums rows = (s : State) → s.loc.0 < length machine.locations → row_of machine rows s ≡ sum_at sums (number_of s)

-- the rows of an ask in their order: one with its room for each state that can be reached, by the states' numbers. So they stand
-- by locations, then F before B, then by front done, then by back done, 0 before 1
pub record AreOrderedRows (machine : Machine) (ask : Ask) (rows : List TreeRow) : Type 0 where
  pub sums : List (Option ℕ)
  pub rooms : AreRooms machine ask sums
  pub made : rows ≡ rows_below machine sums (length machine.locations * 8)
