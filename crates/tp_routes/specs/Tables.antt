-- A table of rooms by the numbers of states.
use Rattle.std.specs.Prelude.{◌≡◌, ℕ, ◌<◌, List, length, slice_index_or, Option, None, IfSome, MatchOption}
use Rattle.tp_machine.specs.declared.parts.State.{State}
use Rattle.tp_machine.specs.declared.machine.Machine.{Machine}
use Rattle.tp_schedule.specs.Routes.{IsRoom, HasNoRoom}
use Rattle.tp_schedule.specs.declared.parts.Ask.{Ask}
use Rattle.tp_schedule.specs.declared.parts.Origin.{Origin}
use Rattle.tp_schedule.specs.declared.parts.Origin.TheVariants.{Feeder as FromFeeder, Front as FromFront}
use Rattle.tp_routes.specs.Index.{IsIndexOf, IsLeadIndex}
use Rattle.tp_routes.specs.Numbers.{number_of}
use Rattle.tp_routes.specs.declared.index.ActEnd.TheVariants.{From}

-- what clauses see of rooms: the numbers of the machine that they were made for, a sum for each state, if it has one, the index
-- of the actions by where they lead, that by where they start, and the ask for which the table was filled last, if there was one
pub record RoomTable : Type 0 where
  pub locations : ℕ
  pub resources : ℕ
  pub window : ℕ
  pub sums : List (Option ℕ)
  pub firsts : List (Option ℕ)
  pub nexts : List (Option ℕ)
  pub starts : List (Option ℕ)
  pub starts_behind : List (Option ℕ)
  pub filled : Option Ask

abbrev pub sum_at : List (Option ℕ) → ℕ → Option ℕ
sum_at sums n = slice_index_or sums n None

-- the table has the room of each state, and nothing exactly where a state has no room
abbrev pub AreRooms : Machine → Ask → List (Option ℕ) → Type 0
AreRooms machine ask sums = (s : State) → s.loc.0 < length machine.locations →
    MatchOption (sum_at sums (number_of s)) (HasNoRoom machine ask s) (IsRoom machine ask s)

-- the front's state of an ask in flight is at a location of the machine
abbrev pub IsKnownOrigin : Machine → Origin → Type 0
IsKnownOrigin machine FromFeeder = Unit {0}
IsKnownOrigin machine (FromFront state end count) = state.loc.0 < length machine.locations

-- the same is wanted of both copies, which begin at the same states and lack the same modules: each state has the same room
pub record HaveSameRooms (ask other : Ask) : Type 0 where
  pub want : other.want ≡ ask.want
  pub origin : other.origin ≡ ask.origin
  pub outs : other.outs ≡ ask.outs
  pub empty : other.empty ≡ ask.empty

-- the table has the rooms for the ask, and both indexes are those of the machine
pub record IsFilledFor (table : RoomTable) (machine : Machine) (ask : Ask) : Type 0 where
  pub rooms : AreRooms machine ask table.sums
  pub leads : IsLeadIndex machine table.firsts table.nexts
  pub starts : IsIndexOf From machine table.starts table.starts_behind

-- the table was made for a machine with these numbers
pub record IsMadeFor (table : RoomTable) (machine : Machine) : Type 0 where
  pub locations : table.locations ≡ length machine.locations
  pub resources : table.resources ≡ length machine.resources
  pub window : table.window ≡ machine.window

-- what the table was filled with last, if it was, is of this machine
abbrev pub KeepsRooms : RoomTable → Machine → Type 0
KeepsRooms table machine = IfSome table.filled (IsFilledFor table machine)

-- both were made for the same numbers
pub record HasSameNumbers (table table' : RoomTable) : Type 0 where
  pub locations : table'.locations ≡ table.locations
  pub resources : table'.resources ≡ table.resources
  pub window : table'.window ≡ table.window
