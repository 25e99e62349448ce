-- The free stock of feeders, and which of them are empty.
use Rattle.std.specs.Prelude.{◌≡◌, ℕ, ◌*◌, ◌==◌, ◌&&◌, Bool, false, List, map, filter, find, position, count_by, get_or, slice_get, Contains, Option, Some, None, option_and_then, is_some, if◌then◌else◌, ℤ, pos, neg_ℤ, ◌+ℤ◌, ◌-ℤ◌, ◌≤ℤ◌, ◌^◌}
use Rattle.std.specs.List.{fold, list_any, range_with_len}
use Rattle.std.specs.Option.{option_eq}
use Rattle.std.specs.Ordering.{int_eq}
use Rattle.std.specs.Str.{bytes_eq}
use Rattle.tp_machine.specs.Limits.{most_locations}
use Rattle.tp_machine.specs.ModuleUse.{action_at}
use Rattle.tp_machine.specs.declared.parts.Action.{Action}
use Rattle.tp_machine.specs.declared.parts.Feeder.{Feeder}
use Rattle.tp_machine.specs.declared.machine.Machine.{Machine}
use Rattle.tp_schedule.specs.LocationSets.{nowhere, with}
use Rattle.tp_schedule.specs.declared.parts.Empties.{Empties}
use Rattle.tp_schedule.specs.declared.parts.Plan.{Plan}

-- whether the plan's first action begins at the location of this number
abbrev pub is_from : ℕ → Option Action → Bool
is_from loc None = false
is_from loc (Some a) = a.from.0 == loc

abbrev pub begins_at : Machine → ℕ → Plan → Bool
begins_at machine loc p = is_from loc (option_and_then (λ act. action_at machine act.0) (slice_get p.acts 0))

-- how many sheets the plans took at the location
abbrev pub taken_at : Machine → List Plan → ℕ → ℕ
taken_at machine plans loc = count_by (begins_at machine loc) plans

-- a number for each location
unfoldable pub by_location : {X : Type 0} → (ℕ → X) → List X
by_location f = map f (range_with_len 0 most_locations)

-- the sums of refills where no feeder has been refilled
abbrev pub no_refills : List ℤ
no_refills = by_location (λ loc. pos 0)

-- the refills of one location
abbrev pub refilled : List ℤ → ℕ → ℤ
refilled refills loc = get_or refills loc (pos 0)

-- whether the sheets at this location are counted: a feeder is there that is not endless
abbrev pub is_counted : Machine → ℕ → Bool
is_counted machine loc = list_any (λ f. (f.loc.0 == loc) && is_some f.stock) machine.feeders

-- how many sheets of a stock the plans took at the location
abbrev pub drawn_at : Machine → List Plan → ℕ → ℕ
drawn_at machine plans loc = if is_counted machine loc then taken_at machine plans loc else 0

-- refills where so many sheets were taken before, and so many of those still are
abbrev pub left_of : Bool → ℤ → ℕ → ℕ → ℤ
left_of counted refills before after = if counted then ((refills +ℤ pos after) -ℤ pos before) else refills

-- the refills less what these plans took of a stock, which are forgotten
abbrev pub less_taken : Machine → List Plan → List ℤ → List ℤ
less_taken machine gone refills = by_location (λ loc. refilled refills loc -ℤ pos (drawn_at machine gone loc))

-- the refills with so many sheets more at the location of this number
abbrev pub more_at : ℕ → ℕ → List ℤ → List ℤ
more_at at count refills = by_location (λ loc. refilled refills loc +ℤ pos (if loc == at then count else 0))

-- the numbers are so small that sums with them fit in 64 bits
abbrev pub IsBounded : List ℤ → Type 0
IsBounded refills = (loc : ℕ) → (neg_ℤ (pos (2 ^ 62)) ≤ℤ refilled refills loc) × (refilled refills loc ≤ℤ pos (2 ^ 62))

-- what is free of a stock: the stock and its refills, less what was taken; an endless stock has no such number
abbrev pub free_of : Option ℕ → ℤ → ℕ → Option ℤ
free_of None more taken = None
free_of (Some stock) more taken = Some ((pos stock +ℤ more) -ℤ pos taken)

-- the free stock of a feeder
abbrev pub free_stock : Machine → List ℤ → List Plan → Feeder → Option ℤ
free_stock machine refills plans f = free_of f.stock (refilled refills f.loc.0) (taken_at machine plans f.loc.0)

-- a feeder is empty where its free stock is 0; an endless one never is
abbrev pub is_empty : Machine → List ℤ → List Plan → Feeder → Bool
is_empty machine refills plans f = option_eq int_eq (free_stock machine refills plans f) (Some (pos 0))

-- the locations of the empty feeders
abbrev pub empties : Machine → List ℤ → List Plan → Empties
empties machine refills plans = fold (λ set f. with set f.loc) nowhere (filter (is_empty machine refills plans) machine.feeders)

-- the feeder at the location with this name
abbrev pub feeder_at : Machine → ℕ → Option Feeder
feeder_at machine loc = find (λ f. f.loc.0 == loc) machine.feeders

abbrev pub feeder_named : Machine → List ℕ → Option Feeder
feeder_named machine name = option_and_then (feeder_at machine) (position (bytes_eq name) machine.locations)

-- the most sheets that a feeder may have free as it is refilled
abbrev pub most_free : ℕ
most_free = 1000000

-- at each feeder with a stock the plans that begin there are at most its stock and its refills
abbrev pub IsNotOverdrawn : Machine → List ℤ → List Plan → Type 0
IsNotOverdrawn machine refills plans = (f : Feeder) → Contains machine.feeders f → (stock : ℕ) → f.stock ≡ Some stock
    → pos (taken_at machine plans f.loc.0) ≤ℤ (pos stock +ℤ refilled refills f.loc.0)

-- so many refills, and so many plans forgotten, are at most what this many events make of them
abbrev pub AreWithin : ℕ → List ℤ → Type 0
AreWithin events refills = (loc : ℕ) → (neg_ℤ (pos (events * most_free)) ≤ℤ refilled refills loc) × (refilled refills loc ≤ℤ pos (events * most_free))

-- a stock and its refills, less what is forgotten, come to no more than this: a feeder is refilled to 1,000,000 free sheets at
-- most while at most 256 plans are live, so that 1,000,256 may be free when they are withdrawn; and a desk may go on from there
-- with 256 plans
abbrev pub most_stocked : ℕ
most_stocked = 1000512

abbrev pub IsStockedWithin : Machine → List ℤ → Type 0
IsStockedWithin machine refills = (loc : ℕ) (f : Feeder) (stock : ℕ) → feeder_at machine loc ≡ Some f → f.stock ≡ Some stock
    → (pos stock +ℤ refilled refills loc) ≤ℤ pos most_stocked
