-- Points numbered by a table, and the network of their constraints.
use Rattle.std.specs.Prelude.{◌↔◌, ◌≡◌, ◌≢◌, ℕ, zero, suc, ◌<◌, ◌==◌, Bool, false, ◌&&◌, List, [], ◌∷◌, length, map, flat_map, All, AllPairs, Contains, slice_get, Option, Some, None, if◌then◌else◌}
use Rattle.tp_base.specs.declared.edges.Edge.{Edge}
use Rattle.tp_base.specs.Net.{Net}
use Rattle.tp_schedule.specs.Plans.{IsEarlier, is_same_copy}
use Rattle.tp_schedule.specs.Spots.{Spot, Ticks}
use Rattle.tp_schedule.specs.Spots.Spot.{kept, own}
use Rattle.tp_schedule.specs.declared.parts.Plan.{Plan}
use Rattle.tp_schedule.specs.declared.parts.SheetId.{SheetId}
use Rattle.tp_constraints.specs.Gaps.{Gap, gap, IsPoint, KeepsConstraints}

abbrev pub is_same_spot : Spot → Spot → Bool
is_same_spot (kept c i) (kept d j) = is_same_copy c d && (i == j)
is_same_spot (kept c i) (own n) = false
is_same_spot (own m) (kept d j) = false
is_same_spot (own m) (own n) = m == n

-- the number of a point in a table, and the point of a number
abbrev pub number : List Spot → Spot → ℕ
number [] s = 0
number (x ∷ xs) s = if is_same_spot x s then 0 else suc (number xs s)

abbrev pub spot_in : Option Spot → Spot
spot_in None = own 0
spot_in (Some s) = s

abbrev pub spot_at : List Spot → ℕ → Spot
spot_at table i = spot_in (slice_get table i)

-- the times of a network as ticks, and an edge as a gap
abbrev pub ticks_by : List Spot → (ℕ → ℕ) → Ticks
ticks_by table x s = x (number table s)

abbrev pub gap_by : List Spot → Edge → Gap
gap_by table e = gap (spot_at table e.from.0) (spot_at table e.to.0) e.weight

-- the table has each known point once, and no other
pub record IsTable (known : Spot → Type 0) (table : List Spot) : Type 0 where
  pub differ : AllPairs (λ a b. a ≢ b) table
  pub only : All known table
  pub all : (s : Spot) → known s → Contains table s

abbrev pub IsEdgeOf : List Spot → Edge → Type 0
IsEdgeOf table e = (e.from.0 < length table) × (e.to.0 < length table)

-- the network has the points of the table with their bounds, and ticks keep its constraints exactly where they are such times
pub record IsNetFor (known : Spot → Type 0) (low cap : Spot → ℕ) (times : Ticks → Type 0) (table : List Spot) (net : Net) : Type 0 where
  pub is_table : IsTable known table
  pub lows : net.lows ≡ map low table
  pub caps : net.caps ≡ map cap table
  pub edges : All (IsEdgeOf table) net.edges
  pub says : (t : Ticks) → times t ↔ KeepsConstraints known low cap (map (gap_by table) net.edges) t

-- the table of the points of a schedule, plan by plan
abbrev pub points_from : SheetId → ℕ → ℕ → List Spot
points_from copy i zero = kept copy i ∷ []
points_from copy i (suc n) = kept copy i ∷ points_from copy (suc i) n

abbrev pub table_of : List Plan → List Spot
table_of plans = flat_map (λ p. points_from p.sheet 0 (length p.acts)) plans

abbrev pub TableLaw : Type 0
TableLaw = (plans : List Plan) → AllPairs IsEarlier plans → IsTable (IsPoint plans 0) (table_of plans)
