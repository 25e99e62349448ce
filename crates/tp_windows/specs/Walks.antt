-- Walks over halves: which halves wait, and when one is closed.
use Rattle.std.specs.Prelude.{◌≡◌, ℕ, ◌-◌, ◌<◌, ◌≤◌, List, [], ◌∷◌, map, reverse, if◌then◌else◌}
use Rattle.tp_machine.specs.declared.machine.Machine.{Machine}
use Rattle.tp_schedule.specs.Spots.{Spot}
use Rattle.tp_schedule.specs.declared.parts.Ask.{Ask}
use Rattle.tp_schedule.specs.declared.parts.Plan.{Plan}
use Rattle.tp_constraints.specs.Numbers.{spot_at, table_of}
use Rattle.tp_windows.specs.Halves.{AreLeft, Half, low_half}
use Rattle.tp_windows.specs.Windows.{NoneIn, Windows}
use Rattle.tp_windows.specs.declared.halves.Looked.{Looked}
use Rattle.tp_windows.specs.declared.halves.Looked.TheVariants.{Closed, Found, Split, GaveUp}
use Rattle.tp_windows.specs.declared.ranges.Side.{Side}
use Rattle.tp_windows.specs.declared.way.Way.{Way}
use Rattle.tp_windows.specs.declared.way.Way.TheVariants.{Found as WayFound, GaveUp as WayGaveUp, Never}
use Rattle.tp_windows.specs.declared.windows.Turned.{Turned}
use Rattle.tp_windows.specs.declared.windows.Turned.TheVariants.{Next, Over, Lost}

-- the condition of a side, and those of a path of sides, the last one first
abbrev pub half_of : List Spot → Side → Half
half_of table side = record { spot = spot_at table side.point.0; tick = side.tick; high = side.later }

abbrev pub halves_of : List Spot → List Side → List Half
halves_of table path = map (half_of table) (reverse path)

-- the halves that wait beside those of a path: the low one for each high one
abbrev pub siblings : List Half → List (List Half)
siblings [] = []
siblings (h ∷ halves) = if h.high then (low_half h.spot h.tick ∷ halves) ∷ siblings halves else siblings halves

-- all that wait, where a path's end does
abbrev pub waiting_at : List Spot → List Side → List (List Half)
waiting_at table path = halves_of table path ∷ siblings (halves_of table path)

-- a half that waits may be closed
abbrev pub CanClose : Machine → List Plan → Ask → ℕ → List Half → Type 0
CanClose machine plans ask limit halves = (waiting : List (List Half)) → AreLeft machine plans ask (halves ∷ waiting) limit → AreLeft machine plans ask waiting limit

-- what a look at a half found: it may be closed, perhaps for an earlier end
abbrev pub IsSeen : Machine → List Plan → Ask → List Half → ℕ → Looked → Type 0
IsSeen machine plans ask halves end Closed = CanClose machine plans ask (end - 1) halves
IsSeen machine plans ask halves end (Found sooner) = CanClose machine plans ask (sooner - 1) halves
IsSeen machine plans ask halves end (Split side) = Unit {0}
IsSeen machine plans ask halves end GaveUp = Unit {0}

abbrev pub IsSooner : ℕ → Looked → Type 0
IsSooner end Closed = Unit {0}
IsSooner end (Found sooner) = (0 < sooner) × (sooner < end)
IsSooner end (Split side) = Unit {0}
IsSooner end GaveUp = Unit {0}

-- no complete list in the windows ends before the end of the way that was found, or by the limit where there is none
abbrev pub IsWayIn : Machine → List Plan → Ask → Windows → ℕ → Way → Type 0
IsWayIn machine plans ask w limit (WayFound label end) = (bound : ℕ) → bound < end → bound ≤ limit → NoneIn machine plans ask w bound
IsWayIn machine plans ask w limit Never = NoneIn machine plans ask w limit
IsWayIn machine plans ask w limit WayGaveUp = Unit {0}

-- what was found in the windows of a half
abbrev pub IsSeenIn : Machine → List Plan → Ask → Windows → ℕ → Looked → Type 0
IsSeenIn machine plans ask w end Closed = NoneIn machine plans ask w (end - 1)
IsSeenIn machine plans ask w end (Found sooner) = NoneIn machine plans ask w (sooner - 1)
IsSeenIn machine plans ask w end (Split side) = Unit {0}
IsSeenIn machine plans ask w end GaveUp = Unit {0}

-- what becomes of a half with a way that ends at a tick
abbrev pub IsVerdict : ℕ → Looked → Type 0
IsVerdict from Closed = ⊥
IsVerdict from (Found sooner) = sooner ≡ from
IsVerdict from (Split side) = Unit {0}
IsVerdict from GaveUp = Unit {0}

-- after a turn of the walk other halves wait, perhaps for an earlier end, or none do
abbrev pub IsGoneOn : Machine → List Plan → Ask → List Side → Turned → Type 0
IsGoneOn machine plans ask path (Next sooner) = AreLeft machine plans ask (waiting_at (table_of plans) path) (sooner - 1)
IsGoneOn machine plans ask path (Over sooner) = AreLeft machine plans ask [] (sooner - 1)
IsGoneOn machine plans ask path Lost = Unit {0}

abbrev pub IsTurned : Machine → List Plan → Ask → List Side → List Side → ℕ → Turned → Type 0
IsTurned machine plans ask path path' end turned = AreLeft machine plans ask (waiting_at (table_of plans) path) (end - 1) → IsGoneOn machine plans ask path' turned

-- the end is no later then, and not 0
abbrev pub IsSoonerTurn : ℕ → Turned → Type 0
IsSoonerTurn end (Next sooner) = (0 < sooner) × (sooner ≤ end)
IsSoonerTurn end (Over sooner) = (0 < sooner) × (sooner ≤ end)
IsSoonerTurn end Lost = Unit {0}
