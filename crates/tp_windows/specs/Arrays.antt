-- Windows as two arrays beside the network of a loaded board: a least and a greatest time for each of its points.
use Rattle.std.specs.Prelude.{◌≡◌, ℕ, ◌<◌, ◌≤◌, List, false, length, slice_index, Contains, IsTrue, map, All, Bool}
use Rattle.tp_base.specs.Net.{IsSolution, Net}
use Rattle.tp_machine.specs.declared.machine.Machine.{Machine}
use Rattle.tp_schedule.specs.Plans.{goes_to, is_before, is_delivered_to}
use Rattle.tp_schedule.specs.Spots.{Spot}
use Rattle.tp_schedule.specs.Spots.Spot.{kept}
use Rattle.tp_schedule.specs.declared.parts.Ask.{Ask}
use Rattle.tp_schedule.specs.declared.parts.Plan.{Plan}
use Rattle.tp_constraints.specs.Nets.{IsLoadedNet}
use Rattle.tp_constraints.specs.Numbers.{number, spot_at, ticks_by}
use Rattle.tp_windows.specs.Halves.{AreWindowsOf, Half, IsSide}
use Rattle.tp_windows.specs.Windows.{AreWindows, IsEmpty, IsHighHalf, IsLowHalf, IsNarrowed, Windows}

-- the windows of the points of a table
abbrev pub windows_by : List Spot → List ℕ → List ℕ → Windows
windows_by table lows highs = record { lo = ticks_by table (slice_index lows); hi = ticks_by table (slice_index highs) }

-- each time lies between those of its number
abbrev pub IsBetween : (ℕ → ℕ) → List ℕ → List ℕ → Type 0
IsBetween y lows highs = (i : ℕ) → i < length lows → (slice_index lows i ≤ y i) × (y i ≤ slice_index highs i)

-- the plans of earlier copies to the tray of the ask end before the limit
abbrev pub EndsBefore : List Plan → Ask → List Spot → ℕ → (ℕ → ℕ) → Type 0
EndsBefore plans ask table limit y = (p : Plan) → Contains plans p → (tray : ℕ) → IsTrue (goes_to ask.goal tray) → IsTrue (is_delivered_to p tray) → IsTrue (is_before p.sheet ask.sheet)
    → y (number table (kept p.sheet (length p.acts))) < limit

-- the times of a loaded network: its solutions that end the line in time
pub record IsTimes (plans : List Plan) (ask : Ask) (table : List Spot) (net : Net) (limit : ℕ) (y : ℕ → ℕ) : Type 0 where
  pub solution : IsSolution net y
  pub line : EndsBefore plans ask table limit y

-- arrays that hold all times are windows
abbrev pub ArrayWindows : Type 0
ArrayWindows = (machine : Machine) (plans : List Plan) (ask : Ask) (limit : ℕ) (table : List Spot) (net : Net) (lows highs : List ℕ) → IsLoadedNet machine ask.now (λ _. false) plans table net
    → length lows ≡ length table → ((y : ℕ → ℕ) → IsTimes plans ask table net limit y → IsBetween y lows highs) → AreWindows machine plans ask limit (windows_by table lows highs)

-- other arrays that hold all times of the first narrow the windows
abbrev pub ArrayNarrows : Type 0
ArrayNarrows = (machine : Machine) (plans : List Plan) (ask : Ask) (limit : ℕ) (table : List Spot) (net : Net) (lows highs lows' highs' : List ℕ) → IsLoadedNet machine ask.now (λ _. false) plans table net
    → length lows ≡ length table → length lows' ≡ length table
    → ((y : ℕ → ℕ) → IsTimes plans ask table net limit y → IsBetween y lows highs → IsBetween y lows' highs') → IsNarrowed machine plans ask limit (windows_by table lows highs) (windows_by table lows' highs')

-- those that hold all with a point before a tick are a low half
abbrev pub ArrayLow : Type 0
ArrayLow = (machine : Machine) (plans : List Plan) (ask : Ask) (limit point v : ℕ) (table : List Spot) (net : Net) (lows highs lows' highs' : List ℕ) → IsLoadedNet machine ask.now (λ _. false) plans table net
    → length lows ≡ length table → length lows' ≡ length table
    → ((y : ℕ → ℕ) → IsTimes plans ask table net limit y → IsBetween y lows highs → y point < v → IsBetween y lows' highs')
    → IsLowHalf machine plans ask limit (spot_at table point) v (windows_by table lows highs) (windows_by table lows' highs')

-- and those that hold all with it at the tick or later a high half
abbrev pub ArrayHigh : Type 0
ArrayHigh = (machine : Machine) (plans : List Plan) (ask : Ask) (limit point v : ℕ) (table : List Spot) (net : Net) (lows highs lows' highs' : List ℕ) → IsLoadedNet machine ask.now (λ _. false) plans table net
    → length lows ≡ length table → length lows' ≡ length table
    → ((y : ℕ → ℕ) → IsTimes plans ask table net limit y → IsBetween y lows highs → v ≤ y point → IsBetween y lows' highs')
    → IsHighHalf machine plans ask limit (spot_at table point) v (windows_by table lows highs) (windows_by table lows' highs')

-- where no times lie between the arrays, the windows are empty
abbrev pub ArrayEmpty : Type 0
ArrayEmpty = (machine : Machine) (plans : List Plan) (ask : Ask) (limit : ℕ) (table : List Spot) (net : Net) (lows highs : List ℕ) → IsLoadedNet machine ask.now (λ _. false) plans table net
    → length lows ≡ length table → ((y : ℕ → ℕ) → IsTimes plans ask table net limit y → IsBetween y lows highs → ⊥) → IsEmpty machine plans ask limit (windows_by table lows highs)

-- the half of a split by the number of its point
pub record NumberedHalf : Type 0 where
  pub point : ℕ
  pub tick : ℕ
  pub high : Bool

abbrev pub halves_by : List Spot → List NumberedHalf → List Half
halves_by table halves = map (λ h. record { spot = spot_at table h.point; tick = h.tick; high = h.high }) halves

-- arrays that hold all times that meet conditions are windows of these
abbrev pub ArrayHalves : Type 0
ArrayHalves = (machine : Machine) (plans : List Plan) (ask : Ask) (limit : ℕ) (table : List Spot) (net : Net) (lows highs : List ℕ) (halves : List NumberedHalf) → IsLoadedNet machine ask.now (λ _. false) plans table net
    → length lows ≡ length table → ((y : ℕ → ℕ) → IsTimes plans ask table net limit y → All (λ h. IsSide h.high h.tick (y h.point)) halves → IsBetween y lows highs)
    → AreWindowsOf machine plans ask limit (halves_by table halves) (windows_by table lows highs)
