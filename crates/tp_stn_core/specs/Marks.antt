-- What stands at the marks in force.
use Rattle.std.specs.Prelude.{◌≡◌, ℕ, ◌*◌, ◌<◌, ◌≤◌, List, length, take, drop, map, slice_get, slice_index, Some}
use Rattle.tp_base.specs.declared.edges.Edge.{Edge}
use Rattle.tp_base.specs.Net.{Net}
use Rattle.tp_stn_core.specs.declared.marks.PlainMark.{PlainMark}
use Rattle.tp_stn_core.specs.declared.saved_low.SavedLow.{SavedLow}
use Rattle.tp_stn_core.specs.Saved.{restored, newest_of}

-- the net at a mark
abbrev pub net_at : List SavedLow → List ℕ → List ℕ → List Edge → PlainMark → Net
net_at saved lows caps edges m = record { lows = restored (drop m.saved saved) (take m.points lows); caps = take m.points caps; edges = take m.edges edges }

abbrev pub past_of : List PlainMark → List SavedLow → List ℕ → List ℕ → List Edge → List Net
past_of marks saved lows caps edges = map (net_at saved lows caps edges) marks

-- each mark stands on a part of what there is, and on no less than the marks before it
pub record AreStacked (marks : List PlainMark) (points edges saved capacity : ℕ) : Type 0 where
  pub points_below : (k : ℕ) (m : PlainMark) → slice_get marks k ≡ Some m → m.points ≤ points
  pub edges_below : (k : ℕ) (m : PlainMark) → slice_get marks k ≡ Some m → m.edges ≤ edges
  pub saved_below : (k : ℕ) (m : PlainMark) → slice_get marks k ≡ Some m → m.saved ≤ saved
  pub in_capacity : (k : ℕ) (m : PlainMark) → slice_get marks k ≡ Some m → m.saved ≤ k * capacity
  pub points_rise : (j k : ℕ) (m n : PlainMark) → j < k → slice_get marks j ≡ Some m → slice_get marks k ≡ Some n → m.points ≤ n.points
  pub edges_rise : (j k : ℕ) (m n : PlainMark) → j < k → slice_get marks j ≡ Some m → slice_get marks k ≡ Some n → m.edges ≤ n.edges
  pub saved_rise : (j k : ℕ) (m n : PlainMark) → j < k → slice_get marks j ≡ Some m → slice_get marks k ≡ Some n → m.saved ≤ n.saved

-- saved lower bounds of known points; for each the one that was saved before it for its point, and a mark between the two
pub record AreSaved (marks : List PlainMark) (saved : List SavedLow) (newest : List ℕ) (points : ℕ) : Type 0 where
  pub len : length newest ≡ points
  pub newest_is : (v : ℕ) → v < points → slice_index newest v ≡ newest_of saved v
  pub linked : (j : ℕ) (s : SavedLow) → slice_get saved j ≡ Some s → s.older ≡ newest_of (take j saved) s.point.0
  pub parted : (j : ℕ) (s : SavedLow) → slice_get saved j ≡ Some s → (k : ℕ) × (m : PlainMark) × (slice_get marks k ≡ Some m) × (s.older ≤ m.saved) × (m.saved ≤ j)
  pub known : (j : ℕ) (s : SavedLow) → slice_get saved j ≡ Some s → s.point.0 < points
  pub known_then : (k : ℕ) (m : PlainMark) (j : ℕ) (s : SavedLow) → slice_get marks k ≡ Some m → j < m.saved → slice_get saved j ≡ Some s → s.point.0 < m.points
