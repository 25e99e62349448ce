-- What stands at the marks in force.
use Rattle.std.specs.Prelude.{◌≡◌, ℕ, ◌*◌, ◌<◌, ◌≤◌, List, length, take, drop, map, slice_get, slice_index, Some}
use Rattle.tp_base.specs.Net.{Net}
use Rattle.tp_stn_undo.specs.declared.point_state.PointState.{PointState}
use Rattle.tp_stn_undo.specs.declared.link.Link.{Link}
use Rattle.tp_stn_undo.specs.declared.marks.LiveMark.{LiveMark}
use Rattle.tp_stn_undo.specs.declared.point_state.SavedState.{SavedState}
use Rattle.tp_stn_undo.specs.States.{Core, net_of_core}
use Rattle.tp_stn_undo.specs.Saved.{restored, newest_of, by_link}

-- the network at a mark
abbrev pub core_at : List SavedState → List PointState → List ℕ → List Link → LiveMark → Core
core_at saved states caps links m = record { states = restored (drop m.saved saved) (take m.points states); caps = take m.points caps; links = take m.edges links }

abbrev pub past_of : List LiveMark → List SavedState → List PointState → List ℕ → List Link → List Core
past_of marks saved states caps links = map (core_at saved states caps links) marks

abbrev pub nets_of : List Core → List Net
nets_of cores = map net_of_core cores

-- P of the mark at the place
abbrev pub IsAt : List LiveMark → ℕ → (LiveMark → Type 0) → Type 0
IsAt marks place P = (m : LiveMark) → slice_get marks place ≡ Some m → P m

-- each mark stands on a part of what there is, and on no less than the marks before it
pub record AreStacked (marks : List LiveMark) (points edges saved capacity : ℕ) : Type 0 where
  pub points_below : (k : ℕ) (m : LiveMark) → slice_get marks k ≡ Some m → m.points ≤ points
  pub edges_below : (k : ℕ) (m : LiveMark) → slice_get marks k ≡ Some m → m.edges ≤ edges
  pub saved_below : (k : ℕ) (m : LiveMark) → slice_get marks k ≡ Some m → m.saved ≤ saved
  pub in_capacity : (k : ℕ) (m : LiveMark) → slice_get marks k ≡ Some m → m.saved ≤ k * capacity
  pub points_rise : (j k : ℕ) (m n : LiveMark) → j < k → slice_get marks j ≡ Some m → slice_get marks k ≡ Some n → m.points ≤ n.points
  pub edges_rise : (j k : ℕ) (m n : LiveMark) → j < k → slice_get marks j ≡ Some m → slice_get marks k ≡ Some n → m.edges ≤ n.edges
  pub saved_rise : (j k : ℕ) (m n : LiveMark) → j < k → slice_get marks j ≡ Some m → slice_get marks k ≡ Some n → m.saved ≤ n.saved

-- what was saved is of known points, and of points that were there at the marks behind it
pub record AreSaved (marks : List LiveMark) (saved : List SavedState) (points : ℕ) : Type 0 where
  pub known : (j : ℕ) (s : SavedState) → slice_get saved j ≡ Some s → s.point.0 < points
  pub known_then : (k : ℕ) (m : LiveMark) (j : ℕ) (s : SavedState) → slice_get marks k ≡ Some m → j < m.saved → slice_get saved j ≡ Some s → s.point.0 < m.points

-- for each point the newest edge that begins there, and for each edge the one before it
pub record AreLinks (links : List Link) (heads : List ℕ) (points : ℕ) : Type 0 where
  pub len : length heads ≡ points
  pub head_is : (v : ℕ) → v < points → slice_index heads v ≡ newest_of by_link links v
  pub linked : (j : ℕ) (l : Link) → slice_get links j ≡ Some l → l.older ≡ newest_of by_link (take j links) l.edge.from.0
