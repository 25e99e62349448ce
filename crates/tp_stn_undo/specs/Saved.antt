-- What points were before they changed, and how it is put back; and which entry of a list is the newest for a point.
use Rattle.std.specs.Prelude.{ℕ, suc, ◌==◌, if◌then◌else◌, List, [], ◌∷◌, slice_set}
use Rattle.tp_stn_undo.specs.declared.point_state.PointState.{PointState}
use Rattle.tp_stn_undo.specs.declared.link.Link.{Link}
use Rattle.tp_stn_undo.specs.declared.point_state.SavedState.{SavedState}

-- the points with the saved ones put back, the last first
abbrev pub restored : List SavedState → List PointState → List PointState
restored [] states = states
restored (s ∷ ss) states = slice_set (restored ss states) s.point.0 s.state

-- for each point the newest edge put back to the one before it, the last first
abbrev pub relinked : List Link → List ℕ → List ℕ
relinked [] heads = heads
relinked (l ∷ ls) heads = slice_set (relinked ls heads) l.edge.from.0 l.older

-- the point of an edge
abbrev pub by_link : Link → ℕ
by_link l = l.edge.from.0

-- where the point's last one stands from place k on, counted from 1; where there is none, this
abbrev pub newest_from : {X : Type 0} → (X → ℕ) → ℕ → ℕ → List X → ℕ → ℕ
newest_from by k last [] point = last
newest_from by k last (s ∷ ss) point = newest_from by (suc k) (if by s == point then suc k else last) ss point

abbrev pub newest_of : {X : Type 0} → (X → ℕ) → List X → ℕ → ℕ
newest_of by ss point = newest_from by 0 0 ss point
