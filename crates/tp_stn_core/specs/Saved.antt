-- Lower bounds that are saved before they rise, at most once for each mark, and how they are put back.
use Rattle.std.specs.Prelude.{ℕ, suc, ◌+◌, ◌-◌, Bool, false, ◌==◌, nat_le, if◌then◌else◌, List, [], ◌∷◌, ◌++◌, length, slice_get, slice_index, slice_set, Option, Some, None}
use Rattle.tp_base.specs.declared.edges.PointId.{PointId}
use Rattle.tp_stn_core.specs.declared.saved_low.SavedLow.{SavedLow}
use Rattle.tp_stn_core.specs.declared.marks.PlainMark.{PlainMark}

-- the lower bounds with the saved ones put back, the last first
abbrev pub restored : List SavedLow → List ℕ → List ℕ
restored [] lows = lows
restored (s ∷ ss) lows = slice_set (restored ss lows) s.point.0 s.low

-- the places of the newest ones, the same way
abbrev pub relinked : List SavedLow → List ℕ → List ℕ
relinked [] newest = newest
relinked (s ∷ ss) newest = slice_set (relinked ss newest) s.point.0 s.older

-- where the point's last one stands from place k on, counted from 1; where there is none, this
abbrev pub newest_from : ℕ → ℕ → List SavedLow → ℕ → ℕ
newest_from k last [] point = last
newest_from k last (s ∷ ss) point = newest_from (suc k) (if s.point.0 == point then suc k else last) ss point

abbrev pub newest_of : List SavedLow → ℕ → ℕ
newest_of saved point = newest_from 0 0 saved point

-- a mark is in force, and what was saved last for the point was saved before it
abbrev pub is_due_at : Option PlainMark → ℕ → Bool
is_due_at None newest = false
is_due_at (Some m) newest = nat_le newest m.saved

abbrev pub is_due : List PlainMark → ℕ → Bool
is_due marks newest = is_due_at (slice_get marks (length marks - 1)) newest

abbrev pub saved_after : List PlainMark → List SavedLow → List ℕ → PointId → ℕ → List SavedLow
saved_after marks saved newest point low =
    if is_due marks (slice_index newest point.0) then saved ++ record { point = point; low = low; older = slice_index newest point.0 } ∷ [] else saved

abbrev pub newest_after : List PlainMark → List SavedLow → List ℕ → PointId → List ℕ
newest_after marks saved newest point =
    if is_due marks (slice_index newest point.0) then slice_set newest point.0 (length saved + 1) else newest
