-- Whether points have the times that they had.
use Rattle.std.specs.Prelude.{◌≡◌, ◌≢◌, ℕ, ◌<◌, List, slice_get, slice_index, Some}
use Rattle.tp_stn_undo.specs.declared.point_state.PointState.{PointState}
use Rattle.tp_stn_undo.specs.declared.point_state.SavedState.{SavedState}
use Rattle.tp_stn_undo.specs.States.{times_of}

-- the first points, so many, have the same times in both
abbrev pub KeepTimes : ℕ → List PointState → List PointState → Type 0
KeepTimes end old new = (i : ℕ) → i < end → slice_index (times_of old) i ≡ slice_index (times_of new) i

-- an entry is of one of the first points, so many, and of another time than the point has
pub record IsOneMoved (end : ℕ) (states : List PointState) (entries : List SavedState) : Type 0 where
  pub at : ℕ
  pub entry : SavedState
  pub get : slice_get entries at ≡ Some entry
  pub before : entry.point.0 < end
  pub moved : slice_index (times_of states) entry.point.0 ≢ entry.state.time
