-- What raising a lower bound does to points.
use Rattle.std.specs.Prelude.{◌≡◌, ℕ, ◌<◌, ◌≤◌, Bool, List, length, slice_index, slice_set}
use Rattle.tp_base.specs.declared.edges.Edge.{Edge}
use Rattle.tp_base.specs.Grows.{IsSupported, cause_of}
use Rattle.tp_stn_undo.specs.declared.point_state.PointState.{PointState}
use Rattle.tp_stn_undo.specs.declared.link.Link.{Link}
use Rattle.tp_stn_undo.specs.States.{lows_of, times_of, edges_of, causes_of}
use Rattle.tp_stn_undo.specs.Propagation.{AreNumbered, AreKept}

-- the lower bound of the point is the new one, and its time is no less; all else stays
pub record Lifts (states states' : List PointState) (point low : ℕ) (flags flags' : List Bool) : Type 0 where
  pub lows : lows_of states' ≡ slice_set (lows_of states) point low
  pub len : length states' ≡ length states
  pub supported : (links : List Link) → IsSupported (lows_of states) (edges_of links) (slice_index (times_of states)) (cause_of (causes_of (edges_of links) states)) → IsSupported (lows_of states') (edges_of links) (slice_index (times_of states')) (cause_of (causes_of (edges_of links) states'))
  pub numbered : (links : List Link) → AreNumbered links states → AreNumbered links states'
  pub kept : (edges : List Edge) → AreKept edges (slice_index (times_of states)) flags → AreKept edges (slice_index (times_of states')) flags'
  pub rises : (i : ℕ) → i < length states → slice_index (times_of states) i ≤ slice_index (times_of states') i
  pub reaches : low ≤ slice_index (times_of states') point
  pub below : (y : ℕ → ℕ) → ((i : ℕ) → i < length states → slice_index (times_of states) i ≤ y i) → low ≤ y point → (i : ℕ) → i < length states → slice_index (times_of states') i ≤ y i
