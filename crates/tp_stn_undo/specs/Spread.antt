-- When times can rise along edges, and what is true once they have.
use Rattle.std.specs.Prelude.{◌≡◌, ℕ, ℤ, ◌-◌, ◌<◌, ◌≤◌, ◌^◌, List, [], length, slice_index}
use Rattle.std.specs.List.{All}
use Rattle.tp_base.specs.declared.edges.Edge.{Edge}
use Rattle.tp_base.specs.Net.{Keeps}
use Rattle.tp_base.specs.Grows.{IsKnown, IsSupported, AreWithin, cause_of}
use Rattle.tp_stn_undo.specs.declared.point_state.PointState.{PointState}
use Rattle.tp_stn_undo.specs.declared.link.Link.{Link}
use Rattle.tp_stn_undo.specs.declared.working.Working.{Working}
use Rattle.tp_stn_undo.specs.States.{lows_of, times_of, edges_of, causes_of}
use Rattle.tp_stn_undo.specs.Flags.{AreIdle, Waits}
use Rattle.tp_stn_undo.specs.Propagation.{AreNumbered, AsksMore, AsksFor, StatesRise, KeptFrom, IsMet, weight}
use Rattle.tp_stn_undo.specs.CauseTraces.{AreZeros}
use Rattle.tp_stn_undo.specs.WorkingRoom.{HasWorkingCapacity}

-- the edge with the number, counted from 1, asks for more than the time of its end, and this is what it asks for
pub record IsPull (links : List Link) (states : List PointState) (number : ℕ) (reach : ℤ) : Type 0 where
  pub some : 0 < number
  pub within : number ≤ length links
  pub more : AsksMore (edges_of links) number (slice_index (times_of states))
  pub asked : AsksFor (edges_of links) number (slice_index (times_of states)) reach

-- the edges are between known points, and no time is past its upper bound
pub record AreBounded (caps : List ℕ) (links : List Link) (states : List PointState) : Type 0 where
  pub known : All (IsKnown (length states)) (edges_of links)
  pub all_capped : length caps ≡ length states
  pub below : AreWithin caps (times_of states)

-- times can rise along the edges: they are supported and within their bounds, and there is room to work
pub record CanSpread (caps : List ℕ) (links : List Link) (states : List PointState) (w : Working) : Type 0 where
  pub bounded : AreBounded caps links states
  pub supported : IsSupported (lows_of states) (edges_of links) (slice_index (times_of states)) (cause_of (causes_of (edges_of links) states))
  pub numbered : AreNumbered links states
  pub small : length states < 2 ^ 32
  pub capacity : HasWorkingCapacity (length states) w
  pub zeros : AreZeros w.places.items

-- no point waits
pub record NoneWaits (w : Waits) : Type 0 where
  pub idle : AreIdle w.flags
  pub none : w.points ≡ []

-- one edge was followed: times have risen, that edge is met, each edge that was kept still is, and no more is left to follow
pub record Follows (caps : List ℕ) (links : List Link) (number : ℕ) (states states' : List PointState) (waits waits' : Waits) : Type 0 where
  pub rises : StatesRise links states states'
  pub kept : (edges : List Edge) (point left : ℕ) → KeptFrom edges (slice_index (times_of states)) waits.flags point left → KeptFrom edges (slice_index (times_of states')) waits'.flags point left
  pub met : IsMet (edges_of links) (slice_index (times_of states')) waits'.flags (number - 1)
  pub less : weight caps states' waits' ≤ weight caps states waits

-- times have risen until each edge is kept, and no point waits
pub record AreSettled (links : List Link) (states states' : List PointState) (waits' : Waits) : Type 0 where
  pub rises : StatesRise links states states'
  pub kept : All (Keeps (slice_index (times_of states'))) (edges_of links)
  pub idle : AreIdle waits'.flags
  pub none : waits'.points ≡ []
