-- Points with their times and causes, and edges that are linked by where they begin.
use Rattle.std.specs.Prelude.{◌≡◌, ℕ, zero, suc, ◌≤◌, List, length, map, slice_get, slice_index, Option, None}
use Rattle.std.specs.List.{All}
use Rattle.tp_base.specs.declared.edges.Edge.{Edge}
use Rattle.tp_base.specs.Net.{Net, IsLeast}
use Rattle.tp_base.specs.Grows.{IsKnown, IsSupported, cause_of}
use Rattle.tp_stn_undo.specs.declared.point_state.PointState.{PointState}
use Rattle.tp_stn_undo.specs.declared.link.Link.{Link}

abbrev pub lows_of : List PointState → List ℕ
lows_of states = map (λ (s : PointState). s.low) states

abbrev pub times_of : List PointState → List ℕ
times_of states = map (λ (s : PointState). s.time) states

abbrev pub edges_of : List Link → List Edge
edges_of links = map (λ (l : Link). l.edge) links

-- the edge with the number, counted from 1
abbrev pub numbered : List Edge → ℕ → Option Edge
numbered edges zero = None
numbered edges (suc k) = slice_get edges k

abbrev pub causes_of : List Edge → List PointState → List (Option Edge)
causes_of edges states = map (λ (s : PointState). numbered edges s.cause) states

-- all of a network but what marks and refusals need
pub record Core : Type 0 where
  pub states : List PointState
  pub caps : List ℕ
  pub links : List Link

abbrev pub net_of_core : Core → Net
net_of_core c = record { lows = lows_of c.states; caps = c.caps; edges = edges_of c.links }

-- what holds between two changes
pub record IsSound (c : Core) : Type 0 where
  pub caps : length c.caps ≡ length c.states
  pub known : All (IsKnown (length c.states)) (edges_of c.links)
  pub numbered : All (λ (s : PointState). s.cause ≤ length c.links) c.states
  pub supported : IsSupported (lows_of c.states) (edges_of c.links) (slice_index (times_of c.states)) (cause_of (causes_of (edges_of c.links) c.states))
  pub least : IsLeast (net_of_core c) (slice_index (times_of c.states))
