-- Sides of splits, and the ranges that they leave.
use Rattle.std.specs.Prelude.{◌≡◌, ℕ, List, length}
use Rattle.tp_base.specs.declared.edges.Edge.{Edge}
use Rattle.tp_windows.specs.Halves.{IsSide}
use Rattle.tp_windows.specs.Links.{AreLinked, edges_of}
use Rattle.tp_windows.specs.declared.ranges.Edges.{Edges}
use Rattle.tp_windows.specs.declared.ranges.Ranges.{Ranges}
use Rattle.tp_windows.specs.declared.ranges.Side.{Side}

-- there are times of so many points
abbrev pub AreWide : ℕ → Ranges → Type 0
AreWide points ranges = (length ranges.lows.items ≡ points) × (length ranges.highs.items ≡ points)

-- these edges are linked by both ends
abbrev pub HaveBoth : ℕ → List Edge → Edges → Type 0
HaveBoth points all edges = AreLinked points all edges.from × AreLinked points all edges.to

-- the times meet the condition of the side
abbrev pub IsOnSide : (ℕ → ℕ) → Side → Type 0
IsOnSide y side = IsSide side.later side.tick (y side.point.0)

-- ranges and edges are between the same points
abbrev pub IsFit : Ranges → Edges → Type 0
IsFit ranges edges = (length ranges.highs.items ≡ length ranges.lows.items) × HaveBoth (length ranges.lows.items) (edges_of edges.from.links.items) edges
