-- Edges that are linked by their points.
use Rattle.std.specs.Prelude.{◌≡◌, ℕ, ◌≤◌, List, length, map, slice_get, Some, All}
use Rattle.tp_base.specs.Grows.{IsKnown}
use Rattle.tp_base.specs.declared.edges.Edge.{Edge}
use Rattle.tp_windows.specs.declared.edge_links.LinkedEdges.{LinkedEdges}
use Rattle.tp_windows.specs.declared.times.Link.{Link}

abbrev pub edges_of : List Link → List Edge
edges_of links = map (λ (l : Link). l.edge) links

-- each edge is linked to one before it
abbrev pub AreFalling : List Link → Type 0
AreFalling links = (j : ℕ) (l : Link) → slice_get links j ≡ Some l → l.older ≤ j

abbrev pub AreHeads : List Link → List ℕ → Type 0
AreHeads links heads = All (λ head. head ≤ length links) heads

-- these edges are linked, between so many points
pub record AreLinked (points : ℕ) (edges : List Edge) (linked : LinkedEdges) : Type 0 where
  pub all : edges_of linked.links.items ≡ edges
  pub heads : AreHeads linked.links.items linked.heads.items
  pub falling : AreFalling linked.links.items
  pub known : All (IsKnown points) edges
