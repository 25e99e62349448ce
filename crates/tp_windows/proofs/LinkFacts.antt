-- The edge of a link, and the link before it.
use Rattle.std.proofs.Common.{◌≡◌, ℕ, zero, suc, ◌<◌, ◌≤◌, List, [], ◌∷◌, length, slice_index_or, All, refl, arith, slice_get, Some}
use Rattle.std.proofs.lemmas.List.Elements.{All-head, All-tail}
use Rattle.tp_base.specs.declared.edges.Edge.{Edge}
use Rattle.tp_windows.specs.declared.times.Link.{Link}
use Rattle.tp_windows.specs.Links.{AreFalling, edges_of}

pub edge_at : (P : Edge → Type 0) (links : List Link) (i : ℕ) (d : Link) → i < length links → All P (edges_of links) → P (slice_index_or links i d).edge
edge_at P [] i d within all = absurd (omega (arith, within))
edge_at P (l ∷ ls) zero d within all = All-head P l.edge (edges_of ls) all
edge_at P (l ∷ ls) (suc i) d within all = edge_at P ls i d (omega (arith, within)) (All-tail P l.edge (edges_of ls) all)

there : (links : List Link) (i : ℕ) (d : Link) → i < length links → slice_get links i ≡ Some (slice_index_or links i d)
there [] i d within = absurd (omega (arith, within))
there (l ∷ ls) zero d within = refl
there (l ∷ ls) (suc i) d within = there ls i d (omega (arith, within))

pub falls : (links : List Link) (i : ℕ) (d : Link) → AreFalling links → i < length links → (slice_index_or links i d).older ≤ i
falls links i d falling within = falling i (slice_index_or links i d) (there links i d within)
