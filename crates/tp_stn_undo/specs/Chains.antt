-- Chains of edges that support a point's time.
use Rattle.std.specs.Prelude.{◌≡◌, ℕ, ◌<◌, List, ◌∷◌, length, slice_index, Option, pos, ◌+ℤ◌}
use Rattle.std.specs.List.{All, Contains}
use Rattle.tp_base.specs.declared.edges.Edge.{Edge}
use Rattle.tp_base.specs.Net.{Net, IsEarliest}
use Rattle.tp_base.specs.Refute.{Leads, total_weight, AreApart, ends_of, IsCauseChain, IsCauseCircle}

-- edges of the net from a first point, no point twice, whose weights, added to its lower bound, are the earliest time of
-- the point where they end
pub record IsSupport (net : Net) (first : ℕ) (edges : List Edge) (point : ℕ) : Type 0 where
  pub leads : Leads first edges point
  pub in_net : All (Contains net.edges) edges
  pub known : first < length net.lows
  pub apart : AreApart (first ∷ ends_of edges)
  pub time : ℕ
  pub earliest : IsEarliest net point time
  pub sum : pos time ≡ (pos (slice_index net.lows first) +ℤ total_weight edges)

-- the causes that lead to the point, from one that has none, are more than the room
abbrev pub HasMoreCauses : List (Option Edge) → ℕ → ℕ → Type 0
HasMoreCauses causes point capacity = (first : ℕ) × (edges : List Edge) × IsCauseChain causes first edges point × (capacity < length edges)

abbrev pub NeverRound : List (Option Edge) → Type 0
NeverRound causes = (edges : List Edge) → IsCauseCircle causes edges → ⊥
