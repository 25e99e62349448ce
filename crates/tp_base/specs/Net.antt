-- Points with a least and a greatest time, and edges that ask for a distance between them.
use Rattle.std.specs.Prelude.{◌≡◌, ℕ, ◌<◌, ◌≤◌, List, [], ◌∷◌, ◌++◌, length, slice_index, slice_set, pos, ◌+ℤ◌, ◌≤ℤ◌}
use Rattle.std.specs.List.{All}
use Rattle.tp_base.specs.declared.edges.Edge.{Edge}

-- the points' least times, their greatest times, and the edges
pub record Net : Type 0 where
  pub lows : List ℕ
  pub caps : List ℕ
  pub edges : List Edge

-- the times x keep the edge's distance
abbrev pub Keeps : (ℕ → ℕ) → Edge → Type 0
Keeps x e = (pos (x e.from.0) +ℤ e.weight) ≤ℤ pos (x e.to.0)

-- x is a time for each point
pub record IsSolution (net : Net) (x : ℕ → ℕ) : Type 0 where
  pub above_low : (i : ℕ) → i < length net.lows → slice_index net.lows i ≤ x i
  pub below_cap : (i : ℕ) → i < length net.lows → x i ≤ slice_index net.caps i
  pub keeps : All (Keeps x) net.edges

-- no solution has a point earlier
pub record IsLeast (net : Net) (x : ℕ → ℕ) : Type 0 where
  pub solution : IsSolution net x
  pub least : (y : ℕ → ℕ) → IsSolution net y → (i : ℕ) → i < length net.lows → x i ≤ y i

abbrev pub HasLeast : Net → Type 0
HasLeast net = (x : ℕ → ℕ) × IsLeast net x

abbrev pub HasNoSolution : Net → Type 0
HasNoSolution net = (x : ℕ → ℕ) → IsSolution net x → ⊥

-- t is the point's time in the least solution
abbrev pub IsEarliest : Net → ℕ → ℕ → Type 0
IsEarliest net p t = (x : ℕ → ℕ) × IsLeast net x × (t ≡ x p)

-- the first points of the old net, so many, are in the least solution of the new one where they are in that of the old one
abbrev pub HaveSameTimes : ℕ → Net → Net → Type 0
HaveSameTimes end old new = (x y : ℕ → ℕ) → IsLeast old x → IsLeast new y → (i : ℕ) → i < end → i < length old.lows → x i ≡ y i

abbrev pub empty_net : Net
empty_net = record { lows = []; caps = []; edges = [] }

abbrev pub with_point : Net → ℕ → ℕ → Net
with_point net low cap = record { lows = net.lows ++ low ∷ []; caps = net.caps ++ cap ∷ []; edges = net.edges }

abbrev pub with_edge : Net → Edge → Net
with_edge net e = record { lows = net.lows; caps = net.caps; edges = net.edges ++ e ∷ [] }

abbrev pub with_edges : Net → List Edge → Net
with_edges net es = record { lows = net.lows; caps = net.caps; edges = net.edges ++ es }

abbrev pub with_low : Net → ℕ → ℕ → Net
with_low net p low = record { lows = slice_set net.lows p low; caps = net.caps; edges = net.edges }

abbrev pub with_bounds_at : Net → ℕ → ℕ → ℕ → Net
with_bounds_at net p low cap = record { lows = slice_set net.lows p low; caps = slice_set net.caps p cap; edges = net.edges }
