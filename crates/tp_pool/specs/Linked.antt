-- A queue by bound as linked nodes: a head for each bound, and behind each node the next one.
use Rattle.std.specs.Prelude.{◌≡◌, ℕ, zero, suc, ◌<◌, ◌≤◌, nat_eq, List, [], ◌∷◌, ◌++◌, length, map, Option, Some, None}
use Rattle.std.specs.List.{IsDistinct}
use Rattle.tp_pool.specs.Queues.{Queued, nodes_of, IsIn, head_at}

-- the nodes from a head on, so many at most
abbrev pub chain : ℕ → List (Option ℕ) → Option ℕ → List ℕ
chain zero nexts head = []
chain (suc most) nexts None = []
chain (suc most) nexts (Some node) = node ∷ chain most nexts (head_at nexts node)

-- the nodes of these heads, of which the first is for this bound
abbrev pub queued_from : ℕ → ℕ → List (Option ℕ) → List (Option ℕ) → List Queued
queued_from bound most nexts [] = []
queued_from bound most nexts (head ∷ heads) = map (λ n. record { node = n; bound = bound }) (chain most nexts head) ++ queued_from (suc bound) most nexts heads

-- No node is in a chain twice, so a chain that is followed one step further than there are nodes is followed to its end.
abbrev pub queued_of : ℕ → List (Option ℕ) → List (Option ℕ) → List Queued
queued_of base nexts heads = queued_from base (suc (length nexts)) nexts heads

-- the nodes that are in it are different, and below their number
pub record AreQueued (queued : List Queued) (nodes : ℕ) : Type 0 where
  pub different : IsDistinct nat_eq (nodes_of queued)
  pub known : (node : ℕ) → IsIn node queued → node < nodes

-- linked nodes, with no node at a head before the cursor
pub record IsBuckets (base cursor : ℕ) (heads nexts : List (Option ℕ)) : Type 0 where
  pub queued : AreQueued (queued_of base nexts heads) (length nexts)
  pub within : cursor ≤ length heads
  pub empty : (k : ℕ) → k < cursor → head_at heads k ≡ None

-- linked nodes, with no node at a head from the top on either
pub record IsQueue (base cursor top : ℕ) (heads nexts : List (Option ℕ)) : Type 0 where
  pub linked : IsBuckets base cursor heads nexts
  pub top_within : top ≤ length heads
  pub none_above : (k : ℕ) → top ≤ k → head_at heads k ≡ None
