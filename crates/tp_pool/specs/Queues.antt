-- What a queue by bound is seen as.
use Rattle.std.specs.Prelude.{◌≡◌, ℕ, ◌≤◌, true, nat_eq, List, ◌∷◌, map, slice_index_or, Option, None}
use Rattle.std.specs.List.{All, Contains, list_any}
use Rattle.std.specs.List.Sorted.{IsPermutation}

-- a node that is in it, with its bound
pub record Queued : Type 0 where
  pub node : ℕ
  pub bound : ℕ

-- It is for nodes below a number, and for bounds from the base on up to, and without, the base and its width. The order of
-- the nodes that are in it means nothing.
pub record BucketQueue : Type 0 where
  pub nodes : ℕ
  pub width : ℕ
  pub base : ℕ
  pub queued : List Queued

abbrev pub nodes_of : List Queued → List ℕ
nodes_of queued = map (λ q. q.node) queued

-- the node is in it
abbrev pub IsIn : ℕ → List Queued → Type 0
IsIn node queued = list_any (nat_eq node) (nodes_of queued) ≡ true

-- the node is in it with a bound that none in it is below
pub record IsLeastIn (node : ℕ) (queued : List Queued) : Type 0 where
  pub bound : ℕ
  pub there : Contains queued (record { node = node; bound = bound })
  pub least : All (λ q. bound ≤ q.bound) queued

-- the node was in it with a bound that none in it is below, and the rest stays
pub record IsTaken (node : ℕ) (before after : List Queued) : Type 0 where
  pub bound : ℕ
  pub rest : IsPermutation before (record { node = node; bound = bound } ∷ after)
  pub least : All (λ q. bound ≤ q.bound) before

abbrev pub head_at : List (Option ℕ) → ℕ → Option ℕ
head_at heads place = slice_index_or heads place None
