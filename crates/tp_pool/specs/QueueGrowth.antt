-- A queue by bound whose lists grow with use.
use Rattle.std.specs.Prelude.{ℕ, ◌≤◌, List, length, vec_capacity, Option, None}
use Rattle.tp_base.specs.Padded.{padded}
use Rattle.tp_pool.specs.declared.buckets.Buckets.TheInside.{Inside}
use Rattle.tp_pool.specs.Queues.{BucketQueue}
use Rattle.tp_pool.specs.Linked.{queued_of, IsQueue}

-- a head for each bound
abbrev pub heads_of : Inside → List (Option ℕ)
heads_of b = padded None b.width b.heads.items

-- what is behind each node
abbrev pub nexts_of : Inside → List (Option ℕ)
nexts_of b = padded None b.nodes b.nexts.items

abbrev pub queue_of : Inside → BucketQueue
queue_of b = record { nodes = b.nodes; width = b.width; base = b.base; queued = queued_of b.base (nexts_of b) (heads_of b) }

-- linked nodes, and capacity for a head for each bound and for a link behind each node
pub record IsGrowing (b : Inside) : Type 0 where
  pub queue : IsQueue b.base b.cursor b.top (heads_of b) (nexts_of b)
  pub top_there : b.top ≤ length b.heads.items
  pub few_heads : length b.heads.items ≤ b.width
  pub few_nexts : length b.nexts.items ≤ b.nodes
  pub heads_room : b.width ≤ vec_capacity b.heads
  pub nexts_room : b.nodes ≤ vec_capacity b.nexts
