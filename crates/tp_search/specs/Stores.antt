-- The store of a search: the lists that it keeps, and those of them that wait.
use Rattle.std.specs.Prelude.{◌≡◌, ℕ, ◌+◌, ◌<◌, ◌≤◌, ◌==◌, ◌⊎◌, Bool, true, false, ◌&&◌, nat_lt, List, [], ◌∷◌, ◌++◌, length, All, Contains, Option, Some, None, IfSome, if◌then◌else◌, nat_eq}
use Rattle.std.specs.List.{filter, list_any, range_with_len}
use Rattle.tp_machine.specs.declared.machine.Machine.{Machine}
use Rattle.tp_schedule.specs.Choices.{start_floor}
use Rattle.tp_schedule.specs.declared.parts.Ask.{Ask}
use Rattle.tp_pool.specs.Entries.{Entries, Entry, bound_of, choices_before}
use Rattle.tp_pool.specs.Queues.{BucketQueue, Queued, nodes_of}
use Rattle.tp_pool.specs.declared.choice.Choice.{Choice as Stored}
use Rattle.tp_search.specs.Limits.{IsLimitKept}
use Rattle.tp_search.specs.declared.store.Limit.{Limit}
use Rattle.tp_search.specs.declared.store.Limit.TheVariants.{Unsought}

-- the entries and how many there can be, the nodes that wait, the least bound and how many bounds there are, the node of the
-- best complete list, whether an entry was refused, and the limit
pub record StoreValue : Type 0 where
  pub entries : List Entry
  pub capacity : ℕ
  pub waits : List ℕ
  pub base : ℕ
  pub width : ℕ
  pub best : Option ℕ
  pub full : Bool
  pub limit : Limit

abbrev pub empty_store : ℕ → ℕ → ℕ → StoreValue
empty_store capacity base width = record { entries = []; capacity = capacity; waits = []; base = base; width = width; best = None; full = false; limit = Unsought }

-- the bound is one of those that there can be
abbrev pub IsInRange : StoreValue → ℕ → Type 0
IsInRange s bound = (s.base ≤ bound) × (bound < s.base + s.width)

-- the nodes below a number that are in a queue, by number
abbrev pub waits_in : ℕ → List Queued → List ℕ
waits_in count queued = filter (λ node. list_any (nat_eq node) (nodes_of queued)) (range_with_len 0 count)

abbrev pub store_of : Entries → BucketQueue → Option ℕ → Bool → Limit → StoreValue
store_of pool queue best full limit = record { entries = pool.entries; capacity = pool.capacity; waits = waits_in (length pool.entries) queue.queued; base = queue.base; width = queue.width; best = best; full = full; limit = limit }

-- what a store keeps true of its fields: a node in the queue is that of an entry, with its bound
pub record IsStore (pool : Entries) (queue : BucketQueue) (best : Option ℕ) : Type 0 where
  pub known : All (λ q. q.node < length pool.entries) queue.queued
  pub bounds : All (λ q. q.bound ≡ bound_of pool.entries q.node) queue.queued
  pub best_known : IfSome best (λ node. node < length pool.entries)
  pub within : length pool.entries ≤ pool.capacity
  pub places : queue.nodes ≡ pool.capacity

-- the best of the complete lists that are stored, with one more of this bound and number
abbrev pub is_sooner : List Entry → ℕ → Option ℕ → Bool
is_sooner entries bound None = true
is_sooner entries bound (Some best) = nat_lt bound (bound_of entries best)

abbrev pub better : List Entry → Bool → ℕ → ℕ → Option ℕ → Option ℕ
better entries complete bound node best = if complete && is_sooner entries bound best then Some node else best

-- the entry of a parent's list with one choice more
abbrev pub entry_of : List Entry → Option ℕ → Stored → ℕ → Entry
entry_of entries parent choice bound = record { choices = choice ∷ choices_before entries parent; bound = bound }

-- the store with one list more, which waits; or, where there is no room for it, full
abbrev pub with_list : Option ℕ → Stored → ℕ → Bool → StoreValue → StoreValue
with_list parent choice bound complete s = record {
  entries = s.entries ++ entry_of s.entries parent choice bound ∷ [];
  capacity = s.capacity;
  waits = s.waits ++ length s.entries ∷ [];
  base = s.base;
  width = s.width;
  best = better s.entries complete bound (length s.entries) s.best;
  full = s.full;
  limit = s.limit;
}

abbrev pub after_keep : Option ℕ → Stored → ℕ → Bool → StoreValue → StoreValue
after_keep parent choice bound complete s = if length s.entries == s.capacity then record s { full = true } else with_list parent choice bound complete s

-- a node of least bound is taken out of those that wait
pub record IsTaken (s : StoreValue) (node : ℕ) (s' : StoreValue) : Type 0 where
  pub waited : Contains s.waits node
  pub gone : ¬ Contains s'.waits node
  pub least : (other : ℕ) → Contains s.waits other → bound_of s.entries node ≤ bound_of s.entries other
  pub stay : (other : ℕ) → Contains s.waits other → (other ≡ node) ⊎ Contains s'.waits other
  pub only : (other : ℕ) → Contains s'.waits other → Contains s.waits other
  pub fewer : length s'.waits + 1 ≡ length s.waits
  pub rest : s' ≡ record s { waits = s'.waits }

-- a list with a smaller bound waits
abbrev pub HasSooner : StoreValue → ℕ → Type 0
HasSooner s bound = (node : ℕ) × Contains s.waits node × (bound_of s.entries node < bound)

-- entries are added behind, and those that are added wait; the limit is kept, or found
pub record StoreGrows (s s' : StoreValue) : Type 0 where
  pub new : List Entry
  pub entries : s'.entries ≡ s.entries ++ new
  pub capacity : s'.capacity ≡ s.capacity
  pub base : s'.base ≡ s.base
  pub width : s'.width ≡ s.width
  pub stay : (node : ℕ) → Contains s.waits node → Contains s'.waits node
  pub come : (node : ℕ) → length s.entries ≤ node → node < length s'.entries → Contains s'.waits node
  pub only : (node : ℕ) → Contains s'.waits node → Contains s.waits node ⊎ ((length s.entries ≤ node) × (node < length s'.entries))
  pub as_many : length s'.waits + length s.entries ≡ length s.waits + length s'.entries
  pub limit : IsLimitKept s.limit s'.limit

-- the bounds of the store reach from the start floor at the latest to the horizon
abbrev pub HasBounds : Machine → Ask → StoreValue → Type 0
HasBounds machine ask s = (s.base ≤ start_floor machine ask.now ask.origin) × (ask.now + machine.window < s.base + s.width)
