-- Taking back what was inserted.
use Rattle.std.specs.Prelude.{◌≡◌, ℕ, suc, ◌<◌, List, [], ◌∷◌, length, drop, slice_get, slice_set, Some}
use Rattle.std.specs.List.{remove}
use Rattle.tp_timelines.specs.declared.inserts.Insert.{Insert}
use Rattle.tp_timelines.specs.Orders.{order_on}

-- the orders without what stands where it was inserted
abbrev pub without : Insert → List (List ℕ) → List (List ℕ)
without i orders = slice_set orders i.resource.0 (remove (order_on orders i.resource.0) i.place)

-- the orders with these inserts taken back, the last first
abbrev pub taken_back : List Insert → List (List ℕ) → List (List ℕ)
taken_back [] orders = orders
taken_back (i ∷ is) orders = without i (taken_back is orders)

-- once the later inserts are taken back, each one's number stands where it was inserted
abbrev pub StandAt : List (List ℕ) → List Insert → Type 0
StandAt orders inserted = (k : ℕ) (i : Insert) → slice_get inserted k ≡ Some i
    → (i.resource.0 < length orders) × (i.place < length (order_on (taken_back (drop (suc k) inserted) orders) i.resource.0))
