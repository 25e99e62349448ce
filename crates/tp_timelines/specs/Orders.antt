-- Orders of numbers, one for each resource.
use Rattle.std.specs.Prelude.{ℕ, ◌+◌, ◌-◌, ◌≤◌, List, [], map, length, slice_index_or, slice_get, sum_by, Option, None, ◌==◌, if◌then◌else◌, Vec, vec_capacity}
use Rattle.std.specs.declared.alloc.Global.{Global}
use Rattle.std.specs.List.{All}

-- the orders of the resources, those at the marks in force, and the numbers that the orders were made for
pub record Orders : Type 0 where
  pub orders : List (List ℕ)
  pub past : List (List (List ℕ))
  pub hold_capacity : ℕ
  pub max_marks : ℕ

-- what marks leave alone
pub record Sizes : Type 0 where
  pub resources : ℕ
  pub hold_capacity : ℕ

abbrev pub sizes_of : Orders → Sizes
sizes_of o = record { resources = length o.orders; hold_capacity = o.hold_capacity }

abbrev pub order_on : List (List ℕ) → ℕ → List ℕ
order_on orders resource = slice_index_or orders resource []

-- how many numbers there are in all
abbrev pub total : List (List ℕ) → ℕ
total orders = sum_by length orders

-- the number at the place before, and at the place after
abbrev pub before_in : List ℕ → ℕ → Option ℕ
before_in order place = if place == 0 then None else slice_get order (place - 1)

abbrev pub after_in : List ℕ → ℕ → Option ℕ
after_in order place = slice_get order (place + 1)

-- the orders that vectors hold
abbrev pub numbers_of : List (Vec ℕ Global) → List (List ℕ)
numbers_of orders = map (λ v. v.items) orders

-- each vector has room for so many numbers
abbrev pub HaveCapacity : ℕ → List (Vec ℕ Global) → Type 0
HaveCapacity capacity orders = All (λ v. capacity ≤ vec_capacity v) orders
