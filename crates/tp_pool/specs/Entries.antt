-- What a pool is seen as: the whole list of each node.
use Rattle.std.specs.Prelude.{ℕ, ◌-◌, ◌<◌, List, [], length, slice_get, slice_index_or, Option, Some, None}
use Rattle.tp_pool.specs.declared.choice.Choice.{Choice}

-- a list of choices, the newest first, and its bound
pub record Entry : Type 0 where
  pub choices : List Choice
  pub bound : ℕ

-- an entry for each node, and how many nodes there can be
pub record Entries : Type 0 where
  pub capacity : ℕ
  pub entries : List Entry

abbrev pub entry_at : List Entry → ℕ → Entry
entry_at entries node = slice_index_or entries node (record { choices = []; bound = 0 })

abbrev pub choices_of : List Entry → ℕ → List Choice
choices_of entries node = (entry_at entries node).choices

abbrev pub bound_of : List Entry → ℕ → ℕ
bound_of entries node = (entry_at entries node).bound

-- the choices of a parent, if there is one
abbrev pub choices_before : List Entry → Option ℕ → List Choice
choices_before entries None = []
choices_before entries (Some node) = choices_of entries node

-- a parent has a lower number
abbrev pub IsParentOf : ℕ → Option ℕ → Type 0
IsParentOf node None = Unit {0}
IsParentOf node (Some parent) = parent < node

-- the choice at this depth, where the one that was made first is at depth 1
abbrev pub choice_made : List Choice → ℕ → Option Choice
choice_made choices depth = slice_get choices (length choices - depth)
