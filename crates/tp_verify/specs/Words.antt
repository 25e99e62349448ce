-- The form of the words: MACHINE alone.
use Rattle.std.specs.Prelude.{ℕ, ◌==◌, List, [], ◌∷◌, slice_index, Option, Some, None, if◌then◌else◌}

-- the name that the words give: one word that does not begin with `-`
abbrev pub named_by : List (List ℕ) → Option (List ℕ)
named_by [] = None
named_by (word ∷ []) = if slice_index word 0 == 45 then None else Some word
named_by (word ∷ other ∷ words) = None
