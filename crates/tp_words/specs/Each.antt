-- Reading each word of a list.
use Rattle.std.specs.Prelude.{List, [], ◌∷◌, ◌++◌, Option, Some, option_and_then, option_map}

-- what reading gives of each word, where it gives something of all
unfoldable pub each_read : {W X : Type 0} → (W → Option X) → List W → Option (List X)
each_read read [] = Some []
each_read read (word ∷ words) = option_and_then (λ x. option_map (λ xs. x ∷ xs) (each_read read words)) (read word)

-- the same behind what was read so far
abbrev pub with_front : {X : Type 0} → List X → Option (List X) → Option (List X)
with_front front more = option_map (λ xs. front ++ xs) more
