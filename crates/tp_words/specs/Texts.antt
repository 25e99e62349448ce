-- A line as words with spaces between, and a text as its lines.
use Rattle.std.specs.Prelude.{ℕ, ◌==◌, List, [], ◌∷◌, ◌++◌, flat_map, if◌then◌else◌}

-- words with one space between each two
abbrev pub spaced : List (List ℕ) → List ℕ
spaced [] = []
spaced (first ∷ others) = first ++ flat_map (λ word. 32 ∷ word) others

-- the byte before the first line, or a line of its own where there is none
abbrev pub onto_line : ℕ → List (List ℕ) → List (List ℕ)
onto_line byte [] = (byte ∷ []) ∷ []
onto_line byte (line ∷ lines) = (byte ∷ line) ∷ lines

-- the lines of a text. Each ends with its LF, which the last may lack; behind a last LF stands no line
abbrev pub lines_of : List ℕ → List (List ℕ)
lines_of [] = []
lines_of (byte ∷ text) = if byte == 10 then (10 ∷ []) ∷ lines_of text else onto_line byte (lines_of text)
