-- The lines that the machines of a farm tell, each with the number of its machine before it.
use Rattle.std.specs.Prelude.{ℕ, ◌+◌, ◌==◌, ◌&&◌, List, [], ◌∷◌, ◌++◌, flat_map, if◌then◌else◌}
use Rattle.tp_words.specs.Texts.{lines_of}

-- the digit of a machine and a space
abbrev pub digit_of : ℕ → List ℕ
digit_of number = (48 + number) ∷ 32 ∷ []

-- the text with these before each of its lines
abbrev pub numbered : ℕ → List ℕ → List ℕ
numbered number text = flat_map (λ line. digit_of number ++ line) (lines_of text)

-- a line of the machine without its digit and space; nothing of another machine's
abbrev pub without_digit : ℕ → List ℕ → List ℕ
without_digit number (digit ∷ space ∷ line) = if (digit == 48 + number) && (space == 32) then line else []
without_digit number _ = []

-- the lines of the machine, without its number
abbrev pub told_by : ℕ → List ℕ → List ℕ
told_by number text = flat_map (without_digit number) (lines_of text)
