-- The text lines of an input that are those of the log to be drawn.
use Rattle.std.specs.Prelude.{ℕ, ◌+◌, ◌==◌, ◌&&◌, List, [], ◌∷◌, flat_map, Option, Some, None, if◌then◌else◌}
use Rattle.tp_words.specs.Texts.{lines_of}

-- a line of this machine of a farm, without the machine's digit and the space behind it; nothing of another machine's
abbrev pub own_line : Option ℕ → List ℕ → List ℕ
own_line None line = line
own_line (Some number) (digit ∷ space ∷ line) = if (digit == 48 + number) && (space == 32) then line else []
own_line (Some number) _ = []

-- a line of a log; nothing of the line of a snapshot, which begins with `= `
abbrev pub log_line : List ℕ → List ℕ
log_line (sign ∷ space ∷ line) = if (sign == 61) && (space == 32) then [] else (sign ∷ space ∷ line)
log_line line = line

-- the log in the input: all lines, or those of this machine of a farm, but for the lines of snapshots
abbrev pub log_in : Option ℕ → List ℕ → List ℕ
log_in number text = flat_map (λ line. log_line (own_line number line)) (lines_of text)
