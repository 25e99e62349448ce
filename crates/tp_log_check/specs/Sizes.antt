-- How long a log may be.
use Rattle.std.specs.Prelude.{ℕ, ◌⊎◌, ◌<◌, ◌≤◌, ◌==◌, ◌&&◌, Bool, false, List, [], ◌∷◌, length, count_by, if◌then◌else◌}
use Rattle.std.specs.List.{All}
use Rattle.tp_stream.specs.Takes.{FitsIn}
use Rattle.tp_words.specs.Texts.{lines_of}

-- the most bytes of a line without its LF
abbrev pub line_bytes : ℕ
line_bytes = 4194304

-- each line has a byte
abbrev pub most_lines : ℕ
most_lines = 1000000000000000001

abbrev pub most_bytes : ℕ
most_bytes = 1000000000000000000

abbrev pub most_events : ℕ
most_events = 1000000

-- whether a line begins with `> `
abbrev pub begins_event : List ℕ → Bool
begins_event [] = false
begins_event (first ∷ []) = false
begins_event (first ∷ second ∷ line) = (first == 62) && (second == 32)

-- how many lines of events a line is, and a text has
abbrev pub events_in : List ℕ → ℕ
events_in line = if begins_event line then 1 else 0

abbrev pub event_lines : List ℕ → ℕ
event_lines text = count_by begins_event (lines_of text)

-- so many bytes are too many, or so many lines of events
abbrev pub IsPastSizes : ℕ → ℕ → Type 0
IsPastSizes bytes events = (most_bytes < bytes) ⊎ (most_events < events)

-- no line is too long, nor are there too many bytes or lines of events
pub record KeepsSizes (text : List ℕ) : Type 0 where
  pub lines : All (FitsIn line_bytes) (lines_of text)
  pub bytes : length text ≤ most_bytes
  pub events : event_lines text ≤ most_events
