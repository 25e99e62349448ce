-- On which lines flaws are reported.
use Rattle.std.specs.Prelude.{◌≡◌, ℕ, ◌+◌, ◌<◌, ◌≤◌, false, List, [], ◌∷◌, ◌++◌, length}
use Rattle.std.specs.List.{All}
use Rattle.tp_log.specs.LogLines.{AreInOrder, IsLogLine, is_event, log_line_text}
use Rattle.tp_log.specs.declared.log_line.LogLine.{LogLine}
use Rattle.tp_log.specs.declared.log_line.LogLine.TheVariants.{Event}
use Rattle.tp_script.specs.declared.event.Event.{Event as AnEvent}
use Rattle.tp_log_check.specs.declared.flaw.Flaw.{Flaw}
use Rattle.tp_log_check.specs.declared.flaw.Flaw.TheVariants.{Text, Due, Illegal, NotLeast, Tree}

-- line n, the one behind these, is the first that is off the grammar: these are lines of a log in order, and it is no line that may
-- stand behind them
pub record IsFirstOff (before : List LogLine) (line : List ℕ) (n : ℕ) : Type 0 where
  pub number : n ≡ length before + 1
  pub known : All IsLogLine before
  pub order : AreInOrder before
  pub off : (told : LogLine) → IsLogLine told → line ≡ log_line_text told → AreInOrder (before ++ told ∷ []) → ⊥

-- a flaw of what is reported of an event is reported on a line behind the event's, and on this one at most
abbrev pub LiesBehind : ℕ → ℕ → Flaw → Type 0
LiesBehind event last (Due n) = (event < n) × (n ≤ last)
LiesBehind event last (Illegal n first second) = (event < n) × (n ≤ last)
LiesBehind event last (NotLeast n given least) = (event < n) × (n ≤ last)
LiesBehind event last (Tree n flaw) = (event < n) × (n ≤ last)
LiesBehind event last _ = ⊥

-- the flaw is reported behind the line of the last event, on the one behind all lines at most
pub record LiesInLast (told : List LogLine) (flaw : Flaw) : Type 0 where
  pub earlier : List LogLine
  pub event : AnEvent
  pub later : List LogLine
  pub parts : told ≡ earlier ++ Event event ∷ later
  pub last : All (λ line. is_event line ≡ false) later
  pub lies : LiesBehind (length earlier + 1) (length told + 1) flaw

-- where a flaw is reported that the line behind these brings to light
abbrev pub LiesAt : List LogLine → List ℕ → Flaw → Type 0
LiesAt before line (Text n) = IsFirstOff before line n
LiesAt before line flaw = LiesInLast before flaw

-- the next line is reported to be off the grammar, or a flaw of the last event is reported
abbrev pub IsOffOr : List LogLine → ℕ → Flaw → Type 0
IsOffOr before line (Text n) = n ≡ line
IsOffOr before line flaw = LiesInLast before flaw
