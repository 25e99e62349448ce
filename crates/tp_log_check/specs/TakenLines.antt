-- A line fed to a checker: taken, or refused for a cause.
use Rattle.std.specs.Prelude.{◌≡◌, ◌≢◌, ℕ, ◌+◌, ◌≤◌, List, [], ◌∷◌, ◌++◌, length, Option, Some}
use Rattle.tp_log.specs.LogLines.{IsLogLine, log_line_text}
use Rattle.tp_log.specs.declared.log_line.LogLine.{LogLine}
use Rattle.tp_log_check.specs.CheckerState.{CheckerValue, HasRead}
use Rattle.tp_log_check.specs.Causes.{HasCause}
use Rattle.tp_log_check.specs.FlawLines.{LiesAt}
use Rattle.tp_log_check.specs.Lawful.{IsLawfulLog}
use Rattle.tp_log_check.specs.declared.flaw.Flaw.{Flaw}
use Rattle.tp_log_check.specs.declared.flaw.Flaw.TheVariants.{Memory as WantsMemory}
use Rattle.tp_log_check.specs.declared.rejection.Rejection.{Rejection}
use Rattle.tp_log_check.specs.declared.rejection.Rejection.TheVariants.{Log, Flaw as Flawed}
use Rattle.tp_log_check.specs.Sizes.{IsPastSizes, events_in, most_bytes, most_events}

-- the checker, the bytes of the lines that it took, and why the last line is refused
pub record LogState : Type 0 where
  pub checker : CheckerValue
  pub bytes : ℕ
  pub found : Option Rejection

-- the log keeps its sizes with the line
pub record KeepsSizesWith (s : LogState) (line : List ℕ) : Type 0 where
  pub bytes : s.bytes + length line ≤ most_bytes
  pub events : s.checker.events + events_in line ≤ most_events

-- the line is taken
pub record TakesLine (s : LogState) (line : List ℕ) (s' : LogState) : Type 0 where
  pub sizes : KeepsSizesWith s line
  pub told : LogLine
  pub is_line : IsLogLine told
  pub text : line ≡ log_line_text told
  pub reads : (before : List LogLine) → HasRead s.checker before → HasRead s'.checker (before ++ told ∷ [])
  pub «machine» : s'.checker.machine ≡ s.checker.machine
  pub bytes : s'.bytes ≡ s.bytes + length line
  pub events : s'.checker.events ≡ s.checker.events + events_in line

-- behind these lines this one brings the flaw to light, and no lawful log begins with them and it
pub record IsFlawed (s : LogState) (line : List ℕ) (flaw : Flaw) (before : List LogLine) : Type 0 where
  pub lies : LiesAt before line flaw
  pub caused : HasCause s.checker flaw
  pub none : (told : LogLine) (more : List LogLine) → line ≡ log_line_text told → ¬ IsLawfulLog s.checker.machine (before ++ told ∷ more)

-- why it is refused
abbrev pub RefusesLine : LogState → List ℕ → Rejection → Type 0
RefusesLine s line Log = IsPastSizes (s.bytes + length line) (s.checker.events + events_in line)
RefusesLine s line (Flawed flaw) = KeepsSizesWith s line × (flaw ≢ WantsMemory) × ((before : List LogLine) → HasRead s.checker before → IsFlawed s line flaw before)
RefusesLine s line _ = ⊥

-- a line without a text is taken, and one with a text is refused for what was found
abbrev pub Answers : LogState → List ℕ → List ℕ → LogState → Type 0
Answers s line [] s' = TakesLine s line s'
Answers s line (byte ∷ text) s' = (cause : Rejection) × (s'.found ≡ Some cause) × RefusesLine s line cause
