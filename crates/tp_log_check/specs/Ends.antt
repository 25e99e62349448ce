-- How far a log was looked at, and what is known then.
use Rattle.std.specs.Prelude.{◌≡◌, ◌≢◌, ◌⊎◌, ℕ, ◌+◌, ◌≤◌, true, List, [], ◌∷◌, ◌++◌, length, map, Option}
use Rattle.std.specs.List.{All, flat_map}
use Rattle.tp_log_check.specs.declared.counts.Counts.{Counts}
use Rattle.tp_log.specs.LogLines.{IsLogLine, log_line_text}
use Rattle.tp_log.specs.Logs.{log_text}
use Rattle.tp_log.specs.declared.log_line.LogLine.{LogLine}
use Rattle.tp_log_check.specs.CheckerState.{CheckerValue, HasRead, IsAcceptedLog, items_of}
use Rattle.tp_log_check.specs.Causes.{HasCause}
use Rattle.tp_log_check.specs.FlawLines.{LiesAt, LiesInLast}
use Rattle.tp_log_check.specs.Lawful.{IsLawfulLog}
use Rattle.tp_log_check.specs.declared.flaw.Flaw.{Flaw}
use Rattle.tp_log_check.specs.declared.flaw.Flaw.TheVariants.{Memory as WantsMemory}
use Rattle.tp_machine.specs.declared.machine.Machine.{Machine}
use Rattle.tp_stream.specs.Takes.{BeginsTooLong, IsAtEnd, IsReadFrom, NextLine, ends_whole}
use Rattle.tp_words.specs.Parts.{lacks}
use Rattle.tp_words.specs.Texts.{lines_of}
use Rattle.tp_log_check.specs.declared.rejection.Rejection.{Rejection}
use Rattle.tp_log_check.specs.declared.rejection.Rejection.TheVariants.{Memory, Source, Line, Log, Flaw as Flawed}
use Rattle.tp_log_check.specs.Sizes.{IsPastSizes, KeepsSizes, event_lines, events_in, line_bytes, most_bytes, most_events}

-- nothing was fed yet
pub record IsFresh (c : CheckerValue) : Type 0 where
  pub read : HasRead c []
  pub events : c.events ≡ 0

-- the text is lines of a log of which a checker took one after another
pub record IsTakenBy (c : CheckerValue) (text : List ℕ) : Type 0 where
  pub told : List LogLine
  pub known : All IsLogLine told
  pub lines : lines_of text ≡ map log_line_text told
  pub read : HasRead c told

-- a checker of the machine took the text
abbrev pub IsTaken : Machine → List ℕ → Type 0
IsTaken machine text = (c : CheckerValue) × (c.machine ≡ machine) × IsTakenBy c text

-- the text is that of a log that is lawful with bounds, but for the causes of its budgets, and has these counts
pub record IsAcceptedText (machine : Machine) (text : List ℕ) (counts : Counts) : Type 0 where
  pub sizes : KeepsSizes text
  pub told : List LogLine
  pub accepted : IsAcceptedLog machine told counts
  pub is_text : text ≡ log_text (items_of accepted.sections)

-- the text is that of a log that is lawful with bounds, but for the causes of its budgets
pub record IsLawfulText (machine : Machine) (text : List ℕ) : Type 0 where
  pub told : List LogLine
  pub lawful : IsLawfulLog machine told
  pub is_text : text ≡ flat_map log_line_text told

-- no such text begins with these lines
abbrev pub BeginsNone : Machine → List (List ℕ) → Type 0
BeginsNone machine lines = (text : List ℕ) (more : List (List ℕ)) → lines_of text ≡ lines ++ more → ¬ IsLawfulText machine text

-- a log of the machine from a source: its first lines, and what was read behind them
module _ (machine : Machine) (left left' : Option (List ℕ)) (done rest : List ℕ) where
  -- the next line keeps the length limit, and with it the log is too long
  pub record IsTooLongWith : Type 0 where
    pub next : NextLine line_bytes left left' rest
    pub past : IsPastSizes (length done + length next.line) (event_lines done + events_in next.line)

  -- the next line brings a flaw to light, and with it the log still keeps its sizes. The line is the first one off the grammar, or the flaw
  -- lies in what is reported of the last event. No lawful log begins with the lines up to this one
  pub record IsRefusedAt (flaw : Flaw) : Type 0 where
    pub next : NextLine line_bytes left left' rest
    pub bytes : length done + length next.line ≤ most_bytes
    pub events : event_lines done + events_in next.line ≤ most_events
    pub told : List LogLine
    pub lines : lines_of done ≡ map log_line_text told
    pub lies : LiesAt told next.line flaw
    pub none : BeginsNone machine (lines_of done ++ next.line ∷ [])

  -- the source is at its end and all its lines were taken. The flaw lies in what is reported of the last event, and the lines are no lawful log
  pub record IsRefusedAtEnd (flaw : Flaw) : Type 0 where
    pub ended : IsAtEnd left left'
    pub all : rest ≡ []
    pub told : List LogLine
    pub lines : lines_of done ≡ map log_line_text told
    pub lies : LiesInLast told flaw
    pub none : ¬ IsLawfulText machine done

  -- why the lines behind the first ones are not taken
  abbrev pub StopsAt : Rejection → Type 0
  StopsAt Memory = ⊥
  StopsAt Source = lacks 10 rest ≡ true
  StopsAt (Line n) = BeginsTooLong line_bytes rest × (n ≡ length (lines_of done) + 1)
  StopsAt Log = IsTooLongWith
  StopsAt (Flawed flaw) = (flaw ≢ WantsMemory) × (IsRefusedAt flaw ⊎ IsRefusedAtEnd flaw)

-- the checker took all lines of the log. The flaw lies in what is reported of the last event, and the lines are no lawful log
pub record IsFlawedEnd (c : CheckerValue) (flaw : Flaw) (told : List LogLine) : Type 0 where
  pub lies : LiesInLast told flaw
  pub caused : HasCause c flaw
  pub none : ¬ IsLawfulLog c.machine told

-- why the end of such a log is not accepted
abbrev pub EndsFor : CheckerValue → Rejection → Type 0
EndsFor c Memory = Unit {0}
EndsFor c (Flawed flaw) = (flaw ≢ WantsMemory) × ((told : List LogLine) → HasRead c told → IsFlawedEnd c flaw told)
EndsFor c _ = ⊥

-- a flaw is reported for what its rule says of the turn at which the checker stands
abbrev pub IsCaused : CheckerValue → Rejection → Type 0
IsCaused c (Flawed flaw) = HasCause c flaw
IsCaused c _ = Unit {0}

-- the first lines of the text were taken, and then it was stopped for this cause
pub record StopsFor (machine : Machine) (left left' : Option (List ℕ)) (text : List ℕ) (cause : Rejection) : Type 0 where
  pub done : List ℕ
  pub rest : List ℕ
  pub parts : text ≡ done ++ rest
  pub whole : ends_whole done ≡ true
  pub sizes : KeepsSizes done
  pub taken : IsTaken machine done
  pub stops : StopsAt machine left left' done rest cause
  pub caused : IsCaused taken.0 cause

-- ---- of what a source gave

abbrev pub IsTakenFrom : Machine → Option (List ℕ) → Option (List ℕ) → CheckerValue → Type 0
IsTakenFrom machine left left' c = (text : List ℕ) × IsReadFrom left text left' × KeepsSizes text × (c.machine ≡ machine) × IsTakenBy c text

abbrev pub IsAcceptedFrom : Machine → Option (List ℕ) → Option (List ℕ) → Counts → Type 0
IsAcceptedFrom machine left left' counts = (text : List ℕ) × IsReadFrom left text left' × IsAcceptedText machine text counts

-- that memory was wanting says nothing of the log
abbrev pub StopsFrom : Machine → Option (List ℕ) → Option (List ℕ) → Rejection → Type 0
StopsFrom machine left left' Memory = Unit {0}
StopsFrom machine left left' cause = (text : List ℕ) × IsReadFrom left text left' × StopsFor machine left left' text cause
