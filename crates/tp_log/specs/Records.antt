-- The text of a record: one line of words with one space between.
use Rattle.std.specs.Prelude.{◌≡◌, ℕ, ◌+◌, ◌<◌, ◌≤◌, List, [], ◌∷◌, ◌++◌, length, map, Option, Some, None, decimal, codes}
use Rattle.tp_schedule.specs.declared.records.Cause.{Cause}
use Rattle.tp_schedule.specs.declared.records.Cause.TheVariants.{Syntax, Tray, Media, Named, Waiting, Back, End, «Module», Out, NotOn, Feeder, Endless, Stock}
use Rattle.tp_schedule.specs.declared.records.Record.{Record}
use Rattle.tp_schedule.specs.declared.records.Record.TheVariants.{Plan, Move, Never, Budget, FullUp, Release, Done, Lost, Recall, Withdraw, Cut, Purge, Again, Stuck, Broken, Drop, Refused}
use Rattle.tp_words.specs.Texts.{spaced}
use Rattle.tp_bounds.specs.Sheets.{sheet_text}

-- a goal: the tray's name, or `*` for a purge
abbrev pub goal_text : Option (List ℕ) → List ℕ
goal_text None = codes "*"
goal_text (Some tray) = tray

-- points and actions in turn
abbrev pub turns_words : List ℕ → List (List ℕ) → List (List ℕ)
turns_words [] acts = []
turns_words (point ∷ points) [] = decimal point ∷ []
turns_words (point ∷ points) (act ∷ acts) = decimal point ∷ act ∷ turns_words points acts

abbrev pub cause_words : Cause → List (List ℕ)
cause_words Syntax = codes "syntax" ∷ []
cause_words (Tray name) = codes "tray" ∷ name ∷ []
cause_words (Media name) = codes "media" ∷ name ∷ []
cause_words (Named name) = codes "named" ∷ name ∷ []
cause_words Waiting = codes "waiting" ∷ []
cause_words (Back now) = codes "back" ∷ decimal now ∷ []
cause_words End = codes "end" ∷ []
cause_words («Module» name) = codes "module" ∷ name ∷ []
cause_words (Out name) = codes "out" ∷ name ∷ []
cause_words (NotOn name) = codes "noton" ∷ name ∷ []
cause_words (Feeder name) = codes "feeder" ∷ name ∷ []
cause_words (Endless name) = codes "endless" ∷ name ∷ []
cause_words (Stock name) = codes "stock" ∷ name ∷ []

abbrev pub record_words : Record → List (List ℕ)
record_words (Plan sheet place points acts) = codes "plan" ∷ sheet_text sheet ∷ place ∷ turns_words points acts
record_words (Move sheet points) = codes "move" ∷ sheet_text sheet ∷ map decimal points
record_words (Never sheet goal) = codes "none" ∷ sheet_text sheet ∷ goal_text goal ∷ []
record_words (Budget sheet goal bound) = codes "budget" ∷ sheet_text sheet ∷ goal_text goal ∷ decimal bound ∷ []
record_words (FullUp sheet) = codes "full" ∷ sheet_text sheet ∷ []
record_words (Release sheet act name start end) = codes "release" ∷ sheet_text sheet ∷ decimal act ∷ name ∷ decimal start ∷ decimal end ∷ []
record_words (Done sheet place at) = codes "done" ∷ sheet_text sheet ∷ place ∷ decimal at ∷ []
record_words (Lost sheet) = codes "lost" ∷ sheet_text sheet ∷ []
record_words (Recall sheet act) = codes "recall" ∷ sheet_text sheet ∷ decimal act ∷ []
record_words (Withdraw sheet) = codes "withdraw" ∷ sheet_text sheet ∷ []
record_words (Cut sheet) = codes "cut" ∷ sheet_text sheet ∷ []
record_words (Purge sheet) = codes "purge" ∷ sheet_text sheet ∷ []
record_words (Again sheet) = codes "again" ∷ sheet_text sheet ∷ []
record_words (Stuck sheet name) = codes "stuck" ∷ sheet_text sheet ∷ name ∷ []
record_words (Broken job) = codes "broken" ∷ job ∷ []
record_words (Drop sheet) = codes "drop" ∷ sheet_text sheet ∷ []
record_words (Refused cause) = codes "refused" ∷ cause_words cause

-- the line of a record, with its LF
abbrev pub record_text : Record → List ℕ
record_text record' = spaced (record_words record') ++ 10 ∷ []

-- what has a line: a plan has at least one action, and one point more than actions; a move has at least two points
abbrev pub IsPrintable : Record → Type 0
IsPrintable (Plan sheet place points acts) = (length points ≡ length acts + 1) × (0 < length acts)
IsPrintable (Move sheet points) = 2 ≤ length points
IsPrintable _ = Unit {0}
