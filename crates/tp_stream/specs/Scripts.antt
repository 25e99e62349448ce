-- How the lines of a script are answered by whoever answers events.
use Rattle.std.specs.Prelude.{◌≡◌, ℕ, List, [], Option, Some, None}
use Rattle.std.specs.Option.{MatchOption}
use Rattle.tp_script.specs.Lines.{line_event}
use Rattle.tp_script.specs.Printed.{IsEchoed}
use Rattle.tp_script.specs.declared.event.Event.{Event}
use Rattle.tp_stream.specs.Takes.{IsReadFrom, Stops, TakesAll, place_of}
use Rattle.tp_stream.specs.declared.stop.Stop.{Stop}

-- the most bytes of a script's line without its LF, and the most lines
abbrev pub line_bytes : ℕ
line_bytes = 4096

abbrev pub most_lines : ℕ
most_lines = 1000000

-- what reading the event of a line answers
abbrev pub ReadsEvent : List ℕ → Option Event → Type 0
ReadsEvent line None = line_event line ≡ None
ReadsEvent line (Some event) = (line_event line ≡ Some event) × IsEchoed event

-- no line of a script is refused
abbrev pub NoRefusal : {S : Type 0} → S → List ℕ → Type 0
NoRefusal s line = ⊥

module _ {S : Type 0} (tells : S → Event → List ℕ → S → Type 0) where
  -- a blank line or a comment is passed over; any other is answered as its event
  abbrev pub AnswersLine : S → List ℕ → List ℕ → S → Type 0
  AnswersLine s line text s' = MatchOption (line_event line) ((text ≡ []) × (s' ≡ s)) (λ event. tells s event text s')

  -- from the start on all lines of what the source gave were answered, up to the last state
  abbrev pub IsTaken : S → Option (List ℕ) → Option (List ℕ) → S → Option (List ℕ) → Option (List ℕ) → Type 0
  IsTaken start left taken last left' taken' = (bytes : List ℕ) × IsReadFrom left bytes left'
      × TakesAll AnswersLine line_bytes most_lines (place_of start 0 taken) bytes last taken'

  -- or the first lines, and then the run stopped for this cause
  abbrev pub IsStopped : S → Option (List ℕ) → Option (List ℕ) → Stop → Option (List ℕ) → Option (List ℕ) → Type 0
  IsStopped start left taken stop left' taken' = (bytes : List ℕ) × IsReadFrom left bytes left'
      × ((s : S) × Stops AnswersLine NoRefusal line_bytes most_lines left left' (place_of start 0 taken) bytes stop s taken')
