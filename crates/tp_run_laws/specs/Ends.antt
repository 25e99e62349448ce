-- How a run over a script ends, and what was written then.
use Rattle.std.specs.Prelude.{◌≡◌, ℕ, ◌+◌, ◌<◌, ◌≤◌, Bool, true, List, [], ◌∷◌, ◌++◌, length, Option, IfSome}
use Rattle.std.specs.List.{All}
use Rattle.tp_machine.specs.declared.machine.Machine.{Machine}
use Rattle.tp_outside.specs.PartialTransfer.{IsCutShort}
use Rattle.tp_words.specs.Texts.{lines_of}
use Rattle.tp_words.specs.Parts.{lacks}
use Rattle.tp_stream.specs.Scripts.{NoRefusal, line_bytes, most_lines}
use Rattle.tp_stream.specs.Takes.{BeginsTooLong, FitsIn, IsWritten, NextLine, Stops, TakesAll, ends_whole, place_of}
use Rattle.tp_stream.specs.declared.stop.Stop.{Stop}
use Rattle.tp_stream.specs.declared.stop.Stop.TheVariants.{Memory, Refused, Source, Sink, Line, Lines}
use Rattle.tp_event_rules.specs.States.{SessionState}
use Rattle.tp_run_laws.specs.Wholes.{IsRunOver, IsWhole, TellsLine}

-- from a state on the whole script was answered: the text of the one log that answers its events lawfully was written
pub record IsAnswered (machine : Machine) (nodes : ℕ) (bounds : Bool) (start : SessionState) (script : List ℕ) (taken taken' : Option (List ℕ)) : Type 0 where
  pub fit : All (FitsIn line_bytes) (lines_of script)
  pub few : length (lines_of script) ≤ most_lines
  pub text : List ℕ
  pub run : IsRunOver machine nodes bounds start (lines_of script) text
  pub written : IsWritten taken text taken'

-- the next line was read whole, keeps the length limit, and is not one too many. The sink took a first part of the text that answers it
pub record IsCutAt (machine : Machine) (nodes : ℕ) (bounds : Bool) (start : SessionState) (done rest text : List ℕ) (left left' taken taken' : Option (List ℕ)) : Type 0 where
  pub next : NextLine line_bytes left left' rest
  pub few : length (lines_of done) < most_lines
  pub told : List ℕ
  pub run : IsRunOver machine nodes bounds start (lines_of done ++ next.line ∷ []) (text ++ told)
  pub cut : IfSome taken (λ before. IsCutShort told taken' (before ++ text))

-- what is known of what comes next where a run over a script stops. Only a sink that fails has taken more than the text of
-- the lines before: a first part of the next line's. `Lines` comes only if the line that is one too many keeps the length limit
abbrev pub StopsAt : Machine → ℕ → Bool → SessionState → Stop → List ℕ → List ℕ → List ℕ → Option (List ℕ) → Option (List ℕ) → Option (List ℕ) → Option (List ℕ) → Type 0
StopsAt machine nodes bounds start Memory done rest text left left' taken taken' = IsWritten taken text taken'
StopsAt machine nodes bounds start Refused done rest text left left' taken taken' = ⊥
StopsAt machine nodes bounds start Source done rest text left left' taken taken' = (lacks 10 rest ≡ true) × IsWritten taken text taken'
StopsAt machine nodes bounds start (Line n) done rest text left left' taken taken' = BeginsTooLong line_bytes rest × (n ≡ length (lines_of done) + 1) × IsWritten taken text taken'
StopsAt machine nodes bounds start Lines done rest text left left' taken taken' = (length (lines_of done) ≡ most_lines) × NextLine line_bytes left left' rest × IsWritten taken text taken'
StopsAt machine nodes bounds start Sink done rest text left left' taken taken' = IsCutAt machine nodes bounds start done rest text left left' taken taken'

-- the first lines of what was read were answered, each whole and within the limit: the text of the one log that answers
-- their events lawfully was written, and then the run stopped
pub record IsAnsweredTo (machine : Machine) (nodes : ℕ) (bounds : Bool) (start : SessionState) (stop : Stop) (script : List ℕ) (left left' taken taken' : Option (List ℕ)) : Type 0 where
  pub done : List ℕ
  pub rest : List ℕ
  pub parts : script ≡ done ++ rest
  pub whole : ends_whole done ≡ true
  pub fit : All (FitsIn line_bytes) (lines_of done)
  pub few : length (lines_of done) ≤ most_lines
  pub text : List ℕ
  pub run : IsRunOver machine nodes bounds start (lines_of done) text
  pub stops : StopsAt machine nodes bounds start stop done rest text left left' taken taken'

abbrev pub ScriptsAreLawful : Machine → ℕ → Bool → Type 0
ScriptsAreLawful machine nodes bounds = (whole live : SessionState) → IsWhole machine whole live
    → (script : List ℕ) (taken taken' : Option (List ℕ)) (s : SessionState)
    → TakesAll (TellsLine machine nodes bounds) line_bytes most_lines (place_of live 0 taken) script s taken'
    → IsAnswered machine nodes bounds whole script taken taken'

abbrev pub StopsAreLawful : Machine → ℕ → Bool → Type 0
StopsAreLawful machine nodes bounds = (whole live : SessionState) → IsWhole machine whole live
    → (stop : Stop) (script : List ℕ) (left left' taken taken' : Option (List ℕ)) (s : SessionState)
    → Stops (TellsLine machine nodes bounds) NoRefusal line_bytes most_lines left left' (place_of live 0 taken) script stop s taken'
    → IsAnsweredTo machine nodes bounds whole stop script left left' taken taken'
