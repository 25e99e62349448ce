-- What a farm of sessions answers and writes.
use Rattle.std.specs.Prelude.{◌≡◌, ℕ, ◌+◌, ◌<◌, ◌≤◌, Bool, true, List, [], ◌∷◌, ◌++◌, length, map, slice_get, All, Option, Some, IfSome, unwrap_or}
use Rattle.tp_outside.specs.PartialTransfer.{IsCutShort}
use Rattle.tp_machine.specs.declared.machine.Machine.{Machine}
use Rattle.tp_words.specs.Parts.{lacks}
use Rattle.tp_words.specs.Texts.{lines_of}
use Rattle.tp_stream.specs.Answers.{AnswersAll}
use Rattle.tp_stream.specs.Scripts.{NoRefusal, line_bytes, most_lines}
use Rattle.tp_stream.specs.Takes.{BeginsTooLong, FitsIn, IsWritten, NextLine, Stops, TakesAll, ends_whole, place_of}
use Rattle.tp_stream.specs.declared.stop.Stop.{Stop}
use Rattle.tp_stream.specs.declared.stop.Stop.TheVariants.{Memory, Refused, Source, Sink, Line, Lines}
use Rattle.tp_run_laws.specs.EventRuns.{IsRunOf}
use Rattle.tp_session.specs.Probes.{Probes}
use Rattle.tp_session.specs.Sessions.{Standing, Tells, start_of}
use Rattle.tp_farm.specs.Farms.{AnswersLine, FarmState, SendsLines, Sent, farm_of, sent_to}
use Rattle.tp_farm.specs.Numbered.{told_by}

-- where the machines stand before their first event
abbrev pub farm_start : List Machine → Option ℕ → Bool → FarmState Standing
farm_start machines budget bounds = farm_of (map (λ machine. start_of machine budget bounds) machines) []

module _ (machines : List Machine) (budget : Option ℕ) (bounds : Bool) where
  -- the lines are answered in turn, each sent where it goes. Of each machine the lines with its number before them, without it,
  -- are the text of the one log that answers the events that it was sent by a lawful run, with this budget, or else its own
  pub record IsFarmRun (lines : List (List ℕ)) (text : List ℕ) : Type 0 where
    pub sent : List Sent
    pub last : FarmState Standing
    pub steps : SendsLines Tells Probes (farm_start machines budget bounds) lines sent text last
    pub logs : (place : ℕ) (machine : Machine) → slice_get machines place ≡ Some machine
        → IsRunOf machine (unwrap_or budget machine.budget) bounds (sent_to (place + 1) sent) (told_by (place + 1) text)

  -- the whole script was answered, and its text was written
  pub record IsFarmAnswered (script : List ℕ) (taken taken' : Option (List ℕ)) : Type 0 where
    pub fit : All (FitsIn line_bytes) (lines_of script)
    pub few : length (lines_of script) ≤ most_lines
    pub text : List ℕ
    pub run : IsFarmRun (lines_of script) text
    pub written : IsWritten taken text taken'

  -- the next line was read whole, keeps the length limit, and is not one too many. The sink took a first part of the text that answers it
  pub record IsFarmCutAt (done rest text : List ℕ) (left left' taken taken' : Option (List ℕ)) : Type 0 where
    pub next : NextLine line_bytes left left' rest
    pub few : length (lines_of done) < most_lines
    pub told : List ℕ
    pub run : IsFarmRun (lines_of done ++ next.line ∷ []) (text ++ told)
    pub cut : IfSome taken (λ before. IsCutShort told taken' (before ++ text))

  -- what is known of what comes next where a farm stops. Only a sink that fails has taken more than the text of the lines
  -- before: a first part of the next line's. `Lines` comes only if the line that is one too many keeps the length limit
  abbrev pub FarmStopsAt : Stop → List ℕ → List ℕ → List ℕ → Option (List ℕ) → Option (List ℕ) → Option (List ℕ) → Option (List ℕ) → Type 0
  FarmStopsAt Memory done rest text left left' taken taken' = IsWritten taken text taken'
  FarmStopsAt Refused done rest text left left' taken taken' = ⊥
  FarmStopsAt Source done rest text left left' taken taken' = (lacks 10 rest ≡ true) × IsWritten taken text taken'
  FarmStopsAt (Line n) done rest text left left' taken taken' = BeginsTooLong line_bytes rest × (n ≡ length (lines_of done) + 1) × IsWritten taken text taken'
  FarmStopsAt Lines done rest text left left' taken taken' = (length (lines_of done) ≡ most_lines) × NextLine line_bytes left left' rest × IsWritten taken text taken'
  FarmStopsAt Sink done rest text left left' taken taken' = IsFarmCutAt done rest text left left' taken taken'

  -- its first lines were, each whole and within the limit, and then the farm stopped
  pub record IsFarmAnsweredTo (stop : Stop) (script : List ℕ) (left left' taken taken' : Option (List ℕ)) : Type 0 where
    pub done : List ℕ
    pub rest : List ℕ
    pub parts : script ≡ done ++ rest
    pub whole : ends_whole done ≡ true
    pub fit : All (FitsIn line_bytes) (lines_of done)
    pub few : length (lines_of done) ≤ most_lines
    pub text : List ℕ
    pub run : IsFarmRun (lines_of done) text
    pub stops : FarmStopsAt stop done rest text left left' taken taken'

  abbrev pub FarmsLawful : Type 0
  FarmsLawful = (lines : List (List ℕ)) (text : List ℕ) (farm : FarmState Standing)
      → AnswersAll (AnswersLine Tells Probes) (farm_start machines budget bounds) lines text farm → IsFarmRun lines text

  abbrev pub FarmScriptsLawful : Type 0
  FarmScriptsLawful = (script : List ℕ) (taken taken' : Option (List ℕ)) (farm : FarmState Standing)
      → TakesAll (AnswersLine Tells Probes) line_bytes most_lines (place_of (farm_start machines budget bounds) 0 taken) script farm taken'
      → IsFarmAnswered script taken taken'

  abbrev pub FarmStopsLawful : Type 0
  FarmStopsLawful = (stop : Stop) (script : List ℕ) (left left' taken taken' : Option (List ℕ)) (farm : FarmState Standing)
      → Stops (AnswersLine Tells Probes) NoRefusal line_bytes most_lines left left' (place_of (farm_start machines budget bounds) 0 taken) script stop farm taken'
      → IsFarmAnsweredTo stop script left left' taken taken'
