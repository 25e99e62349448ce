-- How a run ends whose session is saved, by its status.
use Rattle.std.specs.Prelude.{◌≡◌, ◌⊎◌, ℕ, Bool, List, [], ◌∷◌, ◌++◌, codes, Option, IfSome}
use Rattle.tp_outside.specs.Outside.{Files}
use Rattle.tp_outside.specs.PartialTransfer.{IsCutShort}
use Rattle.tp_machine.specs.declared.machine.Machine.{Machine}
use Rattle.tp_command.specs.Form.{Asked}
use Rattle.tp_jobs.specs.declared.standing.Standing as kept
use Rattle.tp_session.specs.SessionEnds.{EndsSoundly}
use Rattle.tp_snapshot.specs.Rules.{IsSnapshot}
use Rattle.tp_snapshot.specs.Texts.{IsWritten as IsWrittenFor}
use Rattle.tp_session_standing.specs.StandingStates.{standing_of}
use Rattle.tp_stream.specs.Takes.{IsAtEnd, IsReadFrom, IsWritten}
use Rattle.tp_stream.specs.declared.stop.Stop.{Stop}
use Rattle.tp_stream.specs.declared.stop.Stop.TheVariants as stop
use Rattle.tp_event_rules.specs.States.{SessionState, empty_state}
use Rattle.tp_run_laws.specs.Ends.{IsAnswered}
use Rattle.tp_program.specs.Runs.{EndsBy, NoMachine, RunsOn, StopsOn}
use Rattle.tp_program.specs.WrittenText.{WritesOne}
use Rattle.tp_program.specs.declared.status.Status.{Status}
use Rattle.tp_program.specs.declared.status.Status.TheVariants.{Memory}

-- the line that is saved: `= `, a snapshot of the machine and of where its session stands, and LF
pub record IsSavedLine (machine : Machine) (t : kept.Standing) (line : List ℕ) : Type 0 where
  pub snapshot : List ℕ
  pub written : IsWrittenFor snapshot machine t
  pub of_standing : IsSnapshot snapshot machine t
  pub is : line ≡ codes "= " ++ snapshot ++ 10 ∷ []

-- how the writing of the line ends: there is no memory for it, or it is written, whole or a first part of it
abbrev pub EndsWithLine : Machine → kept.Standing → Option (List ℕ) → Option (List ℕ) → Status → Type 0
EndsWithLine machine t taken taken' Memory = taken' ≡ taken
EndsWithLine machine t taken taken' status = WritesOne (IsSavedLine machine t) taken taken' status

-- on a machine, with this budget and with bounds or without
module _ (machine : Machine) (budget : ℕ) (bounds : Bool) where
  -- the script was answered by a lawful run, and then there is a line of where the live part of its last state stands
  pub record HasSavedLine (script : List ℕ) : Type 0 where
    pub live : SessionState
    pub ends : EndsSoundly machine budget bounds script live
    pub line : List ℕ
    pub saved : IsSavedLine machine (standing_of machine live) line

  -- what is left of the source before and after, and what the sink had taken before and after
  module _ (left left' taken taken' : Option (List ℕ)) where
    -- the script that the source gave was answered, and the text of its one log was written, and then the line
    abbrev pub SaveDone : Type 0
    SaveDone = (script : List ℕ) × IsReadFrom left script left' × ((h : HasSavedLine script) × IsWritten taken (h.ends.text ++ h.line) taken')

    -- the source was read to its end and all was answered, but the line wasn't made, or not written whole
    abbrev pub LineStops : Stop → Type 0
    LineStops stop.Memory = (script : List ℕ) × IsReadFrom left script left' × IsAtEnd left left' × IsAnswered machine budget bounds empty_state script taken taken'
    LineStops stop.Sink = (script : List ℕ) × IsReadFrom left script left' × IsAtEnd left left'
        × ((h : HasSavedLine script) × IfSome taken (λ before. IsCutShort h.line taken' (before ++ h.ends.text)))
    LineStops _ = ⊥

    abbrev pub SaveStops : Stop → Type 0
    SaveStops cause = StopsOn machine budget bounds empty_state left left' taken taken' cause ⊎ LineStops cause

    -- how it ends: with Done the source was read to its end
    abbrev pub SavesOn : Status → Type 0
    SavesOn status = EndsBy (SaveDone × IsAtEnd left left') SaveStops status

abbrev pub SavedBy : Option Files → Asked → Option (List ℕ) → Option (List ℕ) → Option (List ℕ) → Option (List ℕ) → Status → Type 0
SavedBy known asked left left' taken taken' status =
    RunsOn known asked (λ machine budget bounds. SavesOn machine budget bounds left left' taken taken' status)

-- how it ends: there is no machine, and nothing is read or written; or it ran
module _ {S K : Type 0} (left : S → Option (List ℕ)) (taken : K → Option (List ℕ)) (known : Option Files) (source source' : S) (sink sink' : K) where
  abbrev pub SaveEnds : Asked → Status → Type 0
  SaveEnds asked status =
      (NoMachine known asked.arg status × (source' ≡ source) × (sink' ≡ sink))
      ⊎ SavedBy known asked (left source) (left source') (taken sink) (taken sink') status
