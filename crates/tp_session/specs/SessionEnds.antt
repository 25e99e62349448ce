-- Where a session stands after a script.
use Rattle.std.specs.Prelude.{◌≡◌, ℕ, ◌≤◌, Bool, List, length, Option, unwrap_or}
use Rattle.std.specs.List.{All, filter_map}
use Rattle.tp_machine.specs.declared.machine.Machine.{Machine}
use Rattle.tp_words.specs.Texts.{lines_of}
use Rattle.tp_script.specs.Lines.{line_event}
use Rattle.tp_stream.specs.Scripts.{AnswersLine, line_bytes, most_lines}
use Rattle.tp_stream.specs.Takes.{FitsIn, IsWritten, TakesAll, place_of}
use Rattle.tp_event_rules.specs.States.{SessionState, empty_state}
use Rattle.tp_run_laws.specs.Continuations.{GoesOn}
use Rattle.tp_session.specs.Sessions.{Standing, Tells, start_of}
use Rattle.tp_session_standing.specs.Sound.{IsSound}
use Rattle.tp_session_standing.specs.StandingStates.{standing_of, standing_state}

-- the whole script was answered from the empty state on: this is the text of a run over its events. It ended in a state of which this
-- is the live part. Where this stands is sound to go on from, and what is written of that denotes the live part itself
pub record EndsSoundly (machine : Machine) (nodes : ℕ) (bounds : Bool) (script : List ℕ) (live : SessionState) : Type 0 where
  pub fit : All (FitsIn line_bytes) (lines_of script)
  pub few : length (lines_of script) ≤ most_lines
  pub text : List ℕ
  pub run : GoesOn machine nodes bounds empty_state (filter_map line_event (lines_of script)) text live
  pub sound : IsSound machine (standing_of machine live)
  pub as_told : standing_state machine (standing_of machine live) ≡ live

-- so it is with a session of the machine, and the text was written
pub record ScriptEnds (machine : Machine) (nodes : ℕ) (bounds : Bool) (script : List ℕ) (taken taken' : Option (List ℕ)) (s : Standing) : Type 0 where
  pub same_machine : s.machine ≡ machine
  pub ends : EndsSoundly machine nodes bounds script s.state
  pub written : IsWritten taken ends.text taken'

-- and so it is after each script that a session answers from its start
abbrev pub ScriptsEndSoundly : Machine → Option ℕ → Bool → Type 0
ScriptsEndSoundly machine budget bounds = (script : List ℕ) (taken taken' : Option (List ℕ)) (s : Standing)
    → TakesAll (AnswersLine Tells) line_bytes most_lines (place_of (start_of machine budget bounds) 0 taken) script s taken'
    → ScriptEnds machine (unwrap_or budget machine.budget) bounds script taken taken' s
