-- A session that goes on from any live state.
use Rattle.std.specs.Prelude.{ℕ, Bool, List, Option, unwrap_or}
use Rattle.tp_machine.specs.declared.machine.Machine.{Machine}
use Rattle.tp_script.specs.declared.event.Event.{Event}
use Rattle.tp_jobs.specs.declared.standing.Standing as kept
use Rattle.tp_stream.specs.Scripts.{AnswersLine, NoRefusal, line_bytes, most_lines}
use Rattle.tp_stream.specs.Takes.{Stops, TakesAll, place_of}
use Rattle.tp_stream.specs.declared.stop.Stop.{Stop}
use Rattle.tp_event_rules.specs.States.{SessionState, empty_state}
use Rattle.tp_run_laws.specs.Ends.{IsAnswered, IsAnsweredTo}
use Rattle.tp_run_laws.specs.Continuations.{GoesOn}
use Rattle.tp_run_laws.specs.Wholes.{IsWhole}
use Rattle.tp_session.specs.Sessions.{Standing, Tells, start_of}
use Rattle.tp_session_standing.specs.Sound.{IsSound}
use Rattle.tp_session_standing.specs.StandingStates.{standing_state}
use Rattle.tp_stream.specs.Tellers.{TellsAll}

-- where a session of the machine stands in this state
abbrev pub stands_at : Machine → Option ℕ → Bool → SessionState → Standing
stands_at machine budget bounds live = record (start_of machine budget bounds) { state = live }

-- events that it answers from there are answered by a run from every whole state behind the live one
abbrev pub SessionsGoOn : Machine → Option ℕ → Bool → Type 0
SessionsGoOn machine budget bounds = (whole live : SessionState) → IsWhole machine whole live → (events : List Event) (text : List ℕ) (s : Standing)
    → TellsAll Tells (stands_at machine budget bounds live) events text s
    → GoesOn machine (unwrap_or budget machine.budget) bounds whole events text s.state

-- and so is a script, and the first lines of one where the session stops
abbrev pub ScriptsGoOn : Machine → Option ℕ → Bool → Type 0
ScriptsGoOn machine budget bounds = (whole live : SessionState) → IsWhole machine whole live → (script : List ℕ) (taken taken' : Option (List ℕ)) (s : Standing)
    → TakesAll (AnswersLine Tells) line_bytes most_lines (place_of (stands_at machine budget bounds live) 0 taken) script s taken'
    → IsAnswered machine (unwrap_or budget machine.budget) bounds whole script taken taken'

abbrev pub StopsGoOn : Machine → Option ℕ → Bool → Type 0
StopsGoOn machine budget bounds = (whole live : SessionState) → IsWhole machine whole live → (stop : Stop) (script : List ℕ) (left left' taken taken' : Option (List ℕ)) (s : Standing)
    → Stops (AnswersLine Tells) NoRefusal line_bytes most_lines left left' (place_of (stands_at machine budget bounds live) 0 taken) script stop s taken'
    → IsAnsweredTo machine (unwrap_or budget machine.budget) bounds whole stop script left left' taken taken'

-- the empty state is its own live part, and so is the state that a sound standing tells
abbrev pub EmptyIsWhole : Type 0
EmptyIsWhole = (machine : Machine) → IsWhole machine empty_state empty_state

abbrev pub ToldIsWhole : Type 0
ToldIsWhole = (machine : Machine) (t : kept.Standing) → IsSound machine t → IsWhole machine (standing_state machine t) (standing_state machine t)
