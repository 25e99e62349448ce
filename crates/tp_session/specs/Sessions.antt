-- What a session is seen as, and what one event does to it.
use Rattle.std.specs.Prelude.{◌≡◌, ℕ, ◌+◌, ◌≤◌, Bool, true, List, [], Option, length, unwrap_or}
use Rattle.tp_base.specs.Readings.{Reading}
use Rattle.tp_machine.specs.declared.machine.Machine.{Machine}
use Rattle.tp_script.specs.declared.event.Event.{Event}
use Rattle.tp_search.specs.Engines.{EngineValue, Serves}
use Rattle.tp_stream.specs.Scripts.{AnswersLine, NoRefusal, line_bytes, most_lines}
use Rattle.tp_stream.specs.Takes.{Stops, TakesAll, ends_whole, place_of}
use Rattle.tp_stream.specs.declared.stop.Stop.{Stop}
use Rattle.tp_stream.specs.Tellers.{TellsAll, most_events}
use Rattle.tp_event_rules.specs.Ready.{CanTakeEvents, KeepsStock}
use Rattle.tp_event_rules.specs.States.{SessionState, empty_state}
use Rattle.tp_run_laws.specs.Ends.{IsAnswered, IsAnsweredTo}
use Rattle.tp_run_laws.specs.EventRuns.{IsRunOf}
use Rattle.tp_run_laws.specs.Wholes.{TellsTurn}
use Rattle.tp_session.specs.Kept.{CanBeSaved}
use Rattle.tp_session_standing.specs.Sound.{IsSound, last_number, most_jobs}
use Rattle.tp_session_standing.specs.StandingStates.{standing_of, standing_state}
use Rattle.tp_jobs.specs.declared.standing.Standing as kept

-- the machine, the budget, whether bounds are shown, and the live part of the state: all that answers depend on
pub record Standing : Type 0 where
  pub machine : Machine
  pub budget : ℕ
  pub bounds : Bool
  pub state : SessionState

pub record SessionValue (N : Type 0) : Type 0 where
  pub standing : Standing
  pub engine : EngineValue N
  pub answered : ℕ
  pub text : List ℕ

-- what holds between events: the engine serves the machine, with the budget and the bounds, it has no trees, and any event can be
-- taken. It may have gone on from a standing, whose copies have numbers and whose feeders refills of their own
pub record IsSession {N : Type 0} (reading : Reading N) (standing : Standing) (engine : EngineValue N) (answered : ℕ) : Type 0 where
  pub serves : Serves reading engine standing.machine
  pub nodes : engine.work.nodes ≡ standing.budget
  pub bounds : engine.bounds ≡ standing.bounds
  pub no_trees : engine.trees ≡ []
  pub can : CanTakeEvents standing.machine (last_number + answered) standing.state
  pub stocked : KeepsStock standing.machine (2 + answered) standing.state
  pub within : answered ≤ most_events

-- an event's turn on every whole state behind the session's, with the text of its records and trees. All but the state stays, and a
-- state that can be saved leads to one that can
pub record Tells (s : Standing) (event : Event) (text : List ℕ) (s' : Standing) : Type 0 where
  pub same_machine : s'.machine ≡ s.machine
  pub same_budget : s'.budget ≡ s.budget
  pub same_bounds : s'.bounds ≡ s.bounds
  pub turn : TellsTurn s.machine s.budget s.bounds event s.state text s'.state
  pub saved : (events : ℕ) → CanBeSaved s.machine events s.state → CanBeSaved s.machine (events + 1) s'.state

-- where it stands once it goes on from what is kept of a session
abbrev pub gone_on : Standing → kept.Standing → Standing
gone_on s t = record s { state = standing_state s.machine t }

-- where a session stands before its first event: its budget is the one that is set, or else the machine's
abbrev pub start_of : Machine → Option ℕ → Bool → Standing
start_of machine budget bounds = record { machine = machine; budget = unwrap_or budget machine.budget; bounds = bounds; state = empty_state }

-- a script that a session answers from its start is answered lawfully
abbrev pub SessionsLawful : Machine → Option ℕ → Bool → Type 0
SessionsLawful machine budget bounds = (script : List ℕ) (taken taken' : Option (List ℕ)) (s : Standing)
    → TakesAll (AnswersLine Tells) line_bytes most_lines (place_of (start_of machine budget bounds) 0 taken) script s taken'
    → IsAnswered machine (unwrap_or budget machine.budget) bounds empty_state script taken taken'

-- and so are its first lines, where the session stops
abbrev pub SessionsStopLawful : Machine → Option ℕ → Bool → Type 0
SessionsStopLawful machine budget bounds = (stop : Stop) (script : List ℕ) (left left' taken taken' : Option (List ℕ)) (s : Standing)
    → Stops (AnswersLine Tells) NoRefusal line_bytes most_lines left left' (place_of (start_of machine budget bounds) 0 taken) script stop s taken'
    → IsAnsweredTo machine (unwrap_or budget machine.budget) bounds empty_state stop script left left' taken taken'

-- events that a session answers from its start are answered lawfully
abbrev pub SessionsTellLawful : Machine → Option ℕ → Bool → Type 0
SessionsTellLawful machine budget bounds = (events : List Event) (text : List ℕ) (s : Standing)
    → TellsAll Tells (start_of machine budget bounds) events text s
    → IsRunOf machine (unwrap_or budget machine.budget) bounds events text

-- each by whole lines
abbrev pub SessionsTellLines : Type 0
SessionsTellLines = (event : Event) (s s' : Standing) (text : List ℕ) → Tells s event text s' → ends_whole text ≡ true

-- where a session stands after these events from its start is sound to go on from, if not too many jobs came
abbrev pub SessionsStandSoundly : Machine → Option ℕ → Bool → Type 0
SessionsStandSoundly machine budget bounds = (events : List Event) (text : List ℕ) (s : Standing)
    → TellsAll Tells (start_of machine budget bounds) events text s → length events ≤ most_events → length s.state.jobs ≤ most_jobs
    → IsSound machine (standing_of machine s.state)
