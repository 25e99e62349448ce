-- What is reported of the live part of a state, as what is reported of the whole.
use Rattle.std.specs.Prelude.{◌≡◌, ℕ, Bool, List, []}
use Rattle.std.specs.List.{All, filter_map}
use Rattle.tp_bounds.specs.declared.tree.BoundTree.{BoundTree}
use Rattle.tp_machine.specs.declared.machine.Machine.{Machine}
use Rattle.tp_schedule.specs.PlannerAnswers.{PlannerRules}
use Rattle.tp_schedule.specs.declared.records.Record.{Record}
use Rattle.tp_script.specs.Lines.{line_event}
use Rattle.tp_script.specs.declared.event.Event.{Event}
use Rattle.tp_log.specs.Logs.{IsItem, log_text}
use Rattle.tp_stream.specs.Answers.{AnswersAll}
use Rattle.tp_stream.specs.Scripts.{AnswersLine}
use Rattle.tp_event_rules.specs.StateInvariants.{live_part}
use Rattle.tp_event_rules.specs.Logs.{Entry}
use Rattle.tp_event_rules.specs.Planners.{right_steps}
use Rattle.tp_event_rules.specs.States.{SessionState}
use Rattle.tp_outage_laws.specs.Through.{KeepsThrough}
use Rattle.tp_event_turn.specs.Events.{LiveTurn}
use Rattle.tp_event_turn.specs.LiveTurns.{AnswersAlone, SettlesRightly}
use Rattle.tp_run_laws.specs.CarriedTurns.{KeepsNodes, ShowsTrees}
use Rattle.tp_run_laws.specs.Runs.{IsRunFrom, TurnOf, entry_of, items_of, run_text}

-- a whole state behind a live one: it keeps what states keep through outages, past included, and this is its live part
pub record IsWhole (machine : Machine) (whole s : SessionState) : Type 0 where
  pub through : KeepsThrough machine whole
  pub live : live_part machine whole ≡ s

-- the event has this turn on the whole state, which leaves one behind the next live state
abbrev pub HasWholeTurn : Machine → ℕ → Bool → Event → SessionState → List Record → List BoundTree → SessionState → Type 0
HasWholeTurn machine nodes bounds event whole records trees s' = (whole' : SessionState) × TurnOf machine nodes bounds event whole records trees whole' × IsWhole machine whole' s'

-- these records and trees are those of the event's turn on every whole state behind the live one, and each of them has a text
pub record TurnsLive (machine : Machine) (nodes : ℕ) (bounds : Bool) (event : Event) (s : SessionState) (records : List Record) (trees : List BoundTree) (s' : SessionState) : Type 0 where
  pub on_whole : (whole : SessionState) → IsWhole machine whole s → HasWholeTurn machine nodes bounds event whole records trees s'
  pub has_text : All IsItem (items_of (entry_of event records trees))

-- the text is that of the event's turn
pub record TellsTurn (machine : Machine) (nodes : ℕ) (bounds : Bool) (event : Event) (s : SessionState) (text : List ℕ) (s' : SessionState) : Type 0 where
  pub records : List Record
  pub trees : List BoundTree
  pub turn : TurnsLive machine nodes bounds event s records trees s'
  pub is_text : text ≡ log_text (items_of (entry_of event records trees))

-- from a state on the lines are answered by a run over their events, and this text is its log's
pub record IsRunOver (machine : Machine) (nodes : ℕ) (bounds : Bool) (start : SessionState) (lines : List (List ℕ)) (text : List ℕ) : Type 0 where
  pub log : List (Entry BoundTree)
  pub last : SessionState
  pub run : IsRunFrom machine nodes bounds start (filter_map line_event lines) log last
  pub is_text : text ≡ run_text log

-- a line is answered by the text of its event's turn
abbrev pub TellsLine : Machine → ℕ → Bool → SessionState → List ℕ → List ℕ → SessionState → Type 0
TellsLine machine nodes bounds = AnswersLine (λ s event. TellsTurn machine nodes bounds event s)

abbrev pub LinesAreLawful : Machine → ℕ → Bool → Type 0
LinesAreLawful machine nodes bounds = (lines : List (List ℕ)) (text : List ℕ) (whole s s' : SessionState) → IsWhole machine whole s
    → AnswersAll (TellsLine machine nodes bounds) s lines text s' → IsRunOver machine nodes bounds whole lines text

-- a planner that looks at schedules through its deeds alone, and whose number of nodes never changes, takes turns on the
-- live part that are turns of right answers on every whole state behind it, with its trees
module _ {P : Type 0} (rules : PlannerRules P) (machine : Machine) where
  abbrev pub TurnsOnWhole : Type 0
  TurnsOnWhole = (nodes : P → ℕ) (bounds : P → Bool) (trees : P → List BoundTree) → AnswersAlone (right_steps rules machine) machine nodes
      → SettlesRightly (right_steps rules machine) machine → KeepsNodes rules machine nodes → ShowsTrees rules machine bounds trees
      → (event : Event) (whole s s' : SessionState) (records : List Record) (p p' : P) → IsWhole machine whole s → trees p ≡ []
      → LiveTurn (right_steps rules machine) machine event s p records s' p'
      → HasWholeTurn machine (nodes p) (bounds p) event whole records (trees p') s' × (nodes p' ≡ nodes p)
