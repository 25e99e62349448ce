-- Events answered one after another, without lines around them.
use Rattle.std.specs.Prelude.{◌≡◌, ℕ, Bool, true, List}
use Rattle.tp_bounds.specs.declared.tree.BoundTree.{BoundTree}
use Rattle.tp_machine.specs.declared.machine.Machine.{Machine}
use Rattle.tp_script.specs.declared.event.Event.{Event}
use Rattle.tp_stream.specs.Takes.{ends_whole}
use Rattle.tp_stream.specs.Tellers.{TellsAll}
use Rattle.tp_event_rules.specs.Logs.{Entry}
use Rattle.tp_event_rules.specs.States.{SessionState, empty_state}
use Rattle.tp_run_laws.specs.Runs.{IsLawfulRun, run_text}
use Rattle.tp_run_laws.specs.Wholes.{TellsTurn}

module _ (machine : Machine) (nodes : ℕ) (bounds : Bool) where
  -- an event is answered by the text of its turn
  abbrev pub TellsEvent : SessionState → Event → List ℕ → SessionState → Type 0
  TellsEvent s event = TellsTurn machine nodes bounds event s

  -- from the empty state the events are answered by a lawful run, and this text is its log's
  pub record IsRunOf (events : List Event) (text : List ℕ) : Type 0 where
    pub log : List (Entry BoundTree)
    pub lawful : IsLawfulRun machine nodes bounds events log
    pub is_text : text ≡ run_text log

  abbrev pub EventsAreLawful : Type 0
  EventsAreLawful = (events : List Event) (text : List ℕ) (s : SessionState) → TellsAll TellsEvent empty_state events text s → IsRunOf events text

  -- each of them is answered by whole lines
  abbrev pub TurnsTellLines : Type 0
  TurnsTellLines = (event : Event) (s s' : SessionState) (text : List ℕ) → TellsEvent s event text s' → ends_whole text ≡ true
