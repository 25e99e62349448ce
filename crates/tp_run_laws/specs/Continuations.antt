-- Runs that go on: from the state that a run before left, or behind the log of the first events.
use Rattle.std.specs.Prelude.{◌≡◌, ℕ, Bool, List, ◌++◌}
use Rattle.std.specs.List.{filter_map}
use Rattle.tp_bounds.specs.declared.tree.BoundTree.{BoundTree}
use Rattle.tp_machine.specs.declared.machine.Machine.{Machine}
use Rattle.tp_script.specs.Lines.{line_event}
use Rattle.tp_script.specs.declared.event.Event.{Event}
use Rattle.tp_stream.specs.Answers.{AnswersAll}
use Rattle.tp_stream.specs.Tellers.{TellsAll}
use Rattle.tp_event_rules.specs.Logs.{Entry}
use Rattle.tp_event_rules.specs.States.{SessionState, empty_state}
use Rattle.tp_run_laws.specs.EventRuns.{TellsEvent}
use Rattle.tp_run_laws.specs.Runs.{IsLawfulRun, IsRunFrom, run_text}
use Rattle.tp_run_laws.specs.Wholes.{IsWhole, TellsLine}

module _ (machine : Machine) (nodes : ℕ) (bounds : Bool) where
  -- from a whole state the events are answered by a run, and this text is its log's. The state that it leaves stands behind this
  -- live one, so that a run can go on from there
  pub record GoesOn (start : SessionState) (events : List Event) (text : List ℕ) (live : SessionState) : Type 0 where
    pub log : List (Entry BoundTree)
    pub last : SessionState
    pub run : IsRunFrom machine nodes bounds start events log last
    pub is_text : text ≡ run_text log
    pub behind : IsWhole machine last live

  -- events that are answered from a live state on are answered by a run from each whole state behind it
  abbrev pub EventsGoOn : Type 0
  EventsGoOn = (events : List Event) (text : List ℕ) (whole s s' : SessionState) → IsWhole machine whole s
      → TellsAll (TellsEvent machine nodes bounds) s events text s' → GoesOn whole events text s'

  -- and so are lines, by a run over their events
  abbrev pub LinesGoOn : Type 0
  LinesGoOn = (lines : List (List ℕ)) (text : List ℕ) (whole s s' : SessionState) → IsWhole machine whole s
      → AnswersAll (TellsLine machine nodes bounds) s lines text s' → GoesOn whole (filter_map line_event lines) text s'

  -- a run, and one from where it ends, are one run
  abbrev pub RunsJoin : Type 0
  RunsJoin = (start mid last : SessionState) (events more : List Event) (log behind : List (Entry BoundTree))
      → IsRunFrom machine nodes bounds start events log mid → IsRunFrom machine nodes bounds mid more behind last → IsRunFrom machine nodes bounds start (events ++ more) (log ++ behind) last

  -- a run from the empty state is lawful
  abbrev pub FirstRunsAreLawful : Type 0
  FirstRunsAreLawful = (events : List Event) (log : List (Entry BoundTree)) (last : SessionState)
      → IsRunFrom machine nodes bounds empty_state events log last → IsLawfulRun machine nodes bounds events log
