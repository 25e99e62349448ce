-- Each record of a turn has a line.
use Rattle.std.specs.Prelude.{List, All}
use Rattle.tp_machine.specs.declared.machine.Machine.{Machine}
use Rattle.tp_log.specs.Records.{IsPrintable}
use Rattle.tp_schedule.specs.declared.records.Record.{Record}
use Rattle.tp_script.specs.declared.event.Event.{Event}
use Rattle.tp_event_rules.specs.Planners.{PlannerSteps}
use Rattle.tp_event_rules.specs.States.{SessionState}
use Rattle.tp_event_rules.specs.Turns.{Turn}
use Rattle.tp_event_turn.specs.Events.{LiveTurn}

module _ {P : Type 0} (planner_steps : PlannerSteps P) (machine : Machine) where
  -- of a turn on a whole state, and of one on a live state
  abbrev pub TurnsHaveLines : Type 0
  TurnsHaveLines = (event : Event) (s : SessionState) (planner : P) (records : List Record) (s' : SessionState) (planner' : P)
      → Turn planner_steps machine event s planner records s' planner' → All IsPrintable records

  abbrev pub LiveTurnsHaveLines : Type 0
  LiveTurnsHaveLines = (event : Event) (s : SessionState) (planner : P) (records : List Record) (s' : SessionState) (planner' : P)
      → LiveTurn planner_steps machine event s planner records s' planner' → All IsPrintable records
