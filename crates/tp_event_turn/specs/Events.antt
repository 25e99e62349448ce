-- The turns of events, as calls give them.
use Rattle.std.specs.Prelude.{◌≡◌, List, ◌++◌, ℕ, ◌+◌, [], ◌∷◌}
use Rattle.std.specs.Option.{MatchOption}
use Rattle.tp_machine.specs.declared.machine.Machine.{Machine}
use Rattle.tp_schedule.specs.declared.records.Record.{Record}
use Rattle.tp_schedule.specs.declared.records.Record.TheVariants.{Refused}
use Rattle.tp_script.specs.declared.event.Event.{Event}
use Rattle.tp_script.specs.declared.event.Event.TheVariants.{Clock}
use Rattle.tp_event_rules.specs.AskPhase.{Asks}
use Rattle.tp_event_rules.specs.Clock.{clock_move}
use Rattle.tp_event_rules.specs.StateInvariants.{live_part}
use Rattle.tp_event_rules.specs.Planners.{PlannerSteps}
use Rattle.tp_event_rules.specs.Refusals.{clock_refusal}
use Rattle.tp_event_rules.specs.States.{SessionState}
use Rattle.tp_event_rules.specs.Turns.{Turn}
use Rattle.tp_event_rules.specs.Ready.{KeepsLive, KeepsStock}

module _ {P : Type 0} (planner_steps : PlannerSteps P) (machine : Machine) where
  -- the clock moves: its records, and then those of the phase of asks on what is still live
  pub record MovesClock (to : ℕ) (s : SessionState) (planner : P) (records : List Record) (s' : SessionState) (planner' : P) : Type 0 where
    pub rest : List Record
    pub asks : Asks planner_steps machine (live_part machine (clock_move machine to s).state) planner rest s' planner'
    pub told : records ≡ (clock_move machine to s).records ++ rest

  -- a move of the clock that is refused is reported so and changes nothing
  abbrev pub ClockTurn : ℕ → SessionState → P → List Record → SessionState → P → Type 0
  ClockTurn to s planner records s' planner' = MatchOption (clock_refusal s.now to)
      (MovesClock to s planner records s' planner')
      (λ cause. (records ≡ Refused cause ∷ []) × (s' ≡ s) × (planner' ≡ planner))

  -- the turn of an event where plans that are not live any more are forgotten as the clock moves
  abbrev pub LiveTurn : Event → SessionState → P → List Record → SessionState → P → Type 0
  LiveTurn (Clock to) s planner records s' planner' = ClockTurn to s planner records s' planner'
  LiveTurn event s planner records s' planner' = Turn planner_steps machine event s planner records s' planner'

  -- some notes more are the records of the event's turn from the one state to the other
  abbrev pub NotesEvent : Event → SessionState → P → List Record → SessionState → P → List Record → Type 0
  NotesEvent event s planner notes s' planner' notes' =
      (records : List Record) × (notes' ≡ notes ++ records) × LiveTurn event s planner records s' planner'

  -- the stock of a live state stays kept
  abbrev pub KeepsStockInTurns : Type 0
  KeepsStockInTurns = (copies events : ℕ) (event : Event) (s : SessionState) (planner : P) (records : List Record) (s' : SessionState) (planner' : P)
      → KeepsLive machine copies s → LiveTurn event s planner records s' planner' → KeepsStock machine events s → KeepsStock machine (events + 1) s'
