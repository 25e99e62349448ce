-- The turn of one event: its records and the next state.
use Rattle.std.specs.Prelude.{◌≡◌, ℕ, true, false, List, [], ◌∷◌, ◌++◌, length, Some}
use Rattle.std.specs.Option.{MatchOption}
use Rattle.tp_machine.specs.declared.machine.Machine.{Machine}
use Rattle.tp_script.specs.Form.{GroupForm}
use Rattle.tp_script.specs.declared.event.Event.{Event}
use Rattle.tp_script.specs.declared.event.Event.TheVariants.{Bad, Job as NewJob, Clock, Jam, Off, On, Refill}
use Rattle.tp_schedule.specs.declared.records.Record.{Record}
use Rattle.tp_schedule.specs.declared.records.Record.TheVariants.{Refused}
use Rattle.tp_jobs.specs.WaitingCopies.{first_copies, new_job, sheets_of}
use Rattle.tp_machine.specs.ModuleUse.{put_on}
use Rattle.tp_machine.specs.declared.parts.Feeder.{Feeder}
use Rattle.tp_stock.specs.Stock.{feeder_named, more_at}
use Rattle.tp_event_rules.specs.States.{SessionState}
use Rattle.tp_event_rules.specs.Refusals.{refusal, module_of}
use Rattle.tp_event_rules.specs.Clock.{clock_move}
use Rattle.tp_event_rules.specs.Planners.{PlannerSteps, GoesOut}
use Rattle.tp_event_rules.specs.AskPhase.{Asks}

-- the state with a new job, whose copies wait behind all others
abbrev pub with_job : Machine → List ℕ → List ℕ → List ℕ → List GroupForm → SessionState → SessionState
with_job machine name tray media groups s = record s {
  jobs = s.jobs ++ new_job machine name tray groups ∷ [];
  waiting = s.waiting ++ first_copies (length s.jobs) 1 (sheets_of media groups);
}

abbrev pub with_on : ℕ → SessionState → SessionState
with_on m s = record s { outs = put_on s.outs m }

-- the feeder has so many sheets more
abbrev pub with_refill : Feeder → ℕ → SessionState → SessionState
with_refill f count s = record s { refills = more_at f.loc.0 count s.refills }

module _ {P : Type 0} (planner_steps : PlannerSteps P) (machine : Machine) where
  -- the part of an accepted event before the phase of asks
  abbrev pub Begins : Event → SessionState → P → List Record → SessionState → P → Type 0
  Begins Bad s planner records s' planner' = ⊥
  Begins (NewJob name tray media groups) s planner records s' planner' =
      (records ≡ []) × (s' ≡ with_job machine name tray media groups s) × (planner' ≡ planner)
  Begins (Clock to) s planner records s' planner' =
      (records ≡ (clock_move machine to s).records) × (s' ≡ (clock_move machine to s).state) × (planner' ≡ planner)
  Begins (Jam name) s planner records s' planner' =
      (m : ℕ) × (module_of machine name ≡ Some m) × GoesOut planner_steps machine s m true planner records s' planner'
  Begins (Off name) s planner records s' planner' =
      (m : ℕ) × (module_of machine name ≡ Some m) × GoesOut planner_steps machine s m false planner records s' planner'
  Begins (On name) s planner records s' planner' =
      (m : ℕ) × (module_of machine name ≡ Some m) × (records ≡ []) × (s' ≡ with_on m s) × (planner' ≡ planner)
  Begins (Refill name count) s planner records s' planner' =
      (f : Feeder) × (feeder_named machine name ≡ Some f) × (records ≡ []) × (s' ≡ with_refill f count s) × (planner' ≡ planner)

  -- an accepted event: its own part, and then the phase of asks
  pub record Accepts (event : Event) (s : SessionState) (planner : P) (records : List Record) (s' : SessionState) (planner' : P) : Type 0 where
    pub first : List Record
    pub between : SessionState
    pub mid : P
    pub begins : Begins event s planner first between mid
    pub rest : List Record
    pub asks : Asks planner_steps machine between mid rest s' planner'
    pub told : records ≡ first ++ rest

  -- the turn of an event: one that is refused is reported so and changes nothing
  abbrev pub Turn : Event → SessionState → P → List Record → SessionState → P → Type 0
  Turn event s planner records s' planner' = MatchOption (refusal machine s event)
      (Accepts event s planner records s' planner')
      (λ cause. (records ≡ Refused cause ∷ []) × (s' ≡ s) × (planner' ≡ planner))
