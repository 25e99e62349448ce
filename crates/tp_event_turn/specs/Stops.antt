-- Where a planner stops: in a phase of asks, and in the turn of an event.
use Rattle.std.specs.Prelude.{◌≡◌, ℕ, ◌⊎◌, true, false, List, [], ◌∷◌, ◌++◌, IsSomeAnd, None, Some}
use Rattle.std.specs.Bool.{MatchBool}
use Rattle.tp_machine.specs.declared.machine.Machine.{Machine}
use Rattle.tp_schedule.specs.PlannerAnswers.Deed.{replied}
use Rattle.tp_schedule.specs.PlannerAnswers.Due.{asking}
use Rattle.tp_schedule.specs.declared.parts.Plan.{Plan}
use Rattle.tp_schedule.specs.declared.parts.Reply.{Reply}
use Rattle.tp_schedule.specs.declared.parts.SheetId.{SheetId}
use Rattle.tp_schedule.specs.declared.records.Record.{Record}
use Rattle.tp_schedule.specs.declared.records.Record.TheVariants.{FullUp}
use Rattle.tp_script.specs.declared.event.Event.{Event}
use Rattle.tp_script.specs.declared.event.Event.TheVariants.{Bad, Job as NewJob, Clock, Jam, Off, On, Refill}
use Rattle.tp_jobs.specs.Backlogs.{tray_of}
use Rattle.tp_jobs.specs.WaitingCopies.{find_waiting}
use Rattle.tp_jobs.specs.declared.parts.WaitingCopy.{WaitingCopy}
use Rattle.tp_event_rules.specs.AnswerRecords.{told_of_reply}
use Rattle.tp_event_rules.specs.AskPhase.{ask_waiting, is_full, is_passed_over, passed_after, state_after_reply}
use Rattle.tp_event_rules.specs.Clock.{clock_move}
use Rattle.tp_event_rules.specs.StateInvariants.{live_part}
use Rattle.tp_event_rules.specs.Labels.{label}
use Rattle.tp_event_rules.specs.Planners.{PlannerSteps, StopsGoingOut}
use Rattle.tp_event_rules.specs.Refusals.{clock_refusal, module_of, refusal}
use Rattle.tp_event_rules.specs.States.{SessionState}
use Rattle.tp_event_rules.specs.Turns.{Begins}

module _ {P : Type 0} (planner_steps : PlannerSteps P) (machine : Machine) where
  -- the first copies had their turns, and then the planner stopped where a copy was asked
  abbrev pub StopsInTurn : List WaitingCopy → List ℕ → SessionState → P → List Record → P → Type 0
  StopsInTurn [] passed s planner records planner' = ⊥
  StopsInTurn (w ∷ waiting) passed s planner records planner' =
      MatchBool (is_passed_over s passed w)
      (StopsInTurn waiting passed s planner records planner')
      (MatchBool (is_full machine s)
      ((rest : List Record) × (records ≡ FullUp (label s.jobs w.sheet) ∷ rest)
      × StopsInTurn waiting ((tray_of s.jobs w.sheet).0 ∷ passed) s planner rest planner')
      (((records ≡ []) × planner_steps.stops planner s.plans (asking (ask_waiting machine s w)) planner')
      ⊎ ((reply : Reply) × ((plans : List Plan) × ((mid : P) × ((rest : List Record)
      × planner_steps.does planner s.plans (replied (ask_waiting machine s w) reply) plans mid
      × (records ≡ told_of_reply machine s.plans (ask_waiting machine s w) reply plans ++ rest)
      × StopsInTurn waiting (passed_after reply (tray_of s.jobs w.sheet).0 passed) (state_after_reply s w reply plans) mid rest planner'))))))

  abbrev pub StopsAsks : SessionState → P → List Record → P → Type 0
  StopsAsks s = StopsInTurn s.waiting [] s

  -- the planner stopped as the copy was asked, and nothing was noted of it
  abbrev pub StopsAtCopy : SheetId → SessionState → P → List Record → P → List Record → Type 0
  StopsAtCopy copy s planner notes planner' notes' = IsSomeAnd (find_waiting copy s.waiting) (λ w.
      (notes' ≡ notes) × (is_full machine s ≡ false) × planner_steps.stops planner s.plans (asking (ask_waiting machine s w)) planner')

  -- some notes more are the records before the stop
  abbrev pub NotesStop : SessionState → P → List Record → P → List Record → Type 0
  NotesStop s planner notes planner' notes' = (records : List Record) × (notes' ≡ notes ++ records) × StopsAsks s planner records planner'

  -- the part of the event before the phase of asks, as a module goes out
  abbrev pub StopsBeginning : Event → SessionState → P → List Record → P → Type 0
  StopsBeginning Bad s planner records planner' = ⊥
  StopsBeginning (NewJob name tray media groups) s planner records planner' = ⊥
  StopsBeginning (Clock to) s planner records planner' = ⊥
  StopsBeginning (Jam name) s planner records planner' = (m : ℕ) × (module_of machine name ≡ Some m) × StopsGoingOut planner_steps machine s m true planner records planner'
  StopsBeginning (Off name) s planner records planner' = (m : ℕ) × (module_of machine name ≡ Some m) × StopsGoingOut planner_steps machine s m false planner records planner'
  StopsBeginning (On name) s planner records planner' = ⊥
  StopsBeginning (Refill name count) s planner records planner' = ⊥

  -- the part of the event was done, and then the planner stopped in the phase of asks
  pub record StopsAfter (event : Event) (s : SessionState) (planner : P) (records : List Record) (planner' : P) : Type 0 where
    pub first : List Record
    pub between : SessionState
    pub mid : P
    pub begins : Begins planner_steps machine event s planner first between mid
    pub rest : List Record
    pub stops : StopsAsks between mid rest planner'
    pub told : records ≡ first ++ rest

  -- the planner stopped in the turn of an accepted event
  abbrev pub StopsTurn : Event → SessionState → P → List Record → P → Type 0
  StopsTurn event s planner records planner' = (refusal machine s event ≡ None) × (StopsBeginning event s planner records planner' ⊎ StopsAfter event s planner records planner')

  -- the clock moved, and then the planner stopped in the phase of asks on what is still live
  pub record StopsClock (to : ℕ) (s : SessionState) (planner : P) (records : List Record) (planner' : P) : Type 0 where
    pub accepted : clock_refusal s.now to ≡ None
    pub rest : List Record
    pub stops : StopsAsks (live_part machine (clock_move machine to s).state) planner rest planner'
    pub told : records ≡ (clock_move machine to s).records ++ rest

  -- the planner stopped in the turn of an event where plans that are not live any more are forgotten as the clock moves
  abbrev pub LiveStop : Event → SessionState → P → List Record → P → Type 0
  LiveStop (Clock to) s planner records planner' = StopsClock to s planner records planner'
  LiveStop event s planner records planner' = StopsTurn event s planner records planner'

  -- some notes more are the records before the stop
  abbrev pub NotesEventStop : Event → SessionState → P → List Record → P → List Record → Type 0
  NotesEventStop event s planner notes planner' notes' =
      (records : List Record) × (notes' ≡ notes ++ records) × LiveStop event s planner records planner'
