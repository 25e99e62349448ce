-- Laws of turns. A law on a planner stands with the call that carries it.
use Rattle.std.specs.Prelude.{◌≡◌, ℕ, ◌≤◌, Bool, true, false, List, [], ◌∷◌, ◌++◌, length, Option, Some, None, Contains, IsTrue, IsFalse}
use Rattle.tp_machine.specs.declared.machine.Machine.{Machine}
use Rattle.tp_script.specs.Form.{GroupForm}
use Rattle.tp_script.specs.declared.event.Event.{Event}
use Rattle.tp_script.specs.declared.event.Event.TheVariants.{Job as NewJob, Jam, Off, Clock}
use Rattle.tp_schedule.specs.LivePlans.{live_count}
use Rattle.tp_schedule.specs.PlannerAnswers.{CanPlanOn, last_tick}
use Rattle.tp_schedule.specs.PlannerAnswers.Deed.{replied}
use Rattle.tp_schedule.specs.declared.parts.Ask.{Ask}
use Rattle.tp_schedule.specs.declared.parts.Plan.{Plan}
use Rattle.tp_schedule.specs.declared.records.Cause.{Cause}
use Rattle.tp_schedule.specs.declared.records.Record.{Record}
use Rattle.tp_schedule.specs.declared.records.Record.TheVariants.{Refused}
use Rattle.tp_stock.specs.Stock.{IsNotOverdrawn}
use Rattle.tp_event_rules.specs.States.{SessionState}
use Rattle.tp_event_rules.specs.AnswerRecords.{Answer}
use Rattle.tp_event_rules.specs.Clock.{clock_move, released_until}
use Rattle.tp_event_rules.specs.FallBacks.{Displaced, fall_back, job_break}
use Rattle.tp_event_rules.specs.Fates.{Fate, befall, is_cut_by}
use Rattle.tp_jobs.specs.JobRefusals.{sheet_count}
use Rattle.tp_event_rules.specs.StateInvariants.{KeepsJobs, KeepsPlans, KeepsLines, KeepsSheets, KeepsState}
use Rattle.tp_event_rules.specs.Loops.{after_one, after_answers, next_ask}
use Rattle.tp_event_rules.specs.Moments.{is_unstarted}
use Rattle.tp_event_rules.specs.Outages.{outage}
use Rattle.tp_event_rules.specs.Planners.{PlannerSteps, AnswersInTurn}
use Rattle.tp_event_rules.specs.Refusals.{job_refusal, refusal}
use Rattle.tp_event_rules.specs.Turns.{Turn, with_job, with_on}

-- one answer more at the end of the loop's list: the state after it, and what is reported
abbrev pub LoopStateGoesOn : Type 0
LoopStateGoesOn = (machine : Machine) (answers : List Answer) (a : Answer) (s : SessionState)
    → (after_answers machine (answers ++ a ∷ []) s).state ≡ (after_one machine (after_answers machine answers s).state a).state

abbrev pub LoopRecordsGoOn : Type 0
LoopRecordsGoOn = (machine : Machine) (answers : List Answer) (a : Answer) (s : SessionState)
    → (after_answers machine (answers ++ a ∷ []) s).records
    ≡ (after_answers machine answers s).records ++ (after_one machine (after_answers machine answers s).state a).records

-- the schedule of the state can be planned on at its moment
abbrev pub IsPlannable : Machine → SessionState → Type 0
IsPlannable machine s = CanPlanOn machine s.now s.plans

-- fates by which only started copies are cut
abbrev pub CutsStarted : (Plan → Fate) → SessionState → Type 0
CutsStarted fate s = (p : Plan) → Contains s.plans p → IsTrue (is_cut_by (fate p)) → IsFalse (is_unstarted s.now p)

-- no stock of the state's machine is overdrawn
abbrev pub IsStocked : Machine → SessionState → Type 0
IsStocked machine s = IsNotOverdrawn machine s.refills s.plans

-- what befalls the copies, a break, a fall-back and an outage leave a schedule that can be planned on, at the same moment
abbrev pub FatesKeepPlanning : Type 0
FatesKeepPlanning = (machine : Machine) (fate : Plan → Fate) (s : SessionState) → CutsStarted fate s → IsPlannable machine s → IsPlannable machine (befall fate s)

abbrev pub BreaksKeepPlanning : Type 0
BreaksKeepPlanning = (machine : Machine) (job : ℕ) (s : SessionState) → IsPlannable machine s → IsPlannable machine (job_break job s).state

abbrev pub FallBacksKeepPlanning : Type 0
FallBacksKeepPlanning = (machine : Machine) (s : SessionState) (d : Displaced) → IsPlannable machine s → IsPlannable machine (fall_back s d).state

abbrev pub OutagesKeepPlanning : Type 0
OutagesKeepPlanning = (machine : Machine) (m : ℕ) (jam : Bool) (s : SessionState) → IsPlannable machine s → IsPlannable machine (outage machine m jam s).state

abbrev pub OutagesKeepMoment : Type 0
OutagesKeepMoment = (machine : Machine) (m : ℕ) (jam : Bool) (s : SessionState) → (outage machine m jam s).state.now ≡ s.now

abbrev pub OutagesKeepLive : Type 0
OutagesKeepLive = (machine : Machine) (m : ℕ) (jam : Bool) (s : SessionState)
    → live_count machine (outage machine m jam s).state.now (outage machine m jam s).state.plans ≤ live_count machine s.now s.plans

-- a move of the clock: the schedule can be planned on at the new moment
abbrev pub ClockKeepsPlanning : Type 0
ClockKeepsPlanning = (machine : Machine) (now to : ℕ) (plans : List Plan) → now ≤ to → to ≤ last_tick
    → CanPlanOn machine now plans → CanPlanOn machine to (released_until machine to plans)

abbrev pub ClockKeepsLines : Type 0
ClockKeepsLines = (machine : Machine) (to : ℕ) (s : SessionState) → KeepsLines s → KeepsLines (clock_move machine to s).state

abbrev pub ClockKeepsSheets : Type 0
ClockKeepsSheets = (machine : Machine) (to : ℕ) (totals : List ℕ) (s : SessionState) → KeepsSheets totals s → KeepsSheets totals (clock_move machine to s).state

abbrev pub ClockKeepsPlans : Type 0
ClockKeepsPlans = (machine : Machine) (to : ℕ) (s : SessionState) → s.now ≤ to → to ≤ last_tick
    → KeepsPlans machine s → KeepsPlans machine (clock_move machine to s).state

-- a new job that is not refused
abbrev pub JobKeepsJobs : Type 0
JobKeepsJobs = (machine : Machine) (name tray media : List ℕ) (groups : List GroupForm) (s : SessionState)
    → job_refusal machine s.jobs (length s.waiting) name tray media groups ≡ None
    → KeepsJobs machine s.jobs → KeepsJobs machine (with_job machine name tray media groups s).jobs

abbrev pub JobKeepsPlans : Type 0
JobKeepsPlans = (machine : Machine) (name tray media : List ℕ) (groups : List GroupForm) (s : SessionState)
    → job_refusal machine s.jobs (length s.waiting) name tray media groups ≡ None
    → KeepsPlans machine s → KeepsPlans machine (with_job machine name tray media groups s)

abbrev pub JobKeepsLines : Type 0
JobKeepsLines = (machine : Machine) (name tray media : List ℕ) (groups : List GroupForm) (s : SessionState)
    → job_refusal machine s.jobs (length s.waiting) name tray media groups ≡ None
    → KeepsLines s → KeepsLines (with_job machine name tray media groups s)

abbrev pub JobKeepsSheets : Type 0
JobKeepsSheets = (machine : Machine) (name tray media : List ℕ) (groups : List GroupForm) (totals : List ℕ) (s : SessionState)
    → KeepsLines s → KeepsSheets totals s → KeepsSheets (totals ++ sheet_count groups ∷ []) (with_job machine name tray media groups s)

-- the events that make a module go out, and those that move the clock
abbrev pub is_outage : Event → Bool
is_outage (Jam name) = true
is_outage (Off name) = true
is_outage _ = false

abbrev pub is_clock : Event → Bool
is_clock (Clock to) = true
is_clock _ = false

-- the totals of sheets after an event: an accepted job has one more
abbrev pub totals_by : Option Cause → Event → List ℕ → List ℕ
totals_by None (NewJob name tray media groups) totals = totals ++ sheet_count groups ∷ []
totals_by _ event totals = totals

abbrev pub totals_after : Machine → SessionState → Event → List ℕ → List ℕ
totals_after machine s event totals = totals_by (refusal machine s event) event totals

-- a module that comes back
abbrev pub OnKeepsPlans : Type 0
OnKeepsPlans = (machine : Machine) (m : ℕ) (s : SessionState) → KeepsPlans machine s → KeepsPlans machine (with_on m s)

abbrev pub OnKeepsLines : Type 0
OnKeepsLines = (machine : Machine) (m : ℕ) (s : SessionState) → KeepsLines s → KeepsLines (with_on m s)

abbrev pub OnKeepsSheets : Type 0
OnKeepsSheets = (m : ℕ) (totals : List ℕ) (s : SessionState) → KeepsSheets totals s → KeepsSheets totals (with_on m s)

-- Laws on a planner, by what is known of its steps.

module _ {P : Type 0} (planner_steps : PlannerSteps P) (machine : Machine) where
  -- one answer more at the end of the loop's list is given to the ask that is due then
  abbrev pub LoopGoesOn : Type 0
  LoopGoesOn = (answers : List Answer) (a : Answer) (ask : Ask) (s : SessionState) (first mid last : P)
      → AnswersInTurn planner_steps machine s answers first mid
      → next_ask machine (after_answers machine answers s).state ≡ Some ask
      → planner_steps.does mid (after_answers machine answers s).state.plans (replied ask a.reply) a.plans last
      → AnswersInTurn planner_steps machine s (answers ++ a ∷ []) first last

  -- a refused event gives the one record of its cause, and nothing changes
  abbrev pub RefusedChangesNothing : Type 0
  RefusedChangesNothing = (event : Event) (s : SessionState) (planner : P) (records : List Record) (s' : SessionState) (planner' : P) (cause : Cause)
      → refusal machine s event ≡ Some cause → Turn planner_steps machine event s planner records s' planner'
      → (records ≡ Refused cause ∷ []) × (s' ≡ s) × (planner' ≡ planner)

  -- a refusal is reported of a refused event alone, with its cause
  abbrev pub RefusalsAreTold : Type 0
  RefusalsAreTold = (event : Event) (s : SessionState) (planner : P) (records : List Record) (s' : SessionState) (planner' : P) (cause : Cause)
      → Turn planner_steps machine event s planner records s' planner' → Contains records (Refused cause) → refusal machine s event ≡ Some cause

  -- what holds before a turn of such an event holds after it
  abbrev pub TurnsKeep : (Event → Type 0) → (SessionState → Type 0) → Type 0
  TurnsKeep Is Keeps = (event : Event) (s : SessionState) (planner : P) (records : List Record) (s' : SessionState) (planner' : P)
      → Is event → Turn planner_steps machine event s planner records s' planner' → Keeps s → Keeps s'

  -- what is kept between events is kept through a turn of such an event, with a total for the sheets of a new job
  abbrev pub TurnsKeepState : (Event → Type 0) → Type 0
  TurnsKeepState Is = (event : Event) (totals : List ℕ) (s : SessionState) (planner : P) (records : List Record) (s' : SessionState) (planner' : P)
      → Is event → Turn planner_steps machine event s planner records s' planner' → KeepsState machine totals s → KeepsState machine (totals_after machine s event totals) s'

-- any event, any but one that makes a module go out, and any but a move of the clock
abbrev pub IsAny : Event → Type 0
IsAny event = Unit {0}

abbrev pub IsNoOutage : Event → Type 0
IsNoOutage event = IsFalse (is_outage event)

abbrev pub IsNoClock : Event → Type 0
IsNoClock event = IsFalse (is_clock event)
