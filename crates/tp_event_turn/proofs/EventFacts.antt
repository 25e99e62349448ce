-- The turns of jobs and of modules that come back: a refused one changes nothing, and an accepted one leads on to the phase of asks.
use Rattle.std.proofs.Common.{◌≡◌, ℕ, List, [], ◌∷◌, ◌++◌, Option, Some, None, refl, sym, ap, ◌∙◌, subst, option_and_then, inr}
use Rattle.std.specs.Option.{MatchOption}
use Rattle.std.specs.Prelude.{IsSomeAnd, Err}
use Rattle.tp_machine.specs.declared.machine.Machine.{Machine}
use Rattle.tp_schedule.specs.declared.records.Cause.{Cause}
use Rattle.tp_schedule.specs.declared.records.Record.{Record}
use Rattle.tp_schedule.specs.declared.records.Record.TheVariants.{Refused}
use Rattle.tp_script.specs.Form.{GroupForm}
use Rattle.tp_script.specs.declared.event.Event.{Event}
use Rattle.tp_jobs.specs.Backlogs.{Backlog, Kept}
use Rattle.tp_jobs.specs.JobRefusals.{job_fault, refusal_in}
use Rattle.tp_jobs.specs.WaitingCopies.{new_job, sheets_of, with_job as lines_with_job}
use Rattle.tp_jobs.specs.declared.fault.JobFault.{JobFault}
use Rattle.tp_jobs.specs.declared.fault.JobFault.TheVariants.{Memory, UnknownTray, UnknownMedia, TwiceNamed, TooManyWaiting}
use Rattle.tp_jobs.specs.declared.parts.Job.{Job}
use Rattle.tp_event_rules.specs.Planners.{PlannerSteps}
use Rattle.tp_event_rules.specs.Refusals.{job_cause, job_refusal, refusal}
use Rattle.tp_event_rules.specs.States.{SessionState}
use Rattle.tp_event_rules.specs.Turns.{Accepts, Begins, Turn, with_job}
use Rattle.tp_event_turn.specs.Stops.{NotesStop, StopsTurn}
use Rattle.tp_event_turn.specs.Phases.{NotesAsks}

-- the cause that a fault of the lines is
fault-cause : (fault : JobFault) → option_and_then job_cause (refusal_in {X = ℕ} (Err fault)) ≡ job_cause fault
fault-cause Memory = refl
fault-cause (UnknownTray name) = refl
fault-cause (UnknownMedia name) = refl
fault-cause (TwiceNamed name) = refl
fault-cause (TooManyWaiting waiting asked) = refl

-- where the lines refuse a job, so does its turn
module _ (machine : Machine) (jobs : List Job) (waiting : ℕ) (name tray media : List ℕ) (groups : List GroupForm) where
  pub refused-by : (fault : JobFault) (cause : Cause) → refusal_in {X = ℕ} (Err fault) ≡ job_fault machine jobs waiting name tray media groups
      → job_cause fault ≡ Some cause → job_refusal machine jobs waiting name tray media groups ≡ Some cause
  refused-by fault cause e is = ap (option_and_then job_cause) (sym e) ∙ fault-cause fault ∙ is

  pub accepted-by : None ≡ job_fault machine jobs waiting name tray media groups → job_refusal machine jobs waiting name tray media groups ≡ None
  accepted-by e = ap (option_and_then job_cause) (sym e)

-- the lines with a new job, as they are seen
pub seen-added : (machine : Machine) (s : SessionState) (kept : Kept) (name tray media : List ℕ) (groups : List GroupForm) (lines' : Backlog)
    → lines' ≡ lines_with_job (new_job machine name tray groups) (sheets_of media groups) (record { jobs = s.jobs; waiting = s.waiting; kept = kept })
    → record s { jobs = lines'.jobs; waiting = lines'.waiting } ≡ with_job machine name tray media groups s
seen-added machine s kept name tray media groups lines' added = ap (λ (l : Backlog). record s { jobs = l.jobs; waiting = l.waiting }) added

module _ {P : Type 0} (steps : PlannerSteps P) (machine : Machine) (event : Event) (s : SessionState) (p : P) (notes notes' : List Record) where
  -- some notes more are the records of the turn, or those before the stop
  abbrev NotesWhole : SessionState → P → Type 0
  NotesWhole s' p' = (records : List Record) × (notes' ≡ notes ++ records) × Turn steps machine event s p records s' p'

  abbrev NotesHalt : P → Type 0
  NotesHalt p' = (records : List Record) × (notes' ≡ notes ++ records) × StopsTurn steps machine event s p records p'

  -- a refused event is reported so
  pub refused-event : (o : Option Cause) → ((cause : Cause) → o ≡ Some cause → refusal machine s event ≡ Some cause) → IsSomeAnd o (λ cause. notes' ≡ notes ++ Refused cause ∷ [])
      → (s' : SessionState) → s' ≡ s → NotesWhole s' p
  refused-event None is none s' same = absurd none
  refused-event (Some cause) is told s' same = (
    Refused cause ∷ [],
    told,
    subst (λ o. MatchOption o (Accepts steps machine event s p (Refused cause ∷ []) s' p) (λ c. (Refused cause ∷ [] ≡ Refused c ∷ []) × (s' ≡ s) × (p ≡ p))) (sym (is cause refl)) (refl, same, refl),
  )

  -- an accepted event that tells nothing itself is followed by the phase of asks
  pub accepted-event : refusal machine s event ≡ None → (mid s' : SessionState) (p' : P) → Begins steps machine event s p [] mid p → NotesAsks steps machine mid p notes s' p' notes' → NotesWhole s' p'
  accepted-event accepted mid s' p' begins (records, told, asks) = (
    records,
    told,
    subst (λ o. MatchOption o (Accepts steps machine event s p records s' p') (λ c. (records ≡ Refused c ∷ []) × (s' ≡ s) × (p' ≡ p))) (sym accepted)
        (record { first = []; between = mid; mid = p; begins = begins; rest = records; asks = asks; told = refl }),
  )

  -- the planner stopped in the phase of asks that follows it
  pub stopped-event : refusal machine s event ≡ None → (mid : SessionState) (p' : P) → Begins steps machine event s p [] mid p → NotesStop steps machine mid p notes p' notes' → NotesHalt p'
  stopped-event accepted mid p' begins (records, told, stops) =
      (records, told, (accepted, inr (record { first = []; between = mid; mid = p; begins = begins; rest = records; stops = stops; told = refl })))
