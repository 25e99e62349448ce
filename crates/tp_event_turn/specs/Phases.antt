-- The phase of asks, as calls give it.
use Rattle.std.specs.Prelude.{◌≡◌, Bool, true, false, List, [], ◌∷◌, ◌++◌, IsSomeAnd}
use Rattle.std.specs.Bool.{MatchBool}
use Rattle.tp_machine.specs.declared.machine.Machine.{Machine}
use Rattle.tp_schedule.specs.PlannerAnswers.Deed.{replied}
use Rattle.tp_schedule.specs.declared.parts.Reply.{Reply}
use Rattle.tp_schedule.specs.declared.parts.Reply.TheVariants.{Planned, Never, Spent}
use Rattle.tp_schedule.specs.declared.records.Record.{Record}
use Rattle.tp_schedule.specs.declared.records.Record.TheVariants.{FullUp}
use Rattle.tp_schedule.specs.declared.parts.SheetId.{SheetId}
use Rattle.tp_jobs.specs.WaitingCopies.{find_waiting}
use Rattle.tp_jobs.specs.declared.parts.WaitingCopy.{WaitingCopy}
use Rattle.tp_event_rules.specs.AnswerRecords.{told_of_reply}
use Rattle.tp_event_rules.specs.AskPhase.{Asks, ask_waiting, is_full, state_after_reply}
use Rattle.tp_event_rules.specs.Labels.{label}
use Rattle.tp_event_rules.specs.Planners.{PlannerSteps}
use Rattle.tp_event_rules.specs.States.{SessionState}

abbrev pub is_planned : Reply → Bool
is_planned Planned = true
is_planned Never = false
is_planned (Spent bound) = false

module _ {P : Type 0} (planner_steps : PlannerSteps P) (machine : Machine) where
  -- the copy's turn: where too many copies are live it is reported full; else it is asked, and where it is planned it waits
  -- no more
  abbrev pub IsTried : WaitingCopy → SessionState → P → List Record → Bool → SessionState → P → Type 0
  IsTried w s planner records planned s' planner' = MatchBool (is_full machine s)
      ((records ≡ FullUp (label s.jobs w.sheet) ∷ []) × (planned ≡ false) × (s' ≡ s) × (planner' ≡ planner))
      ((reply : Reply) × planner_steps.does planner s.plans (replied (ask_waiting machine s w) reply) s'.plans planner'
      × (records ≡ told_of_reply machine s.plans (ask_waiting machine s w) reply s'.plans)
      × (planned ≡ is_planned reply) × (s' ≡ state_after_reply s w reply s'.plans))

  -- some notes more are the records of the copy's turn
  abbrev pub NotesTurn : SheetId → SessionState → P → List Record → Bool → SessionState → P → List Record → Type 0
  NotesTurn copy s planner notes planned s' planner' notes' = IsSomeAnd (find_waiting copy s.waiting) (λ w.
      (records : List Record) × (notes' ≡ notes ++ records) × IsTried w s planner records planned s' planner')

  -- some notes more are the records of the phase from the one state to the other
  abbrev pub NotesAsks : SessionState → P → List Record → SessionState → P → List Record → Type 0
  NotesAsks s planner notes s' planner' notes' =
      (records : List Record) × (notes' ≡ notes ++ records) × Asks planner_steps machine s planner records s' planner'
