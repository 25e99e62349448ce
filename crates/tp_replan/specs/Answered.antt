-- The loop, as calls give it.
use Rattle.std.specs.Prelude.{◌≡◌, List, ◌++◌, Some}
use Rattle.tp_machine.specs.declared.machine.Machine.{Machine}
use Rattle.tp_schedule.specs.PlannerAnswers.Deed.{replied}
use Rattle.tp_schedule.specs.declared.parts.Ask.{Ask}
use Rattle.tp_schedule.specs.declared.records.Record.{Record}
use Rattle.tp_event_rules.specs.AnswerRecords.{Answer}
use Rattle.tp_event_rules.specs.Loops.{after_one, after_answers, next_ask}
use Rattle.tp_event_rules.specs.Planners.{AnswersInTurn, GoesOut, PlannerSteps, StopsGoingOut, StopsInLoop}
use Rattle.tp_event_rules.specs.States.{SessionState}
use Rattle.tp_replan.specs.LooseLoop.{CanLoop}
use Rattle.tp_replan.specs.declared.outage.Outage.{Outage}

module _ {P : Type 0} (planner_steps : PlannerSteps P) (machine : Machine) where
  -- the ask that was due was answered, and what the answer leads to was reported and done
  pub record IsAnswered (s : SessionState) (planner : P) (notes : List Record)
      (s' : SessionState) (planner' : P) (notes' : List Record) : Type 0 where
    pub ask : Ask
    pub is_due : next_ask machine s ≡ Some ask
    pub answer : Answer
    pub does : planner_steps.does planner s.plans (replied ask answer.reply) answer.plans planner'
    pub told : notes' ≡ notes ++ (after_one machine s answer).records
    pub state : s' ≡ (after_one machine s answer).state

  -- the first answers of the loop were given, and it can go on
  pub record IsInLoop (s : SessionState) (planner : P) (notes : List Record)
      (s' : SessionState) (planner' : P) (notes' : List Record) : Type 0 where
    pub answers : List Answer
    pub in_turn : AnswersInTurn planner_steps machine s answers planner planner'
    pub told : notes' ≡ notes ++ (after_answers machine answers s).records
    pub state : s' ≡ (after_answers machine answers s).state
    pub can : CanLoop machine s'

  -- some notes more are those of the answers before the planner stopped
  abbrev pub NotesStop : SessionState → P → List Record → P → List Record → Type 0
  NotesStop s planner notes planner' notes' =
      (rest : List Record) × (notes' ≡ notes ++ rest)
      × StopsInLoop planner_steps machine s planner rest planner'

  -- some notes more are those of the module that goes out
  abbrev pub NotesOut : Outage → SessionState → P → List Record → SessionState → P → List Record → Type 0
  NotesOut event s planner notes s' planner' notes' =
      (records : List Record) × (notes' ≡ notes ++ records)
      × GoesOut planner_steps machine s event.module.0 event.jammed planner records s' planner'

  -- the same, up to where the planner stopped
  abbrev pub NotesStoppedOut : Outage → SessionState → P → List Record → P → List Record → Type 0
  NotesStoppedOut event s planner notes planner' notes' =
      (records : List Record) × (notes' ≡ notes ++ records)
      × StopsGoingOut planner_steps machine s event.module.0 event.jammed planner records planner'
