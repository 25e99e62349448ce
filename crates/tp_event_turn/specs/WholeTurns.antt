-- A turn on the whole state is one on its live part, part by part.
use Rattle.std.specs.Prelude.{ℕ, Bool, List}
use Rattle.tp_machine.specs.declared.machine.Machine.{Machine}
use Rattle.tp_schedule.specs.Answers.{KeepsFloors}
use Rattle.tp_schedule.specs.Legality.{IsLegal}
use Rattle.tp_schedule.specs.PlannerAnswers.{IsAnswer, IsSettled, none_exempt}
use Rattle.tp_schedule.specs.PlannerAnswers.Deed.{replied, settled}
use Rattle.tp_schedule.specs.declared.parts.Ask.{Ask}
use Rattle.tp_schedule.specs.declared.parts.Plan.{Plan}
use Rattle.tp_schedule.specs.declared.parts.Reply.{Reply}
use Rattle.tp_schedule.specs.declared.records.Record.{Record}
use Rattle.tp_outage_laws.specs.Through.{KeepsThrough}
use Rattle.tp_event_rules.specs.AskPhase.{Asks}
use Rattle.tp_event_rules.specs.StateInvariants.{KeepsLines, live_part}
use Rattle.tp_event_rules.specs.Laws.{IsNoClock, IsPlannable}
use Rattle.tp_event_rules.specs.Planners.{GoesOut, PlannerSteps}
use Rattle.tp_event_rules.specs.States.{SessionState}
use Rattle.tp_event_rules.specs.Turns.{Turn}
use Rattle.tp_script.specs.declared.event.Event.{Event}
use Rattle.tp_script.specs.declared.event.Event.TheVariants.{Clock}
use Rattle.tp_event_turn.specs.LiveAnswers.{CanAskLive, IsAnswerOnLive, IsSettledOnLive, SpentPassesBack, live_at}
use Rattle.tp_event_turn.specs.LiveTurns.{right_deeds}
use Rattle.tp_event_turn.specs.Events.{ClockTurn}

-- two planners, the one on live parts and the other on whole schedules
module _ {P Q : Type 0} (on_live : PlannerSteps P) (on_whole : PlannerSteps Q) (machine : Machine) where
  -- the first follows the second: each deed of the second on a schedule is right there, and is one of the first on its live part
  pub record FollowsBack (together : P → Q → Type 0) (live_spent whole_spent : Q → Machine → List Plan → Ask → ℕ → Type 0) : Type 0 where
    pub passes_back : (q : Q) → SpentPassesBack (live_spent q) (whole_spent q) machine
    pub right : (q q' : Q) (plans whole : List Plan) (ask : Ask) (reply : Reply) → CanAskLive machine plans ask
        → on_whole.does q plans (replied ask reply) whole q' → IsAnswer (whole_spent q) machine plans ask reply whole
    pub settles_right : (q q' : Q) (plans whole : List Plan) (now : ℕ) → IsLegal machine plans → KeepsFloors machine now none_exempt plans
        → on_whole.does q plans (settled now) whole q' → IsSettled machine now plans whole
    pub asked : (q q' : Q) (p' : P) (plans whole : List Plan) (ask : Ask) (reply : Reply) → CanAskLive machine plans ask
        → on_whole.does q plans (replied ask reply) whole q' → together p' q'
        → IsAnswerOnLive (live_spent q) machine plans ask reply whole
        → (p : P) × on_live.does p (live_at machine ask.now plans) (replied ask reply) (live_at machine ask.now whole) p' × together p q
    pub settles : (q q' : Q) (p' : P) (plans whole : List Plan) (now : ℕ) → IsLegal machine plans → KeepsFloors machine now none_exempt plans
        → on_whole.does q plans (settled now) whole q' → together p' q'
        → IsSettledOnLive machine now plans whole
        → (p : P) × on_live.does p (live_at machine now plans) (settled now) (live_at machine now whole) p' × together p q

  module _ (together : P → Q → Type 0) where
    -- a phase of asks on the whole state is one on its live part, with the same records
    abbrev pub AsksPassBack : Type 1
    AsksPassBack = (live_spent whole_spent : Q → Machine → List Plan → Ask → ℕ → Type 0) (s : SessionState) (q : Q) (records : List Record) (s' : SessionState) (q' : Q) (p' : P)
        → FollowsBack together live_spent whole_spent → together p' q' → IsLegal machine s.plans → KeepsFloors machine s.now none_exempt s.plans → KeepsLines s
        → Asks on_whole machine s q records s' q' → (p : P) × Asks on_live machine (live_part machine s) p records (live_part machine s') p' × together p q

    -- and so is a module that goes out: outage, loop and settling, whatever planner the first is afterwards
    pub record PassesOutBack (s : SessionState) (m : ℕ) (jam : Bool) (q : Q) (records : List Record) (s' : SessionState) (q' : Q) : Type 0 where
      pub plannable : IsPlannable machine s'
      pub right : GoesOut (right_deeds machine) machine s m jam tt records s' tt
      pub back : (p' : P) → together p' q' → (p : P) × GoesOut on_live machine (live_part machine s) m jam p records (live_part machine s') p' × together p q

    abbrev pub OutsPassBack : Type 1
    OutsPassBack = (live_spent whole_spent : Q → Machine → List Plan → Ask → ℕ → Type 0) (s : SessionState) (m : ℕ) (jam : Bool) (q : Q) (records : List Record) (s' : SessionState) (q' : Q)
        → FollowsBack together live_spent whole_spent → IsPlannable machine s → KeepsLines s
        → GoesOut on_whole machine s m jam q records s' q' → PassesOutBack s m jam q records s' q'

    -- a turn of the whole state is one of its live part, but for a move of the clock, which forgets what is past before the phase of
    -- asks
    abbrev pub TurnsPassBack : Type 1
    TurnsPassBack = (live_spent whole_spent : Q → Machine → List Plan → Ask → ℕ → Type 0) (event : Event) (s : SessionState) (q : Q) (records : List Record) (s' : SessionState) (q' : Q) (p' : P)
        → FollowsBack together live_spent whole_spent → together p' q' → KeepsThrough machine s → IsNoClock event
        → Turn on_whole machine event s q records s' q' → (p : P) × Turn on_live machine event (live_part machine s) p records (live_part machine s') p' × together p q

    abbrev pub ClockPassesBack : Type 1
    ClockPassesBack = (live_spent whole_spent : Q → Machine → List Plan → Ask → ℕ → Type 0) (to : ℕ) (s : SessionState) (q : Q) (records : List Record) (s' : SessionState) (q' : Q) (p' : P)
        → FollowsBack together live_spent whole_spent → together p' q' → IsPlannable machine s → KeepsLines s
        → Turn on_whole machine (Clock to) s q records s' q' → (p : P) × ClockTurn on_live machine to (live_part machine s) p records (live_part machine s') p' × together p q

-- a planner that looks at schedules through its deeds alone: what it does on a schedule it does on its live part
module _ {P : Type 0} (planner_steps : PlannerSteps P) (machine : Machine) where
  pub record AnswersBack (spent : P → Machine → List Plan → Ask → ℕ → Type 0) : Type 0 where
    pub passes_back : (p : P) → SpentPassesBack (spent p) (spent p) machine
    pub again : (p p' : P) (plans whole : List Plan) (ask : Ask) (reply : Reply) → CanAskLive machine plans ask
        → planner_steps.does p plans (replied ask reply) whole p' → IsAnswerOnLive (spent p) machine plans ask reply whole
        → planner_steps.does p (live_at machine ask.now plans) (replied ask reply) (live_at machine ask.now whole) p'
    pub settles : (p p' : P) (plans whole : List Plan) (now : ℕ) → IsLegal machine plans → KeepsFloors machine now none_exempt plans
        → planner_steps.does p plans (settled now) whole p' → IsSettledOnLive machine now plans whole
        → planner_steps.does p (live_at machine now plans) (settled now) (live_at machine now whole) p'

  -- its deeds are right
  pub record DoesRight (spent : P → Machine → List Plan → Ask → ℕ → Type 0) : Type 0 where
    pub right : (p p' : P) (plans whole : List Plan) (ask : Ask) (reply : Reply) → planner_steps.does p plans (replied ask reply) whole p' → IsAnswer (spent p) machine plans ask reply whole
    pub settles_right : (p p' : P) (plans whole : List Plan) (now : ℕ) → planner_steps.does p plans (settled now) whole p' → IsSettled machine now plans whole

  abbrev pub WholeTurnsHold : (P → Machine → List Plan → Ask → ℕ → Type 0) → Type 0
  WholeTurnsHold spent = (event : Event) (s : SessionState) (p : P) (records : List Record) (s' : SessionState) (p' : P)
      → AnswersBack spent → KeepsThrough machine s → IsNoClock event
      → Turn planner_steps machine event s p records s' p' → Turn planner_steps machine event (live_part machine s) p records (live_part machine s') p'

  abbrev pub WholeClockHolds : (P → Machine → List Plan → Ask → ℕ → Type 0) → Type 0
  WholeClockHolds spent = (to : ℕ) (s : SessionState) (p : P) (records : List Record) (s' : SessionState) (p' : P)
      → AnswersBack spent → IsPlannable machine s → KeepsLines s
      → Turn planner_steps machine (Clock to) s p records s' p' → ClockTurn planner_steps machine to (live_part machine s) p records (live_part machine s') p'
