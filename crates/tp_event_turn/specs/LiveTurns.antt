-- A turn on the live part of a state is one on the whole, part by part.
use Rattle.std.specs.Prelude.{◌≡◌, ℕ, ◌≤◌, Bool, List, IsTrue}
use Rattle.tp_machine.specs.declared.machine.Machine.{Machine}
use Rattle.tp_schedule.specs.Answers.{IsLeast, KeepsFloors}
use Rattle.tp_schedule.specs.Legality.{IsLegal}
use Rattle.tp_schedule.specs.PlannerAnswers.{CanPlanOn, IsAnswer, IsSettled, none_exempt}
use Rattle.tp_schedule.specs.PlannerAnswers.Deed.{replied, settled}
use Rattle.tp_schedule.specs.declared.parts.Ask.{Ask}
use Rattle.tp_schedule.specs.declared.parts.Plan.{Plan}
use Rattle.tp_schedule.specs.declared.parts.Reply.{Reply}
use Rattle.tp_schedule.specs.declared.records.Record.{Record}
use Rattle.tp_script.specs.declared.event.Event.{Event}
use Rattle.tp_script.specs.declared.event.Event.TheVariants.{Clock}
use Rattle.tp_outage_laws.specs.Through.{KeepsThrough}
use Rattle.tp_event_rules.specs.AskPhase.{Asks}
use Rattle.tp_event_rules.specs.Clock.{clock_move, clock_records, released_until}
use Rattle.tp_event_rules.specs.StateInvariants.{KeepsLines, live_part}
use Rattle.tp_event_rules.specs.Laws.{IsNoClock, IsNoOutage, IsPlannable, is_outage}
use Rattle.tp_event_rules.specs.Logs.{spent_on_trust}
use Rattle.tp_event_rules.specs.Planners.{GoesOut, IsRight, PlannerSteps}
use Rattle.tp_event_rules.specs.States.{SessionState}
use Rattle.tp_event_rules.specs.Turns.{Turn}
use Rattle.tp_event_turn.specs.Events.{ClockTurn}
use Rattle.tp_event_turn.specs.LiveAnswers.{CanAskLive, IsAnswerOnWhole, IsSettledOnWhole, SpentPassesOn, live_at, spent_of}

-- a move of the clock tells the same of the live part, where each unreleased start is above now + lead
abbrev pub ClockTellsLivePart : Type 0
ClockTellsLivePart = (machine : Machine) (to : ℕ) (s : SessionState) → KeepsFloors machine s.now none_exempt s.plans
    → clock_records machine (live_part machine s) to ≡ clock_records machine s to

-- and it leaves the same live part
abbrev pub ClockLeavesLivePart : Type 0
ClockLeavesLivePart = (machine : Machine) (to : ℕ) (s : SessionState) → s.now ≤ to
    → live_part machine (clock_move machine to (live_part machine s)).state ≡ live_part machine (clock_move machine to s).state

-- a schedule that can be planned on and is least stays least as the clock moves
abbrev pub ClockKeepsLeast : Type 0
ClockKeepsLeast = (machine : Machine) (now to : ℕ) (plans : List Plan) → now ≤ to → CanPlanOn machine now plans → CanPlanOn machine to (released_until machine to plans)
    → IsLeast machine now none_exempt plans → IsLeast machine to none_exempt (released_until machine to plans)

-- whoever gives right answers and settles rightly, of whom nothing else is known
abbrev pub right_deeds : Machine → PlannerSteps (Unit {0})
right_deeds machine = record {
  does = λ p plans deed plans' p'. IsRight spent_on_trust machine plans deed plans';
  stops = λ p plans what p'. ⊥;
}

-- a planner that settles the times of live parts rightly
abbrev pub SettlesRightly : {P : Type 0} → PlannerSteps P → Machine → Type 0
SettlesRightly {P} planner_steps machine = (p p' : P) (plans live : List Plan) (now : ℕ) → IsLegal machine plans → KeepsFloors machine now none_exempt plans
    → planner_steps.does p (live_at machine now plans) (settled now) live p' → IsSettled machine now (live_at machine now plans) live

-- two planners, the one on live parts and the other on whole schedules
module _ {P Q : Type 0} (on_live : PlannerSteps P) (on_whole : PlannerSteps Q) (machine : Machine) where
  -- the second follows the first: each deed of the first on the live part of a schedule is right there, and is one of the second
  -- on the whole. Planners that go together after the deed come from planners that go together before it, so that the second
  -- may know what is still to come
  pub record Follows (together : P → Q → Type 0) (live_spent whole_spent : P → Machine → List Plan → Ask → ℕ → Type 0) : Type 0 where
    pub passes_on : (p : P) → SpentPassesOn (live_spent p) (whole_spent p) machine
    pub right : (p p' : P) (plans live : List Plan) (ask : Ask) (reply : Reply) → CanAskLive machine plans ask
        → on_live.does p (live_at machine ask.now plans) (replied ask reply) live p'
        → IsAnswer (live_spent p) machine (live_at machine ask.now plans) ask reply live
    pub asked : (p p' : P) (q' : Q) (plans live : List Plan) (ask : Ask) (reply : Reply) → CanAskLive machine plans ask
        → on_live.does p (live_at machine ask.now plans) (replied ask reply) live p' → together p' q'
        → (w : IsAnswerOnWhole (whole_spent p) machine plans ask reply live) → (q : Q) × on_whole.does q plans (replied ask reply) w.whole q' × together p q
    pub settles : (p p' : P) (q' : Q) (plans live : List Plan) (now : ℕ) → IsLegal machine plans → KeepsFloors machine now none_exempt plans
        → on_live.does p (live_at machine now plans) (settled now) live p' → together p' q'
        → (w : IsSettledOnWhole machine now plans live) → (q : Q) × on_whole.does q plans (settled now) w.whole q' × together p q

  module _ (together : P → Q → Type 0) where
    -- a module goes out in the whole state as in its live part: outage, loop and settling tell the same, and leave the live part of
    -- what they leave of the whole, whatever planner the second is afterwards
    pub record PassesOutOn (s : SessionState) (m : ℕ) (jam : Bool) (p : P) (records : List Record) (last : SessionState) (p' : P) : Type 0 where
      pub whole : SessionState
      pub live : live_part machine whole ≡ last
      pub plannable : IsPlannable machine whole
      pub right : GoesOut (right_deeds machine) machine s m jam tt records whole tt
      pub back : (q' : Q) → together p' q' → (q : Q) × GoesOut on_whole machine s m jam q records whole q' × together p q

    abbrev pub OutsPassOn : Type 1
    OutsPassOn = (live_spent whole_spent : P → Machine → List Plan → Ask → ℕ → Type 0) (s : SessionState) (m : ℕ) (jam : Bool) (p : P) (records : List Record) (last : SessionState) (p' : P)
        → Follows together live_spent whole_spent → SettlesRightly on_live machine → IsPlannable machine s → KeepsLines s
        → GoesOut on_live machine (live_part machine s) m jam p records last p' → PassesOutOn s m jam p records last p'

    -- a phase of asks on the live part is one on the whole state, with the same records, and its last state is the live part of
    -- the whole one's
    abbrev pub PassesAsksOn : SessionState → P → List Record → SessionState → Q → Type 0
    PassesAsksOn s p records last q' =
        (s' : SessionState) × (((q : Q) × Asks on_whole machine s q records s' q' × together p q) × (live_part machine s' ≡ last))

    abbrev pub AsksPassOn : Type 1
    AsksPassOn = (live_spent whole_spent : P → Machine → List Plan → Ask → ℕ → Type 0) (s : SessionState) (p : P) (records : List Record) (last : SessionState) (p' : P) (q' : Q)
        → Follows together live_spent whole_spent → together p' q' → IsLegal machine s.plans → KeepsFloors machine s.now none_exempt s.plans → KeepsLines s
        → Asks on_live machine (live_part machine s) p records last p' → PassesAsksOn s p records last q'

    -- the whole state has such a turn, and its last state has this live part
    abbrev pub PassesTurnOn : Event → SessionState → P → List Record → SessionState → Q → Type 0
    PassesTurnOn event s p records last q' =
        (s' : SessionState) × (((q : Q) × Turn on_whole machine event s q records s' q' × together p q) × (live_part machine s' ≡ last))

    -- what a call gives on the live part is a turn on the whole state, where the state can be planned on and keeps its lines: of
    -- an event that neither makes a module go out nor moves the clock, and of a move of the clock
    abbrev pub TurnsPassOn : Type 1
    TurnsPassOn = (live_spent whole_spent : P → Machine → List Plan → Ask → ℕ → Type 0) (event : Event) (s : SessionState) (p : P) (records : List Record) (last : SessionState) (p' : P) (q' : Q)
        → Follows together live_spent whole_spent → together p' q' → IsPlannable machine s → KeepsLines s → IsNoOutage event → IsNoClock event
        → Turn on_live machine event (live_part machine s) p records last p' → PassesTurnOn event s p records last q'

    -- and of an event that makes a module go out, where the state is kept through outages
    abbrev pub OutageTurnsPassOn : Type 1
    OutageTurnsPassOn = (live_spent whole_spent : P → Machine → List Plan → Ask → ℕ → Type 0) (event : Event) (s : SessionState) (p : P) (records : List Record) (last : SessionState) (p' : P) (q' : Q)
        → Follows together live_spent whole_spent → SettlesRightly on_live machine → together p' q' → KeepsThrough machine s → IsTrue (is_outage event)
        → Turn on_live machine event (live_part machine s) p records last p' → PassesTurnOn event s p records last q'

    abbrev pub ClockPassesOn : Type 1
    ClockPassesOn = (live_spent whole_spent : P → Machine → List Plan → Ask → ℕ → Type 0) (to : ℕ) (s : SessionState) (p : P) (records : List Record) (last : SessionState) (p' : P) (q' : Q)
        → Follows together live_spent whole_spent → together p' q' → IsPlannable machine s → KeepsLines s
        → ClockTurn on_live machine to (live_part machine s) p records last p' → PassesTurnOn (Clock to) s p records last q'

-- a planner that looks at schedules through its deeds alone, each with its own number of nodes: they are right, and what it does on
-- the live part of a schedule it does on the whole, joined with what is past
module _ {P : Type 0} (planner_steps : PlannerSteps P) (machine : Machine) where
  pub record AnswersAlone (nodes : P → ℕ) : Type 0 where
    pub right : (p p' : P) (plans live : List Plan) (ask : Ask) (reply : Reply) → CanAskLive machine plans ask
        → planner_steps.does p (live_at machine ask.now plans) (replied ask reply) live p' → IsAnswer (spent_of (nodes p)) machine (live_at machine ask.now plans) ask reply live
    pub again : (p p' : P) (plans live : List Plan) (ask : Ask) (reply : Reply) → CanAskLive machine plans ask
        → planner_steps.does p (live_at machine ask.now plans) (replied ask reply) live p' → (w : IsAnswerOnWhole (spent_of (nodes p)) machine plans ask reply live)
        → planner_steps.does p plans (replied ask reply) w.whole p'
    pub settles : (p p' : P) (plans live : List Plan) (now : ℕ) → IsLegal machine plans → KeepsFloors machine now none_exempt plans
        → planner_steps.does p (live_at machine now plans) (settled now) live p' → (w : IsSettledOnWhole machine now plans live)
        → planner_steps.does p plans (settled now) w.whole p'

  abbrev pub LiveAsksHold : Type 0
  LiveAsksHold = (nodes : P → ℕ) (s : SessionState) (p : P) (records : List Record) (last : SessionState) (p' : P)
      → AnswersAlone nodes → IsLegal machine s.plans → KeepsFloors machine s.now none_exempt s.plans → KeepsLines s
      → Asks planner_steps machine (live_part machine s) p records last p'
      → (s' : SessionState) × Asks planner_steps machine s p records s' p' × (live_part machine s' ≡ last)

  abbrev pub HasTurnTo : Event → SessionState → P → List Record → SessionState → P → Type 0
  HasTurnTo event s p records last p' =
      (s' : SessionState) × Turn planner_steps machine event s p records s' p' × (live_part machine s' ≡ last)

  abbrev pub LiveTurnsHold : Type 0
  LiveTurnsHold = (nodes : P → ℕ) (event : Event) (s : SessionState) (p : P) (records : List Record) (last : SessionState) (p' : P)
      → AnswersAlone nodes → IsPlannable machine s → KeepsLines s → IsNoOutage event → IsNoClock event
      → Turn planner_steps machine event (live_part machine s) p records last p' → HasTurnTo event s p records last p'

  -- the same where a module goes out, in a state that is kept through outages
  abbrev pub LiveOutagesHold : Type 0
  LiveOutagesHold = (nodes : P → ℕ) (event : Event) (s : SessionState) (p : P) (records : List Record) (last : SessionState) (p' : P)
      → AnswersAlone nodes → KeepsThrough machine s → IsTrue (is_outage event)
      → Turn planner_steps machine event (live_part machine s) p records last p' → HasTurnTo event s p records last p'

  abbrev pub LiveClockHolds : Type 0
  LiveClockHolds = (nodes : P → ℕ) (to : ℕ) (s : SessionState) (p : P) (records : List Record) (last : SessionState) (p' : P)
      → AnswersAlone nodes → IsPlannable machine s → KeepsLines s
      → ClockTurn planner_steps machine to (live_part machine s) p records last p' → HasTurnTo (Clock to) s p records last p'
