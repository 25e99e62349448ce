-- The loop and the settling, over any planner. A planner is known by a relation: how its deeds lead it on, and how it stops.
use Rattle.std.specs.Prelude.{◌≡◌, ℕ, Bool, List, [], ◌∷◌, ◌++◌, Some, None}
use Rattle.tp_machine.specs.declared.machine.Machine.{Machine}
use Rattle.tp_schedule.specs.PlannerAnswers.{Deed, Due, IsAnswer, IsSettled, PlannerRules}
use Rattle.tp_schedule.specs.PlannerAnswers.Deed.{replied, settled}
use Rattle.tp_schedule.specs.declared.parts.Ask.{Ask}
use Rattle.tp_schedule.specs.declared.parts.Plan.{Plan}
use Rattle.tp_schedule.specs.declared.records.Record.{Record}
use Rattle.tp_event_rules.specs.States.{SessionState}
use Rattle.tp_event_rules.specs.AnswerRecords.{Answer, moves}
use Rattle.tp_event_rules.specs.Outages.{outage}
use Rattle.tp_event_rules.specs.Loops.{next_ask, due, after_one, after_answers}

-- what is known of a planner: how a deed, with the schedules before and after it, leads on to the next planner; and how
-- it stops where this is due on the schedule
pub record PlannerSteps (P : Type 0) : Type 1 where
  pub does : P → List Plan → Deed → List Plan → P → Type 0
  pub stops : P → List Plan → Due → P → Type 0

-- a deed is right: an answer that means what it says, or a settling
abbrev pub IsRight : (Machine → List Plan → Ask → ℕ → Type 0) → Machine → List Plan → Deed → List Plan → Type 0
IsRight spent machine plans (replied ask reply) plans' = IsAnswer spent machine plans ask reply plans'
IsRight spent machine plans (settled now) plans' = IsSettled machine now plans plans'

-- a planner whose deeds are right by its own relation for a spent budget, and which keeps its own steps
abbrev pub right_steps : {P : Type 0} → PlannerRules P → Machine → PlannerSteps P
right_steps rules machine = record {
  does = λ p plans deed plans' p'. IsRight (rules.spent p) machine plans deed plans' × rules.steps p machine plans deed plans' p';
  stops = λ p plans what p'. rules.stop_steps p machine plans what p';
}

module _ {P : Type 0} (planner_steps : PlannerSteps P) (machine : Machine) where
  -- each answer is given to the ask that is due, and takes the planner on
  abbrev pub AnswersInTurn : SessionState → List Answer → P → P → Type 0
  AnswersInTurn s [] planner planner' = planner' ≡ planner
  AnswersInTurn s (a ∷ answers) planner planner' =
      (ask : Ask) × (next_ask machine s ≡ Some ask)
      × ((mid : P) × planner_steps.does planner s.plans (replied ask a.reply) a.plans mid
      × AnswersInTurn (after_one machine s a).state answers mid planner')

  -- from the state on, the loop and the settling tell these records and lead to the next state
  pub record RunsLoop (s : SessionState) (planner : P) (records : List Record) (s' : SessionState) (planner' : P) : Type 0 where
    pub answers : List Answer
    pub mid : P
    pub in_turn : AnswersInTurn s answers planner mid
    pub none_loose : next_ask machine (after_answers machine answers s).state ≡ None
    pub plans : List Plan
    pub settles : planner_steps.does mid (after_answers machine answers s).state.plans (settled s.now) plans planner'
    pub told : records ≡ (after_answers machine answers s).records ++ moves (after_answers machine answers s).state.plans plans
    pub state : s' ≡ record (after_answers machine answers s).state { plans = plans }

  -- the first answers were given, and then the planner stopped where an ask or the settling was due
  pub record StopsInLoop (s : SessionState) (planner : P) (records : List Record) (planner' : P) : Type 0 where
    pub answers : List Answer
    pub mid : P
    pub in_turn : AnswersInTurn s answers planner mid
    pub stops : planner_steps.stops mid (after_answers machine answers s).state.plans (due machine (after_answers machine answers s).state) planner'
    pub told : records ≡ (after_answers machine answers s).records

  -- a module goes out: the outage, the loop, the settling
  pub record GoesOut (s : SessionState) (m : ℕ) (jam : Bool) (planner : P) (records : List Record) (s' : SessionState) (planner' : P) : Type 0 where
    pub rest : List Record
    pub told : records ≡ (outage machine m jam s).records ++ rest
    pub loop : RunsLoop (outage machine m jam s).state planner rest s' planner'

  pub record StopsGoingOut (s : SessionState) (m : ℕ) (jam : Bool) (planner : P) (records : List Record) (planner' : P) : Type 0 where
    pub rest : List Record
    pub told : records ≡ (outage machine m jam s).records ++ rest
    pub loop : StopsInLoop (outage machine m jam s).state planner rest planner'
