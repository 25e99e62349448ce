-- Where the answers of a log's planner stand: the records that tell a plan, a none or a spent budget, and what they mean.
use Rattle.std.specs.Prelude.{◌≡◌, ℕ, Bool, true, false, List, [], ◌∷◌, ◌++◌, filter, flat_map}
use Rattle.tp_machine.specs.declared.machine.Machine.{Machine}
use Rattle.tp_schedule.specs.Answers.{IsAlternative, IsEarliest, IsLeast, follows_front, kept_of}
use Rattle.tp_schedule.specs.PlannerAnswers.{Deed, IsAnswer, IsSettled}
use Rattle.tp_schedule.specs.PlannerAnswers.Deed.{replied, settled}
use Rattle.tp_schedule.specs.Plans.{plan_of}
use Rattle.tp_schedule.specs.declared.parts.Ask.{Ask}
use Rattle.tp_schedule.specs.declared.parts.Plan.{Plan}
use Rattle.tp_schedule.specs.declared.parts.Reply.{Reply}
use Rattle.tp_schedule.specs.declared.parts.Reply.TheVariants.{Planned, Never, Spent}
use Rattle.tp_schedule.specs.declared.records.Record.{Record}
use Rattle.tp_schedule.specs.declared.records.Record.TheVariants.{Plan as TellsPlan, Never as TellsNever, Budget}
use Rattle.tp_event_rules.specs.AnswerRecords.{label_of_asked, told_of_planned}
use Rattle.tp_event_rules.specs.Labels.{goal_name}
use Rattle.tp_event_rules.specs.Logs.{Entry}
use Rattle.tp_event_rules.specs.Planners.{PlannerSteps}
use Rattle.tp_event_rules.specs.States.{SessionState, empty_state}
use Rattle.tp_event_rules.specs.Turns.{Turn}

-- an answer that was given: the schedule that was asked, the ask, the reply, and the schedule after it
pub record Given : Type 0 where
  pub plans : List Plan
  pub ask : Ask
  pub reply : Reply
  pub after : List Plan

-- the record that tells of the answer, beside the plans that moved
abbrev pub told_of_given : Machine → Ask → Reply → List Plan → List Record
told_of_given machine ask Planned after = told_of_planned machine (kept_of ask) (plan_of ask.sheet after)
told_of_given machine ask Never after = TellsNever (label_of_asked ask) (goal_name machine ask.goal) ∷ []
told_of_given machine ask (Spent bound) after = Budget (label_of_asked ask) (goal_name machine ask.goal) bound ∷ []

abbrev pub told_by : Machine → Given → List Record
told_by machine g = told_of_given machine g.ask g.reply g.after

abbrev pub is_answer : Record → Bool
is_answer (TellsPlan copy place points acts) = true
is_answer (TellsNever copy goal) = true
is_answer (Budget copy goal bound) = true
is_answer _ = false

module _ (spent : Machine → List Plan → Ask → ℕ → Type 0) (machine : Machine) where
  -- the next answer is this one, and it is right; or the times are settled rightly
  abbrev pub GivesNext : List Given → List Plan → Deed → List Plan → List Given → Type 0
  GivesNext given plans (replied ask reply) after given' =
      (given ≡ record { plans = plans; ask = ask; reply = reply; after = after } ∷ given') × IsAnswer spent machine plans ask reply after
  GivesNext given plans (settled now) after given' = (given ≡ given') × IsSettled machine now plans after

  -- whoever gives these answers, one after another
  abbrev pub given_answers : PlannerSteps (List Given)
  given_answers = record {
    does = GivesNext;
    stops = λ given plans what given'. ⊥;
  }

  -- from the state on, these answers lead through the log to the last state
  abbrev pub Answers : {T : Type 0} → SessionState → List (Entry T) → List Given → SessionState → Type 0
  Answers s [] given s' = (given ≡ []) × (s' ≡ s)
  Answers s (entry ∷ log) given s' =
      (mid : SessionState) × ((rest : List Given) × Turn given_answers machine entry.event s given entry.records mid rest × Answers mid log rest s')

  -- the answer is given behind these records of the log, whose answers are the first ones
  pub record StandsBehind {T : Type 0} (log : List (Entry T)) (last : SessionState) (before : List Record) (g : Given) : Type 0 where
    pub first : List Given
    pub later : List Given
    pub answers : Answers empty_state log (first ++ g ∷ later) last
    pub told : filter is_answer before ≡ flat_map (told_by machine) first

  -- a plan: the schedule after it ends the asked copy first among all alternatives, and is least
  pub record IsEarliestThere {T : Type 0} (log : List (Entry T)) (last : SessionState) (before : List Record) (r : Record) : Type 0 where
    pub plans : List Plan
    pub ask : Ask
    pub after : List Plan
    pub stands : StandsBehind log last before (record { plans = plans; ask = ask; reply = Planned; after = after })
    pub is : told_of_planned machine (kept_of ask) (plan_of ask.sheet after) ≡ r ∷ []
    pub earliest : IsEarliest machine plans ask after
    pub least : IsLeast machine ask.now (follows_front ask) after

  -- a none: there is no alternative by the horizon
  pub record IsNoneThere {T : Type 0} (log : List (Entry T)) (last : SessionState) (before : List Record) (r : Record) : Type 0 where
    pub plans : List Plan
    pub ask : Ask
    pub after : List Plan
    pub stands : StandsBehind log last before (record { plans = plans; ask = ask; reply = Never; after = after })
    pub is : TellsNever (label_of_asked ask) (goal_name machine ask.goal) ≡ r
    pub stays : after ≡ plans
    pub none : (other : List Plan) → ¬ IsAlternative machine plans ask other

  -- a budget: what the planner means by a spent one
  pub record IsSpentThere {T : Type 0} (log : List (Entry T)) (last : SessionState) (before : List Record) (r : Record) : Type 0 where
    pub plans : List Plan
    pub ask : Ask
    pub bound : ℕ
    pub after : List Plan
    pub stands : StandsBehind log last before (record { plans = plans; ask = ask; reply = Spent bound; after = after })
    pub is : Budget (label_of_asked ask) (goal_name machine ask.goal) bound ≡ r
    pub stays : after ≡ plans
    pub means : spent machine plans ask bound
