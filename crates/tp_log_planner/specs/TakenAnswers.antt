-- How the items of an answer are taken: the first of them is no aside.
use Rattle.std.specs.Prelude.{◌≡◌, ℕ, ◌≤◌, List, ◌∷◌, drop, length}
use Rattle.tp_log.specs.declared.item.Item.{Item}
use Rattle.tp_log.specs.declared.item.Item.TheVariants.{Note}
use Rattle.tp_machine.specs.declared.machine.Machine.{Machine}
use Rattle.tp_schedule.specs.PlannerAnswers.{IsAnswer}
use Rattle.tp_schedule.specs.Plans.{AreNamed}
use Rattle.tp_schedule.specs.declared.parts.Ask.{Ask}
use Rattle.tp_schedule.specs.declared.parts.Plan.{Plan}
use Rattle.tp_schedule.specs.declared.parts.Reply.{Reply}
use Rattle.tp_schedule.specs.declared.parts.Reply.TheVariants.{Planned}
use Rattle.tp_schedule.specs.declared.records.Record.TheVariants.{Plan as TellsPlan}
use Rattle.tp_event_rules.specs.AnswerRecords.{label_of_asked}
use Rattle.tp_event_rules.specs.Logs.{spent_on_trust}
use Rattle.tp_log_planner.specs.ToldPlans.{IsOnlyPlan}
use Rattle.tp_log_planner.specs.ToldAnswers.{Tells, TellsSettled}

-- the first item tells this plan
pub record IsFirstPlan (machine : Machine) (plans : List Plan) (ask : Ask) (items : List Item) (p : Plan) : Type 0 where
  pub place : List ℕ
  pub points : List ℕ
  pub names : List (List ℕ)
  pub later : List Item
  pub is : items ≡ Note (TellsPlan (label_of_asked ask) place points names) ∷ later
  pub only : IsOnlyPlan machine plans ask (TellsPlan (label_of_asked ask) place points names) p

-- the items tell a plan
abbrev pub DoTellPlan : Machine → List Plan → Ask → List Item → Type 0
DoTellPlan machine plans ask items = (plans' : List Plan) × ((rest : List Item) × Tells machine plans ask items Planned plans' rest)

-- so many of the items tell this answer, and they tell no other. It is right
pub record TakesAnswer (machine : Machine) (plans : List Plan) (ask : Ask) (items : List Item) (reply : Reply) (plans' : List Plan) (taken : ℕ) : Type 0 where
  pub within : taken ≤ length items
  pub told : Tells machine plans ask items reply plans' (drop taken items)
  pub only : (reply' : Reply) (others : List Plan) (rest : List Item) → Tells machine plans ask items reply' others rest → (reply' ≡ reply) × (others ≡ plans') × (rest ≡ drop taken items)
  pub answer : IsAnswer spent_on_trust machine plans ask reply plans'

-- so many of them tell that the times are settled so, and where plans of different jobs have different names, this alone
pub record TakesSettled (machine : Machine) (plans : List Plan) (now : ℕ) (items : List Item) (plans' : List Plan) (taken : ℕ) : Type 0 where
  pub within : taken ≤ length items
  pub told : TellsSettled machine plans now items plans' (drop taken items)
  pub only : AreNamed plans → (others : List Plan) (rest : List Item) → TellsSettled machine plans now items others rest → (others ≡ plans') × (rest ≡ drop taken items)

-- they tell settled times of plans whose jobs have different names
abbrev pub DoTellSettled : Machine → List Plan → ℕ → List Item → Type 0
DoTellSettled machine plans now items = AreNamed plans × ((plans' : List Plan) × ((rest : List Item) × TellsSettled machine plans now items plans' rest))
