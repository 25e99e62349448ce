-- Right answers and settled times on the live part of a schedule are those on the whole, and back.
use Rattle.std.specs.Prelude.{◌≡◌, ℕ, not, List, filter, Contains, IsTrue, IsFalse}
use Rattle.tp_machine.specs.declared.machine.Machine.{Machine}
use Rattle.tp_schedule.specs.Answers.{IsAsked, KeepsFloors}
use Rattle.tp_schedule.specs.Legality.{IsLegal}
use Rattle.tp_schedule.specs.LivePlans.{is_live}
use Rattle.tp_schedule.specs.PlannerAnswers.{IsAnswer, IsSettled, none_exempt}
use Rattle.tp_schedule.specs.Plans.{goes_to, is_before, is_delivered_to}
use Rattle.tp_schedule.specs.SpentBudget.{IsSpent}
use Rattle.tp_schedule.specs.declared.parts.Ask.{Ask}
use Rattle.tp_schedule.specs.declared.parts.Plan.{Plan}
use Rattle.tp_schedule.specs.declared.parts.Reply.{Reply}
use Rattle.tp_choices.specs.LiveParts.{EndsAhead}
use Rattle.tp_event_rules.specs.AnswerRecords.{moves, told_of_reply}

-- the plans that are live at the moment, and the others
abbrev pub live_at : Machine → ℕ → List Plan → List Plan
live_at machine now plans = filter (is_live machine now) plans

abbrev pub past_at : Machine → ℕ → List Plan → List Plan
past_at machine now plans = filter (λ p. not (is_live machine now p)) plans

-- the ask can be put on the live part of the schedule: the whole is legal, each unreleased start is above now + lead, the
-- ask fits the whole, the front of a copy in flight ends above now, and past plans to the asked tray are of earlier copies
pub record CanAskLive (machine : Machine) (plans : List Plan) (ask : Ask) : Type 0 where
  pub legal : IsLegal machine plans
  pub floors : KeepsFloors machine ask.now none_exempt plans
  pub asked : IsAsked machine plans ask
  pub ends_ahead : EndsAhead ask.now ask.origin
  pub earlier : (p : Plan) → Contains plans p → IsFalse (is_live machine ask.now p) → (tray : ℕ) → IsTrue (goes_to ask.goal tray) → IsTrue (is_delivered_to p tray) → IsTrue (is_before p.sheet ask.sheet)

-- the budget of so many nodes is spent
abbrev pub spent_of : ℕ → Machine → List Plan → Ask → ℕ → Type 0
spent_of nodes machine plans ask bound = IsSpent machine plans ask nodes bound

-- what a spent budget says passes from the live part of a schedule on to the whole
abbrev pub SpentPassesOn : (Machine → List Plan → Ask → ℕ → Type 0) → (Machine → List Plan → Ask → ℕ → Type 0) → Machine → Type 0
SpentPassesOn on_live on_whole machine = (plans : List Plan) (ask : Ask) (bound : ℕ) → CanAskLive machine plans ask
    → on_live machine (live_at machine ask.now plans) ask bound → on_whole machine plans ask bound

abbrev pub LiveBudgetsHold : Type 0
LiveBudgetsHold = (nodes : ℕ) (machine : Machine) → SpentPassesOn (spent_of nodes) (spent_of nodes) machine

-- the answer on the live part is one on the whole schedule: its live plans are all live, what is past stays, and the same is
-- told
pub record IsAnswerOnWhole (spent : Machine → List Plan → Ask → ℕ → Type 0) (machine : Machine) (plans : List Plan) (ask : Ask) (reply : Reply) (live : List Plan) : Type 0 where
  pub whole : List Plan
  pub answer : IsAnswer spent machine plans ask reply whole
  pub live_part : live_at machine ask.now whole ≡ live
  pub past_part : past_at machine ask.now whole ≡ past_at machine ask.now plans
  pub told : told_of_reply machine (live_at machine ask.now plans) ask reply live ≡ told_of_reply machine plans ask reply whole

abbrev pub AnswersPassOn : Type 1
AnswersPassOn = (on_live on_whole : Machine → List Plan → Ask → ℕ → Type 0) (machine : Machine) (plans : List Plan) (ask : Ask) (reply : Reply) (live : List Plan)
    → SpentPassesOn on_live on_whole machine → CanAskLive machine plans ask
    → IsAnswer on_live machine (live_at machine ask.now plans) ask reply live → IsAnswerOnWhole on_whole machine plans ask reply live

abbrev pub LiveAnswersHold : Type 0
LiveAnswersHold = (nodes : ℕ) (machine : Machine) (plans : List Plan) (ask : Ask) (reply : Reply) (live : List Plan) → CanAskLive machine plans ask
    → IsAnswer (spent_of nodes) machine (live_at machine ask.now plans) ask reply live → IsAnswerOnWhole (spent_of nodes) machine plans ask reply live

-- times that are settled on the live part are settled on the whole schedule as well, and the same moves are reported
pub record IsSettledOnWhole (machine : Machine) (now : ℕ) (plans live : List Plan) : Type 0 where
  pub whole : List Plan
  pub settles : IsSettled machine now plans whole
  pub live_part : live_at machine now whole ≡ live
  pub past_part : past_at machine now whole ≡ past_at machine now plans
  pub told : moves (live_at machine now plans) live ≡ moves plans whole

abbrev pub LiveSettlesHold : Type 0
LiveSettlesHold = (machine : Machine) (now : ℕ) (plans live : List Plan) → IsLegal machine plans → KeepsFloors machine now none_exempt plans
    → IsSettled machine now (live_at machine now plans) live → IsSettledOnWhole machine now plans live

-- And back.

-- what a spent budget says passes from a whole schedule back to its live part
abbrev pub SpentPassesBack : (Machine → List Plan → Ask → ℕ → Type 0) → (Machine → List Plan → Ask → ℕ → Type 0) → Machine → Type 0
SpentPassesBack on_live on_whole machine = (plans : List Plan) (ask : Ask) (bound : ℕ) → CanAskLive machine plans ask
    → on_whole machine plans ask bound → on_live machine (live_at machine ask.now plans) ask bound

-- the answer on the whole schedule is one on its live part: what is past stays, and the same is reported
pub record IsAnswerOnLive (spent : Machine → List Plan → Ask → ℕ → Type 0) (machine : Machine) (plans : List Plan) (ask : Ask) (reply : Reply) (whole : List Plan) : Type 0 where
  pub answer : IsAnswer spent machine (live_at machine ask.now plans) ask reply (live_at machine ask.now whole)
  pub past_part : past_at machine ask.now whole ≡ past_at machine ask.now plans
  pub told : told_of_reply machine (live_at machine ask.now plans) ask reply (live_at machine ask.now whole) ≡ told_of_reply machine plans ask reply whole

abbrev pub AnswersPassBack : Type 1
AnswersPassBack = (on_live on_whole : Machine → List Plan → Ask → ℕ → Type 0) (machine : Machine) (plans : List Plan) (ask : Ask) (reply : Reply) (whole : List Plan)
    → SpentPassesBack on_live on_whole machine → CanAskLive machine plans ask
    → IsAnswer on_whole machine plans ask reply whole → IsAnswerOnLive on_live machine plans ask reply whole

abbrev pub WholeAnswersHold : Type 0
WholeAnswersHold = (nodes : ℕ) (machine : Machine) (plans : List Plan) (ask : Ask) (reply : Reply) (whole : List Plan) → CanAskLive machine plans ask
    → IsAnswer (spent_of nodes) machine plans ask reply whole → IsAnswerOnLive (spent_of nodes) machine plans ask reply whole

abbrev pub WholeBudgetsHold : Type 0
WholeBudgetsHold = (nodes : ℕ) (machine : Machine) → SpentPassesBack (spent_of nodes) (spent_of nodes) machine

-- times that are settled on the whole schedule are settled on its live part, and the same moves are reported
pub record IsSettledOnLive (machine : Machine) (now : ℕ) (plans whole : List Plan) : Type 0 where
  pub settles : IsSettled machine now (live_at machine now plans) (live_at machine now whole)
  pub past_part : past_at machine now whole ≡ past_at machine now plans
  pub told : moves (live_at machine now plans) (live_at machine now whole) ≡ moves plans whole

abbrev pub WholeSettlesHold : Type 0
WholeSettlesHold = (machine : Machine) (now : ℕ) (plans whole : List Plan) → IsLegal machine plans → KeepsFloors machine now none_exempt plans
    → IsSettled machine now plans whole → IsSettledOnLive machine now plans whole
