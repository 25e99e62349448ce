-- What is wrong with a schedule that is no right answer to an ask, or has no settled times.
use Rattle.std.specs.Prelude.{◌≡◌, ℕ, ◌⊎◌, List, Option, Some, None, nat_lt, if◌then◌else◌}
use Rattle.tp_machine.specs.declared.machine.Machine.{Machine}
use Rattle.tp_schedule.specs.Answers.{AnswersAsk, IsAlternative, IsLeast, KeepsFloors, KeepsHorizon, follows_front, kept_of}
use Rattle.tp_schedule.specs.Legality.{IsLegal}
use Rattle.tp_schedule.specs.Plans.{plan_of}
use Rattle.tp_schedule.specs.declared.parts.Ask.{Ask}
use Rattle.tp_schedule.specs.declared.parts.Plan.{Plan}
use Rattle.tp_schedule.specs.declared.parts.SheetId.{SheetId}
use Rattle.tp_schedule_check.specs.Bounds.{IsBelowFloor, IsPastHorizon}
use Rattle.tp_schedule_check.specs.Clashes.{IsClash}
use Rattle.tp_schedule_check.specs.Early.{IsEarly, is_exempt}
use Rattle.tp_schedule_check.specs.OrderDifferences.{AreOrdersKept, IsParting}
use Rattle.tp_schedule_check.specs.Alike.{AreAlike, IsUnfixed, IsUnlike, KeepsPoints, others}
use Rattle.tp_schedule_check.specs.declared.unlike.Unlike.{Unlike as Why}
use Rattle.tp_schedule_check.specs.declared.fault.Fault.{Fault}
use Rattle.tp_schedule_check.specs.declared.fault.Fault.TheVariants.{Asked, Unlike, Clash, Floor, Horizon, Order, Early}
use Rattle.tp_schedule_check.specs.declared.times.Wanted.{Wanted}

-- floors and horizon are kept
pub record KeepsBounds (machine : Machine) (wanted : Wanted) (plans' : List Plan) : Type 0 where
  pub floors : KeepsFloors machine wanted.moment (is_exempt wanted.exempt) plans'
  pub horizon : KeepsHorizon machine wanted.moment plans'

-- the orders are those of the schedule before but for new holds, and the times are least for them
pub record HasOrders (machine : Machine) (wanted : Wanted) (plans plans' : List Plan) : Type 0 where
  pub orders : AreOrdersKept machine wanted.asked plans plans'
  pub least : IsLeast machine wanted.moment (is_exempt wanted.exempt) plans'

-- what is wanted of the times of a schedule
pub record HasTimes (machine : Machine) (wanted : Wanted) (plans plans' : List Plan) : Type 0 where
  pub legal : IsLegal machine plans'
  pub bounds : KeepsBounds machine wanted plans'
  pub orders : HasOrders machine wanted plans plans'

abbrev pub IsBoundsFault : Machine → Wanted → List Plan → Fault → Type 0
IsBoundsFault machine wanted plans' (Floor x) = IsBelowFloor machine wanted.moment (is_exempt wanted.exempt) plans' x
IsBoundsFault machine wanted plans' (Horizon x) = IsPastHorizon machine wanted.moment plans' x
IsBoundsFault machine wanted plans' _ = ⊥

abbrev pub IsTimesFault : Machine → Wanted → List Plan → List Plan → Fault → Type 0
IsTimesFault machine wanted plans plans' (Clash c) = IsClash machine plans' c
IsTimesFault machine wanted plans plans' (Order x) = IsParting machine wanted.asked plans plans' x
IsTimesFault machine wanted plans plans' (Early e) = IsEarly machine wanted.moment (is_exempt wanted.exempt) plans' e
IsTimesFault machine wanted plans plans' fault = IsBoundsFault machine wanted plans' fault

-- ---- answers

-- the plan answers the ask, and the points of the copy's front stay where the copy is in flight
pub record IsGoodPlan (machine : Machine) (plans : List Plan) (ask : Ask) (p : Plan) : Type 0 where
  pub answers : AnswersAsk machine plans ask p
  pub front : (f : Plan) → plan_of ask.sheet plans ≡ Some f → KeepsPoints f p

pub record HasLeft (plans : List Plan) (ask : Ask) (p : Plan) (u : Why) : Type 0 where
  pub front : Plan
  pub stood : plan_of ask.sheet plans ≡ Some front
  pub moved : IsUnfixed front p u

abbrev pub IsPlanFault : Machine → List Plan → Ask → Plan → Fault → Type 0
IsPlanFault machine plans ask p Asked = ¬ AnswersAsk machine plans ask p
IsPlanFault machine plans ask p (Unlike u) = HasLeft plans ask p u
IsPlanFault machine plans ask p _ = ⊥

-- the asked copy has such a plan
pub record IsAnswered (machine : Machine) (plans : List Plan) (ask : Ask) (plans' : List Plan) : Type 0 where
  pub plan : Plan
  pub planned : plan_of ask.sheet plans' ≡ Some plan
  pub good : IsGoodPlan machine plans ask plan

-- it has none, or that has this fault
abbrev pub IsAskedIn : Machine → List Plan → Ask → Option Plan → Fault → Type 0
IsAskedIn machine plans ask None fault = fault ≡ Asked
IsAskedIn machine plans ask (Some p) fault = IsPlanFault machine plans ask p fault

abbrev pub IsAskedFault : Machine → List Plan → Ask → List Plan → Fault → Type 0
IsAskedFault machine plans ask plans' fault = IsAskedIn machine plans ask (plan_of ask.sheet plans') fault

-- and all other plans are the same but for points that may move
pub record HasPlans (machine : Machine) (plans : List Plan) (ask : Ask) (plans' : List Plan) : Type 0 where
  pub answered : IsAnswered machine plans ask plans'
  pub alike : AreAlike (others (Some ask.sheet) plans) (others (Some ask.sheet) plans')

abbrev pub IsPlansFault : Machine → List Plan → Ask → List Plan → Fault → Type 0
IsPlansFault machine plans ask plans' (Unlike u) = IsAskedFault machine plans ask plans' (Unlike u) ⊎ IsUnlike (others (Some ask.sheet) plans) (others (Some ask.sheet) plans') u
IsPlansFault machine plans ask plans' fault = IsAskedFault machine plans ask plans' fault

-- for which times an ask is answered
abbrev pub exempt_of : Ask → Option SheetId
exempt_of ask = if nat_lt 0 (kept_of ask) then Some ask.sheet else None

abbrev pub wanted_of : Ask → Wanted
wanted_of ask = record { moment = ask.now; asked = Some ask; exempt = exempt_of ask }

abbrev pub wanted_at : ℕ → Wanted
wanted_at now = record { moment = now; asked = None; exempt = None }

-- why the second schedule is no right answer: no plan, other plans, or else its times
abbrev pub IsAnswerFault : Machine → List Plan → Ask → List Plan → Fault → Type 0
IsAnswerFault machine plans ask plans' fault = IsPlansFault machine plans ask plans' fault ⊎ IsTimesFault machine (wanted_of ask) plans plans' fault

abbrev pub IsSettlingFault : Machine → ℕ → List Plan → List Plan → Fault → Type 0
IsSettlingFault machine now plans plans' (Unlike u) = IsUnlike (others None plans) (others None plans') u
IsSettlingFault machine now plans plans' fault = IsTimesFault machine (wanted_at now) plans plans' fault

-- the second schedule is an alternative with least times
pub record IsRight (machine : Machine) (plans : List Plan) (ask : Ask) (plans' : List Plan) : Type 0 where
  pub alternative : IsAlternative machine plans ask plans'
  pub least : IsLeast machine ask.now (follows_front ask) plans'
