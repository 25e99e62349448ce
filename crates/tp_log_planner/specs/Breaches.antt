-- Which two numbers a rule compares, where it is broken by what the items tell.
use Rattle.std.specs.Prelude.{◌≡◌, ◌≢◌, ℕ, ◌+◌, ◌<◌, ◌⊎◌, ℤ, pos, ◌+ℤ◌, List, [], ◌∷◌, drop, length, slice_get, slice_index, Option, Some, None, Contains}
use Rattle.tp_log.specs.declared.item.Item.{Item}
use Rattle.tp_machine.specs.ModuleUse.{action_at, begin_of}
use Rattle.tp_machine.specs.declared.machine.Machine.{Machine}
use Rattle.tp_machine.specs.declared.parts.ActId.{ActId}
use Rattle.tp_machine.specs.declared.parts.HoldRule.{HoldRule}
use Rattle.tp_machine.specs.declared.parts.ResId.{ResId}
use Rattle.tp_schedule.specs.Answers.{acts_in}
use Rattle.tp_schedule.specs.Holders.{holds_of_act}
use Rattle.tp_schedule.specs.Limits.{most_acts}
use Rattle.tp_schedule.specs.Plans.{end_of_plan, plan_of, point, with_points}
use Rattle.tp_schedule.specs.declared.parts.Ask.{Ask}
use Rattle.tp_schedule.specs.declared.parts.Hold.{Hold}
use Rattle.tp_schedule.specs.declared.parts.Plan.{Plan}
use Rattle.tp_schedule.specs.declared.parts.SheetId.{SheetId}
use Rattle.tp_schedule.specs.declared.records.Record.{Record}
use Rattle.tp_schedule.specs.declared.records.Record.TheVariants.{Plan as TellsPlan}
use Rattle.tp_event_rules.specs.AnswerRecords.{label_of_asked}
use Rattle.tp_schedule_check.specs.Bounds.{IsBelowFloor, IsPastHorizon}
use Rattle.tp_schedule_check.specs.Early.{is_exempt}
use Rattle.tp_schedule_check.specs.Misfits.{IsMisfit}
use Rattle.tp_schedule_check.specs.declared.bounds.PlanPoint.{PlanPoint}
use Rattle.tp_schedule_check.specs.declared.clash.Clash.{Clash as AClash}
use Rattle.tp_schedule_check.specs.declared.clash.Clash.TheVariants.{NotTimed, Overlap, OutOfLine}
use Rattle.tp_schedule_check.specs.declared.misfit.Misfit.{Misfit}
use Rattle.tp_schedule_check.specs.declared.parting.Parting.{Parting}
use Rattle.tp_schedule_check.specs.Alike.{IsMovedAmong}
use Rattle.tp_schedule_check.specs.declared.fault.Fault.{Fault}
use Rattle.tp_schedule_check.specs.declared.fault.Fault.TheVariants.{Asked, Unlike, Clash, Floor, Horizon, Order}
use Rattle.tp_schedule_check.specs.declared.unlike.Unlike.{Unlike as Why}
use Rattle.tp_schedule_check.specs.declared.unlike.Unlike.TheVariants.{Changed, Moved}
use Rattle.tp_log_planner.specs.ToldMoves.{points_for}

-- ---- of a fault of a new schedule

-- where a fixed point stands, and where it stood
abbrev pub AreOfMove : Why → ℤ → ℤ → Type 0
AreOfMove Changed first second = ⊥
AreOfMove (Moved sheet at stood stands) first second = (first ≡ pos stands) × (second ≡ pos stood)

-- where a hold and the gap behind it are over, and where the next one begins; or two ends along a line
abbrev pub AreOfClash : AClash → ℤ → ℤ → Type 0
AreOfClash (NotTimed sheet) first second = ⊥
AreOfClash (Overlap earlier later free begin) first second = (first ≡ free) × (second ≡ begin)
AreOfClash (OutOfLine earlier later end later_end) first second = (first ≡ pos end) × (second ≡ pos later_end)

-- the action of this number of the plan holds the resource from this tick on
pub record BeginsIn (machine : Machine) (plan : Plan) (number : ℕ) (resource : ResId) (begin : ℤ) : Type 0 where
  pub at : ℕ
  pub number_is : number ≡ at + 1
  pub act : ActId
  pub runs : slice_get plan.acts at ≡ Some act
  pub rule : HoldRule
  pub holds : Contains (holds_of_act (action_at machine act.0)) rule
  pub on : rule.resource ≡ resource
  pub is : begin ≡ begin_of rule (point plan at) (point plan number)

-- the action that the hold names, of the copy's plan, does
pub record BeginsAt (machine : Machine) (plans : List Plan) (resource : ResId) (hold : Hold) (begin : ℤ) : Type 0 where
  pub plan : Plan
  pub planned : plan_of hold.sheet plans ≡ Some plan
  pub begins : BeginsIn machine plan hold.act resource begin

abbrev pub Begins : Machine → List Plan → ResId → Option Hold → ℤ → Type 0
Begins machine plans resource None begin = ⊥
Begins machine plans resource (Some hold) begin = BeginsAt machine plans resource hold begin

-- where the two holds begin that stand in another order than before: the one that stood at a place of the order, and the one that
-- stands there now
abbrev pub AreOfOrder : Machine → List Plan → Parting → ℤ → ℤ → Type 0
AreOfOrder machine plans' parting first second =
    Begins machine plans' parting.resource parting.stood first × Begins machine plans' parting.resource parting.stands second

-- a point and its bound, now + lead or now + window
abbrev pub AreOfFault : Machine → ℕ → List Plan → Fault → ℤ → ℤ → Type 0
AreOfFault machine now plans' (Unlike u) first second = AreOfMove u first second
AreOfFault machine now plans' (Clash c) first second = AreOfClash c first second
AreOfFault machine now plans' (Floor x) first second = (first ≡ pos x.tick) × (second ≡ pos (now + machine.lead))
AreOfFault machine now plans' (Horizon x) first second = (first ≡ pos x.tick) × (second ≡ pos (now + machine.window))
AreOfFault machine now plans' (Order parting) first second = AreOfOrder machine plans' parting first second
AreOfFault machine now plans' fault first second = ⊥

-- a fault of which no two numbers tell: the plan is no answer, another plan is changed, or one is no timed plan; or of two holds that
-- stand in another order one is not among those of the schedule
abbrev pub IsPlainFault : Machine → List Plan → Fault → Type 0
IsPlainFault machine plans' Asked = Unit {0}
IsPlainFault machine plans' (Unlike Changed) = Unit {0}
IsPlainFault machine plans' (Clash (NotTimed sheet)) = Unit {0}
IsPlainFault machine plans' (Order parting) = (first second : ℤ) → AreOfOrder machine plans' parting first second → ⊥
IsPlainFault machine plans' fault = ⊥

pub record HasPlainFault (IsOne : Fault → Type 0) (machine : Machine) (plans' : List Plan) : Type 0 where
  pub fault : Fault
  pub is : IsOne fault
  pub plain : IsPlainFault machine plans' fault

-- some fault is one of these, and they are of it
pub record HasFault (IsOne : Fault → Type 0) (machine : Machine) (now : ℕ) (plans' : List Plan) (first second : ℤ) : Type 0 where
  pub fault : Fault
  pub is : IsOne fault
  pub told : AreOfFault machine now plans' fault first second

-- ---- of a plan by itself

-- how long an action lasts, and its least or its most that this breaks
pub record IsOffDuration (machine : Machine) (p : Plan) (first second : ℤ) : Type 0 where
  pub misfit : Misfit
  pub is : IsMisfit machine p misfit
  pub lasts : first ≡ misfit.lasts
  pub limit : second ≡ pos misfit.limit

-- a start that is not above now + lead
pub record IsLow (machine : Machine) (now : ℕ) (exempt : Option SheetId) (plans : List Plan) (first second : ℤ) : Type 0 where
  pub point : PlanPoint
  pub is : IsBelowFloor machine now (is_exempt exempt) plans point
  pub told : AreOfFault machine now plans (Floor point) first second

-- a point that is past now + window
pub record IsLate (machine : Machine) (now : ℕ) (plans : List Plan) (first second : ℤ) : Type 0 where
  pub point : PlanPoint
  pub is : IsPastHorizon machine now plans point
  pub told : AreOfFault machine now plans (Horizon point) first second

abbrev pub IsOutOfBounds : Machine → ℕ → Option SheetId → List Plan → ℤ → ℤ → Type 0
IsOutOfBounds machine now exempt plans first second = IsLow machine now exempt plans first second ⊎ IsLate machine now plans first second

abbrev pub IsOffByItself : Machine → ℕ → Option SheetId → Plan → ℤ → ℤ → Type 0
IsOffByItself machine now exempt p first second = IsOffDuration machine p first second ⊎ IsOutOfBounds machine now exempt (p ∷ []) first second

-- ---- of a move

-- a fixed point of the plan stands elsewhere in the other: where it stands there, and where it stood
pub record IsUnkept (p q : Plan) (first second : ℤ) : Type 0 where
  pub sheet : SheetId
  pub at : ℕ
  pub stood : ℕ
  pub stands : ℕ
  pub moved : IsMovedAmong (p ∷ []) (q ∷ []) sheet at stood stands
  pub first_is : first ≡ pos stands
  pub second_is : second ≡ pos stood

abbrev pub IsOffMove : Machine → ℕ → Plan → Plan → ℤ → ℤ → Type 0
IsOffMove machine now p q first second = IsUnkept p q first second ⊎ IsOffByItself machine now None q first second

-- one of the items, from which on there are so many, moves a plan of the schedule so
pub record HasOffMove (machine : Machine) (now : ℕ) (asked : Option SheetId) (plans : List Plan) (items : List Item) (left : ℕ) (first second : ℤ) : Type 0 where
  pub plan : Plan
  pub planned : Contains plans plan
  pub place : ℕ
  pub points : List ℕ
  pub told : points_for asked plan (drop place items) ≡ Some points
  pub from : left ≡ length (drop place items)
  pub off : IsOffMove machine now plan (with_points points plan) first second

-- ---- of a record of a plan

-- how many actions there are, and the most that there may be
pub record AreTooMany (front : Option Plan) (names : List (List ℕ)) (first second : ℤ) : Type 0 where
  pub many : most_acts < length (acts_in front) + length names
  pub first_is : first ≡ pos (length (acts_in front) + length names)
  pub second_is : second ≡ pos most_acts

-- the first new point, and the end of the front, where it is to be
pub record IsApart (front : Plan) (points : List ℕ) (first second : ℤ) : Type 0 where
  pub differ : slice_index points 0 ≢ end_of_plan front
  pub first_is : first ≡ pos (slice_index points 0)
  pub second_is : second ≡ pos (end_of_plan front)

abbrev pub IsUnjoined : Option Plan → List ℕ → ℤ → ℤ → Type 0
IsUnjoined None points first second = ⊥
IsUnjoined (Some front) points first second = IsApart front points first second

abbrev pub IsUnfit : Option Plan → List ℕ → List (List ℕ) → ℤ → ℤ → Type 0
IsUnfit front points names first second = AreTooMany front names first second ⊎ IsUnjoined front points first second

-- the record tells points and actions that don't fit the copy's front
pub record TellsUnfit (plans : List Plan) (ask : Ask) (told : Record) (first second : ℤ) : Type 0 where
  pub place : List ℕ
  pub points : List ℕ
  pub names : List (List ℕ)
  pub is : told ≡ TellsPlan (label_of_asked ask) place points names
  pub unfit : IsUnfit (plan_of ask.sheet plans) points names first second
