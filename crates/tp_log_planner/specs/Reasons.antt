-- Why items don't tell what is due: a rule that is broken, a point of the new schedule that could stand earlier, or a tree
-- that has a flaw.
use Rattle.std.specs.Prelude.{◌≡◌, ℕ, ◌⊎◌, ℤ, List, ◌∷◌, length, Option, Some, None, IsFalse}
use Rattle.tp_bounds.specs.declared.tree.BoundTree.{BoundTree}
use Rattle.tp_log.specs.declared.item.Item.{Item}
use Rattle.tp_log.specs.declared.item.Item.TheVariants.{Note, Tree as TreeItem}
use Rattle.tp_machine.specs.declared.machine.Machine.{Machine}
use Rattle.tp_schedule.specs.PlannerAnswers.{Due}
use Rattle.tp_schedule.specs.PlannerAnswers.Due.{asking, settling}
use Rattle.tp_schedule.specs.Plans.{end_of_plan, put_plan, without}
use Rattle.tp_schedule.specs.declared.parts.Ask.{Ask}
use Rattle.tp_schedule.specs.declared.parts.Plan.{Plan}
use Rattle.tp_schedule.specs.declared.parts.SheetId.{SheetId}
use Rattle.tp_schedule.specs.declared.records.Record.{Record}
use Rattle.tp_schedule.specs.declared.records.Record.TheVariants.{Budget, Never as TellsNever}
use Rattle.tp_event_rules.specs.AnswerRecords.{label_of_asked}
use Rattle.tp_event_rules.specs.Labels.{goal_name}
use Rattle.tp_schedule_check.specs.Early.{IsEarly, is_exempt}
use Rattle.tp_schedule_check.specs.declared.early.Early.{Early as AnEarly}
use Rattle.tp_schedule_check.specs.Faults.{IsAnswerFault, IsRight, IsSettlingFault, exempt_of}
use Rattle.tp_schedule_check.specs.declared.fault.Fault.{Fault}
use Rattle.tp_schedule_check.specs.declared.fault.Fault.TheVariants.{Early}
use Rattle.tp_bound_laws.specs.Claims.{limit_of, live_part}
use Rattle.tp_bound_laws.specs.Flaws.{tree_flaw}
use Rattle.tp_bound_laws.specs.declared.claim.Claim.{Claim}
use Rattle.tp_bound_laws.specs.declared.claim.Claim.TheVariants.{Earliest, Never}
use Rattle.tp_log_planner.specs.Breaches.{AreOfFault, HasFault, HasOffMove, HasPlainFault, IsOffByItself, IsPlainFault, TellsUnfit}
use Rattle.tp_log_planner.specs.ToldMoves.{IsMoveOver, TakesMoves, behind_moves}
use Rattle.tp_log_planner.specs.ToldPlans.{IsInForm, IsOnlyPlan}
use Rattle.tp_log_planner.specs.ToldAnswers.{begins_with_tree}
use Rattle.tp_log_planner.specs.declared.failure.Failure.{Failure}
use Rattle.tp_log_planner.specs.declared.failure.Failure.TheVariants as failure
use Rattle.tp_log_planner.specs.declared.failure.Reason.{Reason}
use Rattle.tp_log_planner.specs.declared.failure.Wrong.{Wrong}
use Rattle.tp_log_planner.specs.declared.failure.Wrong.TheVariants as wrong
use Rattle.tp_log_planner.specs.declared.failure.Reason.TheVariants.{Due as IsDue, Illegal, NotLeast, Tree}

-- what holds of the reason of a failure, and of how many items there are from the wrong one on, if that is no want of memory
abbrev pub IfStop : (ℕ → Reason → Type 0) → Failure → Type 0
IfStop P failure.Memory = Unit {0}
IfStop P (failure.Stop found) = P found.left found.reason

-- it is reported where there are so many items yet
abbrev pub IsFrom : ℕ → (Reason → Type 0) → ℕ → Reason → Type 0
IsFrom here P left reason = (left ≡ here) × P reason

-- another item is due, which is reported where this holds
abbrev pub IsPlain : Type 0 → Reason → Type 0
IsPlain Due IsDue = Due
IsPlain Due _ = ⊥

-- or a rule is broken that compares two such numbers
abbrev pub IsBreach : Type 0 → (ℤ → ℤ → Type 0) → Reason → Type 0
IsBreach Due P (Illegal first second) = P first second
IsBreach Due P reason = IsPlain Due reason

-- the same of a record that is wrong by itself
abbrev pub reason_of : Wrong → Reason
reason_of wrong.Due = IsDue
reason_of (wrong.Illegal first second) = Illegal first second

abbrev pub reason_in : Failure → Option Reason
reason_in failure.Memory = None
reason_in (failure.Stop found) = Some found.reason

abbrev pub IsOff : Type 0 → (ℤ → ℤ → Type 0) → Wrong → Type 0
IsOff Due P wrong = IsBreach Due P (reason_of wrong)

-- ---- of a new schedule

-- a point of the schedule stands at the one tick, and could stand at the other one, which is earlier
pub record CouldBeEarlier (machine : Machine) (now : ℕ) (exempt : Option SheetId) (plans' : List Plan) (given least : ℕ) : Type 0 where
  pub early : AnEarly
  pub is : IsEarly machine now (is_exempt exempt) plans' early
  pub given_is : given ≡ early.given
  pub least_is : least ≡ early.earlier

abbrev pub IsTimesReason : (Fault → Type 0) → Machine → ℕ → Option SheetId → List Plan → Reason → Type 0
IsTimesReason IsOne machine now exempt plans' (NotLeast given least) = CouldBeEarlier machine now exempt plans' given least
IsTimesReason IsOne machine now exempt plans' reason = IsBreach (HasPlainFault IsOne machine plans') (HasFault IsOne machine now plans') reason

-- what a reason tells of a fault
abbrev pub TellsFault : Machine → ℕ → List Plan → Fault → Reason → Type 0
TellsFault machine now plans' (Early early) reason = reason ≡ NotLeast early.given early.earlier
TellsFault machine now plans' fault reason = IsBreach (IsPlainFault machine plans' fault) (AreOfFault machine now plans' fault) reason

-- a move breaks a rule by itself, or the schedule that the moves tell breaks one
abbrev pub IsOffSettling : Machine → List Plan → ℕ → List Item → ℕ → ℤ → ℤ → Type 0
IsOffSettling machine plans now items left first second =
    HasOffMove machine now None plans items left first second
    ⊎ ((plans' : List Plan) × ((taken : ℕ) × (TakesMoves machine now None plans plans' items taken × HasFault (IsSettlingFault machine now plans plans') machine now plans' first second)))

-- a move is reported that is none of those that are due, or no two numbers tell what is wrong with the schedule that they tell
abbrev pub IsDueInSettling : Machine → List Plan → ℕ → List Item → ℕ → Type 0
IsDueInSettling machine plans now items left =
    IsMoveOver None plans items left
    ⊎ ((plans' : List Plan) × ((taken : ℕ) × (TakesMoves machine now None plans plans' items taken × HasPlainFault (IsSettlingFault machine now plans plans') machine plans')))

-- or a point of that could stand earlier
abbrev pub IsSettlingReason : Machine → List Plan → ℕ → List Item → ℕ → Reason → Type 0
IsSettlingReason machine plans now items left (NotLeast given least) =
    (plans' : List Plan) × ((taken : ℕ) × (TakesMoves machine now None plans plans' items taken × CouldBeEarlier machine now None plans' given least))
IsSettlingReason machine plans now items left reason = IsBreach (IsDueInSettling machine plans now items left) (IsOffSettling machine plans now items left) reason

-- ---- of an answer

-- the first item tells the plan
pub record BeginsWithPlan (machine : Machine) (plans : List Plan) (ask : Ask) (items : List Item) (plan : Plan) : Type 0 where
  pub told : Record
  pub later : List Item
  pub is : items ≡ Note told ∷ later
  pub only : IsOnlyPlan machine plans ask told plan

-- it and the moves behind it tell the schedule
pub record TellSchedule (machine : Machine) (plans : List Plan) (ask : Ask) (items : List Item) (plans' : List Plan) : Type 0 where
  pub plan : Plan
  pub first : BeginsWithPlan machine plans ask items plan
  pub mid : List Plan
  pub taken : ℕ
  pub moved : TakesMoves machine ask.now (Some ask.sheet) plans mid first.later taken
  pub placed : plans' ≡ put_plan plan (without plan.sheet mid)

-- the first item tells what doesn't fit the copy's front
pub record HasUnfitPlan (plans : List Plan) (ask : Ask) (items : List Item) (first second : ℤ) : Type 0 where
  pub told : Record
  pub later : List Item
  pub is : items ≡ Note told ∷ later
  pub unfit : TellsUnfit plans ask told first second

-- the plan of the first item breaks a rule by itself
pub record HasOffPlan (machine : Machine) (plans : List Plan) (ask : Ask) (items : List Item) (first second : ℤ) : Type 0 where
  pub plan : Plan
  pub told : BeginsWithPlan machine plans ask items plan
  pub off : IsOffByItself machine ask.now (exempt_of ask) plan first second

-- a move behind the first item does
pub record HasOffMoveBehind (machine : Machine) (plans : List Plan) (ask : Ask) (items : List Item) (left : ℕ) (first second : ℤ) : Type 0 where
  pub plan : Plan
  pub told : BeginsWithPlan machine plans ask items plan
  pub off : HasOffMove machine ask.now (Some ask.sheet) plans told.later left first second

-- the schedule that all of them tell does
pub record HasOffSchedule (machine : Machine) (plans : List Plan) (ask : Ask) (items : List Item) (first second : ℤ) : Type 0 where
  pub plans' : List Plan
  pub told : TellSchedule machine plans ask items plans'
  pub fault : HasFault (IsAnswerFault machine plans ask plans') machine ask.now plans' first second

-- a rule is broken by one of these, or the first item tells what doesn't fit the copy's front
abbrev pub IsOffAnswer : Machine → List Plan → Ask → List Item → ℕ → ℤ → ℤ → Type 0
IsOffAnswer machine plans ask items left first second =
    ((left ≡ length items) × (HasUnfitPlan plans ask items first second ⊎ HasOffPlan machine plans ask items first second))
    ⊎ (HasOffMoveBehind machine plans ask items left first second ⊎ HasOffSchedule machine plans ask items first second)

-- the first item is a tree with the flaw, for the claim on the schedule before, or it is no tree
abbrev pub IsTreeReason : Machine → List Plan → Ask → Claim → List Item → Reason → Type 0
IsTreeReason machine plans ask claim items (Tree flaw) =
    (tree : BoundTree) × ((later : List Item) × ((items ≡ TreeItem tree ∷ later) × (tree_flaw machine (live_part machine ask plans) ask (limit_of machine ask claim) tree ≡ Some flaw)))
IsTreeReason machine plans ask claim items reason = IsPlain (IsFalse (begins_with_tree items)) reason

-- a plan and its moves tell a right schedule, and these items stand behind them
pub record AreBehindPlan (machine : Machine) (plans : List Plan) (ask : Ask) (items : List Item) (end : ℕ) (behind : List Item) : Type 0 where
  pub plans' : List Plan
  pub told : TellSchedule machine plans ask items plans'
  pub right : IsRight machine plans ask plans'
  pub ends : end ≡ end_of_plan told.plan
  pub is : behind ≡ behind_moves (Some ask.sheet) plans told.first.later

-- these items stand behind the plan and its moves, or behind the none, and the first of them is to be the tree for the claim
abbrev pub IsTreeDue : Machine → List Plan → Ask → List Item → Claim → List Item → Type 0
IsTreeDue machine plans ask items (Earliest end) behind = AreBehindPlan machine plans ask items end behind
IsTreeDue machine plans ask items Never behind = items ≡ Note (TellsNever (label_of_asked ask) (goal_name machine ask.goal)) ∷ behind

-- the tree that is due there has the flaw, or is missing; so many items there are from it on
pub record HasWrongTree (machine : Machine) (plans : List Plan) (ask : Ask) (items : List Item) (left : ℕ) (reason : Reason) : Type 0 where
  pub claim : Claim
  pub behind : List Item
  pub due : IsTreeDue machine plans ask items claim behind
  pub from : left ≡ length behind
  pub wrong : IsTreeReason machine plans ask claim behind reason

-- ---- another item than the one that is due

-- the record tells an answer to the ask: a plan, whatever its times, that there is none, or that the budget was spent
abbrev pub TellsAnAnswer : Machine → List Plan → Ask → Record → Type 0
TellsAnAnswer machine plans ask told =
    ((p : Plan) × IsInForm machine plans ask told p)
    ⊎ ((told ≡ TellsNever (label_of_asked ask) (goal_name machine ask.goal)) ⊎ ((bound : ℕ) × (told ≡ Budget (label_of_asked ask) (goal_name machine ask.goal) bound)))

-- the first item, if there is one, tells none
abbrev pub BeginsWithNoAnswer : Machine → List Plan → Ask → List Item → Type 0
BeginsWithNoAnswer machine plans ask items = (told : Record) (later : List Item) → items ≡ Note told ∷ later → TellsAnAnswer machine plans ask told → ⊥

-- behind its plan and the moves of other plans stands one more move
pub record HasMoveOver (machine : Machine) (plans : List Plan) (ask : Ask) (items : List Item) (left : ℕ) : Type 0 where
  pub plan : Plan
  pub told : BeginsWithPlan machine plans ask items plan
  pub over : IsMoveOver (Some ask.sheet) plans told.later left

-- no two numbers tell what is wrong with the schedule that they tell
pub record HasPlainSchedule (machine : Machine) (plans : List Plan) (ask : Ask) (items : List Item) : Type 0 where
  pub plans' : List Plan
  pub told : TellSchedule machine plans ask items plans'
  pub fault : HasPlainFault (IsAnswerFault machine plans ask plans') machine plans'

abbrev pub IsDueInAnswer : Machine → List Plan → Ask → List Item → ℕ → Type 0
IsDueInAnswer machine plans ask items left =
    ((left ≡ length items) × BeginsWithNoAnswer machine plans ask items)
    ⊎ (HasMoveOver machine plans ask items left ⊎ (HasPlainSchedule machine plans ask items ⊎ HasWrongTree machine plans ask items left IsDue))

-- ---- reasons

abbrev pub IsAskedReason : Machine → List Plan → Ask → List Item → ℕ → Reason → Type 0
IsAskedReason machine plans ask items left (NotLeast given least) =
    (plans' : List Plan) × (TellSchedule machine plans ask items plans' × CouldBeEarlier machine ask.now (exempt_of ask) plans' given least)
IsAskedReason machine plans ask items left (Tree flaw) = HasWrongTree machine plans ask items left (Tree flaw)
IsAskedReason machine plans ask items left reason = IsBreach (IsDueInAnswer machine plans ask items left) (IsOffAnswer machine plans ask items left) reason

-- why the items don't tell what is due, and how many there are from the wrong one on. Of what is wrong with a schedule no item is claimed
abbrev pub IsReason : Machine → List Plan → List Item → Due → ℕ → Reason → Type 0
IsReason machine plans items (asking ask) left reason = IsAskedReason machine plans ask items left reason
IsReason machine plans items (settling now) left reason = IsSettlingReason machine plans now items left reason
