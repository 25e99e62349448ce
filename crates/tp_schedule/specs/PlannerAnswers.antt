-- What a planner may be asked, and what its answers say.
use Rattle.std.specs.Prelude.{◌≡◌, ℕ, ◌+◌, ◌^◌, ◌<◌, ◌≤◌, ◌⊎◌, Bool, false, List, length, Contains, IsTrue}
use Rattle.tp_machine.specs.declared.machine.Machine.{Machine}
use Rattle.tp_schedule.specs.Plans.{AreNamed, without, is_before, is_delivered_to}
use Rattle.tp_schedule.specs.Legality.{IsLegal}
use Rattle.tp_schedule.specs.LivePlans.{is_live, live_count}
use Rattle.tp_schedule.specs.Answers.{IsAsked, IsAlternative, IsEarliest, IsRetimed, IsLeast, KeepsFloors, KeepsHorizon, follows_front}
use Rattle.tp_schedule.specs.Limits.{most_live}
use Rattle.tp_schedule.specs.declared.parts.Ask.{Ask}
use Rattle.tp_schedule.specs.declared.parts.Goal.{Goal}
use Rattle.tp_schedule.specs.declared.parts.Goal.TheVariants.{Tray, Purge}
use Rattle.tp_schedule.specs.declared.parts.Halt.{Halt}
use Rattle.tp_schedule.specs.declared.parts.Halt.TheVariants.{Memory, Stopped}
use Rattle.tp_schedule.specs.declared.parts.Origin.{Origin}
use Rattle.tp_schedule.specs.declared.parts.Origin.TheVariants.{Feeder as FromFeeder, Front as FromFront}
use Rattle.tp_schedule.specs.declared.parts.Plan.{Plan}
use Rattle.tp_schedule.specs.declared.parts.Reply.{Reply}
use Rattle.tp_schedule.specs.declared.parts.Reply.TheVariants.{Planned, Never, Spent as OutOfBudget}

-- the last moment of the clock
abbrev pub last_tick : ℕ
last_tick = 1000000000

-- no plan is exempt from its floors
abbrev pub none_exempt : Plan → Bool
none_exempt p = false

-- the schedule can be planned on at the moment: the clock goes so far, it is legal, each unreleased start is above
-- now + lead, and each unreleased point is at most now + window
pub record CanPlanOn (machine : Machine) (now : ℕ) (plans : List Plan) : Type 0 where
  pub now_at_most : now ≤ last_tick
  pub legal : IsLegal machine plans
  pub floors : KeepsFloors machine now none_exempt plans
  pub horizon : KeepsHorizon machine now plans

-- a new copy may need memory for one more plan; the front of a copy in flight ends above the moment
abbrev pub HasTimeFrom : List Plan → ℕ → Origin → Type 0
HasTimeFrom plans now FromFeeder = length plans + 1 < 2 ^ 32
HasTimeFrom plans now (FromFront state end count) = now < end

-- a tray that is a goal is one of the machine's
abbrev pub IsKnownGoal : Machine → Goal → Type 0
IsKnownGoal machine (Tray t) = Contains machine.trays t
IsKnownGoal machine Purge = Unit {0}

-- a tray that is the goal is a tray of the machine, and each whole plan of a later copy to it is live
abbrev pub IsOpenGoal : Machine → List Plan → Ask → Goal → Type 0
IsOpenGoal machine plans ask Purge = Unit {0}
IsOpenGoal machine plans ask (Tray t) = Contains machine.trays t
    × ((p : Plan) → Contains plans p → IsTrue (is_delivered_to p t.0) → IsTrue (is_before ask.sheet p.sheet) → IsTrue (is_live machine ask.now p))

-- the ask can be put on the schedule: at most 255 other copies are live, plans of different jobs have different names,
-- and the asked copy's origin and goal fit the schedule
pub record CanAsk (machine : Machine) (plans : List Plan) (ask : Ask) : Type 0 where
  pub plan_on : CanPlanOn machine ask.now plans
  pub few_live : live_count machine ask.now (without ask.sheet plans) < most_live
  pub named : AreNamed plans
  pub asked : IsAsked machine plans ask
  pub has_time : HasTimeFrom plans ask.now ask.origin
  pub open_goal : IsOpenGoal machine plans ask ask.goal

-- the times can be settled: at most 256 copies are live
pub record CanSettle (machine : Machine) (now : ℕ) (plans : List Plan) : Type 0 where
  pub plan_on : CanPlanOn machine now plans
  pub few_live : live_count machine now plans ≤ most_live

-- planned: the new schedule is earliest and least; never: there is no alternative; spent: by the planner's own relation.
-- Where it is not planned the schedule stays
abbrev pub IsAnswer : (Machine → List Plan → Ask → ℕ → Type 0) → Machine → List Plan → Ask → Reply → List Plan → Type 0
IsAnswer spent machine plans ask Planned plans' = IsEarliest machine plans ask plans' × IsLeast machine ask.now (follows_front ask) plans'
IsAnswer spent machine plans ask Never plans' = (plans' ≡ plans) × ((other : List Plan) → ¬ IsAlternative machine plans ask other)
IsAnswer spent machine plans ask (OutOfBudget bound) plans' = (plans' ≡ plans) × spent machine plans ask bound

-- settled: every unreleased point takes its least tick for the orders that stand
pub record IsSettled (machine : Machine) (now : ℕ) (plans plans' : List Plan) : Type 0 where
  pub retimed : IsRetimed machine now none_exempt plans plans'
  pub least : IsLeast machine now none_exempt plans'

-- what a planner is called for: to answer an ask, or to settle the times at a moment
pub data Due : Type 0 where
  asking : Ask → Due
  settling : ℕ → Due

-- what it did: it gave an ask this answer, or it settled the times at a moment
pub data Deed : Type 0 where
  replied : Ask → Reply → Deed
  settled : ℕ → Deed

-- what the calls of a planner say beyond their answers: what a Spent says of machine, schedule, ask and bound; how a call that
-- did this, with the schedules before and after it, leads on to the next planner; and how it stops where this is due on the schedule
pub record PlannerRules (P : Type 0) : Type 1 where
  pub spent : P → Machine → List Plan → Ask → ℕ → Type 0
  pub steps : P → Machine → List Plan → Deed → List Plan → P → Type 0
  pub stop_steps : P → Machine → List Plan → Due → P → Type 0

-- where a count stays for good
abbrev pub last_count : ℕ
last_count = 18446744073709551615

-- the count of stops never falls, and a stop comes only where it rose, or stands where it can't rise
abbrev pub HasRisen : ℕ → ℕ → Type 0
HasRisen before after = (before < after) ⊎ (after ≡ last_count)

abbrev pub StopsOnlyWhere : ℕ → ℕ → Halt → Type 0
StopsOnlyWhere before after Memory = Unit {0}
StopsOnlyWhere before after Stopped = HasRisen before after
