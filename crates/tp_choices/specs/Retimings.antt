-- Ticks and schedules that differ in ticks alone.
use Rattle.std.specs.Prelude.{◌≡◌, ℕ, ◌≤◌, ◌<◌, Bool, List, map, length, Contains}
use Rattle.tp_machine.specs.declared.machine.Machine.{Machine}
use Rattle.tp_schedule.specs.Answers.{IsAsked, IsRetimed, IsLeast, follows_front}
use Rattle.tp_schedule.specs.Choices.{ChoiceList, IsChoiceList, IsComplete, HasTimes}
use Rattle.tp_schedule.specs.Completions.{answered}
use Rattle.tp_schedule.specs.Legality.{IsLegal}
use Rattle.tp_schedule.specs.Plans.{with_points}
use Rattle.tp_schedule.specs.Spots.{Ticks, ticks_of}
use Rattle.tp_schedule.specs.Spots.Spot.{kept, own}
use Rattle.tp_schedule.specs.Times.{KeepsTimes, KeepsOrders, timed_by}
use Rattle.tp_schedule.specs.declared.parts.Ask.{Ask}
use Rattle.tp_schedule.specs.declared.parts.Plan.{Plan}

-- the first ticks are nowhere after the second
abbrev pub NoLater : List Plan → ChoiceList → Ticks → Ticks → Type 0
NoLater plans list t t' = ((p : Plan) → Contains plans p → (i : ℕ) → i ≤ length p.acts → t (kept p.sheet i) ≤ t' (kept p.sheet i)) × ((n : ℕ) → n ≤ length list.choices → t (own n) ≤ t' (own n))

-- the least ticks of a complete list make a least schedule
abbrev pub LeastAnswers : Type 0
LeastAnswers = (machine : Machine) (plans : List Plan) (ask : Ask) (list : ChoiceList) (t : Ticks)
    → IsLegal machine plans → IsAsked machine plans ask
    → IsChoiceList machine plans ask list → IsComplete machine ask list → 0 < length list.choices → HasTimes machine plans ask list 0 t
    → ((t' : Ticks) → HasTimes machine plans ask list 0 t' → NoLater plans list t t')
    → IsLeast machine ask.now (follows_front ask) (answered plans ask list.choices t)

-- which plans are exempt from the floors does not hang on their points
abbrev pub IgnoresPoints : (Plan → Bool) → Type 0
IgnoresPoints exempt = (p : Plan) (points : List ℕ) → exempt (with_points points p) ≡ exempt p

-- ticks that keep a legal schedule's shape and orders make a schedule that differs in ticks alone
abbrev pub TicksRetime : Type 0
TicksRetime = (machine : Machine) (now : ℕ) (exempt : Plan → Bool) (plans : List Plan) (t : Ticks) → IsLegal machine plans
    → IgnoresPoints exempt → KeepsTimes machine now exempt plans t → KeepsOrders machine plans t → IsRetimed machine now exempt plans (map (timed_by t) plans)

-- the points of such a schedule are ticks that keep the shape and the orders
abbrev pub RetimedTicks : Type 0
RetimedTicks = (machine : Machine) (now : ℕ) (exempt : Plan → Bool) (plans plans' : List Plan) → IsLegal machine plans
    → IgnoresPoints exempt → IsRetimed machine now exempt plans plans' → KeepsTimes machine now exempt plans (ticks_of plans') × KeepsOrders machine plans (ticks_of plans')
