-- Ways: where a copy can be at which tick, where kept plans have windows.
use Rattle.std.specs.Prelude.{◌≡◌, ℕ, ◌+◌, ◌<◌, ◌≤◌, List, ◌++◌, length, Contains, All, IsTrue, Option, Some, pos, ◌+ℤ◌, ◌≤ℤ◌}
use Rattle.tp_machine.specs.Modes.{gap_at, gap_between}
use Rattle.tp_machine.specs.ModuleUse.{action_at, begin_of, end_of}
use Rattle.tp_machine.specs.declared.machine.Machine.{Machine}
use Rattle.tp_machine.specs.declared.parts.ActId.{ActId}
use Rattle.tp_machine.specs.declared.parts.HoldRule.{HoldRule}
use Rattle.tp_machine.specs.declared.parts.State.{State}
use Rattle.tp_schedule.specs.Holders.{holds_of_act}
use Rattle.tp_schedule.specs.PlannerAnswers.{IsKnownGoal}
use Rattle.tp_schedule.specs.Plans.{LastsWithin, goes_to, is_before, is_delivered_to}
use Rattle.tp_schedule.specs.Routes.{IsGoalState, IsStart, is_act_allowed, least_of, step_by}
use Rattle.tp_schedule.specs.Spots.{Slot, begin_at, end_at, slot_order}
use Rattle.tp_schedule.specs.Times.{at}
use Rattle.tp_schedule.specs.declared.parts.Ask.{Ask}
use Rattle.tp_schedule.specs.declared.parts.Origin.{Origin}
use Rattle.tp_schedule.specs.declared.parts.Origin.TheVariants.{Feeder as FromFeeder, Front as FromFront}
use Rattle.tp_schedule.specs.declared.parts.Plan.{Plan}
use Rattle.tp_windows.specs.Windows.{Windows}

-- a hold of an action that runs from start to end stands in a gap of an order: it begins behind the least end of each hold before
-- the gap, and ends by the greatest begin of each one behind
pub record StandsIn (gap : ℕ) (w : Windows) (rule : HoldRule) (start end : ℕ) (order : List Slot) : Type 0 where
  pub before : List Slot
  pub behind : List Slot
  pub split : order ≡ before ++ behind
  pub after : All (λ k. (end_at w.lo k +ℤ pos (gap_between gap k.rule rule)) ≤ℤ begin_of rule start end) before
  pub until : All (λ k. (end_of rule start end +ℤ pos (gap_between gap rule k.rule)) ≤ℤ begin_at w.hi k) behind

-- an action may run from start to end: it lasts so long, and each of its holds stands in a gap of its resource's order
pub record MayRun (machine : Machine) (plans : List Plan) (w : Windows) (act : ActId) (start end : ℕ) : Type 0 where
  pub lasts : LastsWithin machine act start end
  pub stands : (rule : HoldRule) → Contains (holds_of_act (action_at machine act.0)) rule → StandsIn (gap_at machine rule.resource.0) w rule start end (slot_order machine plans rule.resource.0)

-- an end of the asked copy fits its line: it is above the least ends of earlier copies, and below the greatest ends of later ones
abbrev pub FitsLine : List Plan → Ask → Windows → ℕ → Type 0
FitsLine plans ask w end = (p : Plan) → Contains plans p → (tray : ℕ) → IsTrue (goes_to ask.goal tray) → IsTrue (is_delivered_to p tray) →
    (IsTrue (is_before p.sheet ask.sheet) → at w.lo p (length p.acts) < end) × (IsTrue (is_before ask.sheet p.sheet) → end < at w.hi p (length p.acts))

-- when the new actions may start: for a new copy from its floor on, for a copy in flight at the front's end
abbrev pub CanBeginFrom : Machine → ℕ → Origin → ℕ → Type 0
CanBeginFrom machine now FromFeeder tick = now + machine.lead + 1 ≤ tick
CanBeginFrom machine now (FromFront state end count) tick = tick ≡ end

-- a table of the rest that each state needs: goal states need none, and a state needs at most the least duration of an action and
-- the rest that the action's state needs
pub record IsRest (machine : Machine) (ask : Ask) (rest : State → Option ℕ) : Type 0 where
  pub goals : (s : State) → IsGoalState machine ask.want ask.goal s → rest s ≡ Some 0
  pub steps : (act : ActId) (s next : State) (n : ℕ) → IsTrue (is_act_allowed machine ask.outs act) → step_by machine ask.want act s ≡ Some next → rest next ≡ Some n
      → (m : ℕ) × (rest s ≡ Some m) × (m ≤ least_of machine act + n)

-- no action leads on from a goal state
abbrev pub GoalsAreLast : Machine → Ask → Type 0
GoalsAreLast machine ask = (act : ActId) (s next : State) → IsGoalState machine ask.want ask.goal s → step_by machine ask.want act s ≡ Some next → ⊥

module _ (machine : Machine) (plans : List Plan) (ask : Ask) (w : Windows) (rest : State → Option ℕ) (limit : ℕ) where
  -- a start that leaves a state its rest by the limit
  pub record IsBegin (s : State) (tick : ℕ) : Type 0 where
    pub needs : ℕ
    pub starts : IsStart machine ask s
    pub begins : CanBeginFrom machine ask.now ask.origin tick
    pub rests : rest s ≡ Some needs
    pub in_time : tick + needs ≤ limit

  -- a step from a state at a tick to another that leaves that one its rest by the limit
  pub record IsStep (s : State) (start : ℕ) (next : State) (end : ℕ) : Type 0 where
    pub act : ActId
    pub needs : ℕ
    pub allowed : IsTrue (is_act_allowed machine ask.outs act)
    pub leads : step_by machine ask.want act s ≡ Some next
    pub runs : MayRun machine plans w act start end
    pub rests : rest next ≡ Some needs
    pub in_time : end + needs ≤ limit
    pub line : IsGoalState machine ask.want ask.goal next → FitsLine plans ask w end

  -- states at ticks that are closed: each start that is in time is among them, and each step from one of them leads to one
  pub record IsClosed (labels : State → ℕ → Type 0) : Type 0 where
    pub starts : (s : State) (tick : ℕ) → IsBegin s tick → labels s tick
    pub steps : (s next : State) (start end : ℕ) → labels s start → IsStep s start next end → labels next end

-- a tray of the machine, or a purge tray, is left by no action
abbrev pub GoalsLast : Type 0
GoalsLast = (machine : Machine) (ask : Ask) → IsKnownGoal machine ask.goal → GoalsAreLast machine ask
