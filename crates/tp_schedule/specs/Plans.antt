-- Copies and their order; plans in time, and which of their points are fixed.
use Rattle.std.specs.Prelude.{◌≡◌, ℕ, ◌+◌, ◌<◌, ◌≤◌, Bool, true, false, not, ◌&&◌, ◌||◌, ◌==◌, nat_lt, nat_le, List, [], ◌∷◌, length, slice_index, slice_get, Option, Some, filter, find, take, Contains, IsTrue, IsSomeAnd, if◌then◌else◌}
use Rattle.tp_machine.specs.ModuleUse.{action_at}
use Rattle.tp_machine.specs.declared.parts.ActId.{ActId}
use Rattle.tp_machine.specs.declared.parts.State.{State}
use Rattle.tp_machine.specs.declared.machine.Machine.{Machine}
use Rattle.tp_schedule.specs.Limits.{most_acts}
use Rattle.tp_schedule.specs.Routes.{walk, IsFreshStart, IsGoalState}
use Rattle.tp_schedule.specs.declared.parts.Goal.{Goal}
use Rattle.tp_schedule.specs.declared.parts.Goal.TheVariants.{Tray, Purge}
use Rattle.tp_schedule.specs.declared.parts.Kind.{Kind}
use Rattle.tp_schedule.specs.declared.parts.Kind.TheVariants.{Whole, Front}
use Rattle.tp_schedule.specs.declared.parts.Plan.{Plan}
use Rattle.tp_schedule.specs.declared.parts.SheetId.{SheetId}

-- the order of copies: by the arrival of the job, then by the sheet's number, then by the copy's number
abbrev pub is_before : SheetId → SheetId → Bool
is_before a b = nat_lt a.job b.job || ((a.job == b.job) && (nat_lt a.number b.number || ((a.number == b.number) && nat_lt a.copy b.copy)))

abbrev pub is_same_copy : SheetId → SheetId → Bool
is_same_copy a b = (a.job == b.job) && (a.number == b.number) && (a.copy == b.copy)

-- the plans stand in the order of copies, no copy twice
abbrev pub IsEarlier : Plan → Plan → Type 0
IsEarlier p q = IsTrue (is_before p.sheet q.sheet)

-- the plan of a copy, and the plans of all others
abbrev pub plan_of : SheetId → List Plan → Option Plan
plan_of copy plans = find (λ p. is_same_copy p.sheet copy) plans

abbrev pub without : SheetId → List Plan → List Plan
without copy plans = filter (λ p. not (is_same_copy p.sheet copy)) plans

-- point i of the plan, from 0 on
abbrev pub point : Plan → ℕ → ℕ
point p i = slice_index p.points i

-- the last point
abbrev pub end_of_plan : Plan → ℕ
end_of_plan p = point p (length p.acts)

-- an action that runs from start to end keeps its range of durations
abbrev pub LastsWithin : Machine → ActId → ℕ → ℕ → Type 0
LastsWithin machine act start end = IsSomeAnd (action_at machine act.0) (λ a. (start + a.least ≤ end) × (end ≤ start + a.most))

-- a whole plan ends in its goal, a front need not
abbrev pub EndsIn : Machine → Plan → Kind → State → Type 0
EndsIn machine p Whole s = IsGoalState machine p.want p.goal s
EndsIn machine p Front s = Unit {0}

-- a timed plan: 1 to 64 actions that lead from a fresh start from state to state, of which the first few are released,
-- and points that rise, one more than actions, each action running from its point to the next within its durations
pub record IsTimedPlan (machine : Machine) (p : Plan) : Type 0 where
  pub some : 0 < length p.acts
  pub at_most : length p.acts ≤ most_acts
  pub one_more : length p.points ≡ length p.acts + 1
  pub released : p.released ≤ length p.acts
  pub start : State
  pub starts : IsFreshStart machine p.want start
  pub end : State
  pub leads : walk machine p.want p.acts start ≡ Some end
  pub rise : (i : ℕ) → i < length p.acts → point p i < point p (i + 1)
  pub lasts : (i : ℕ) (act : ActId) → slice_get p.acts i ≡ Some act → LastsWithin machine act (point p i) (point p (i + 1))
  pub ends : EndsIn machine p p.kind end

abbrev pub is_front : Kind → Bool
is_front Whole = false
is_front Front = true

-- a point is fixed where it is the start or the end of a released action, or any point of a front
abbrev pub is_fixed : Plan → ℕ → Bool
is_fixed p i = is_front p.kind || (nat_lt 0 p.released && nat_le i p.released)

-- the goal is the tray
abbrev pub goes_to : Goal → ℕ → Bool
goes_to Purge tray = false
goes_to (Tray t) tray = t.0 == tray

-- the plan is whole and goes to the tray
abbrev pub is_delivered_to : Plan → ℕ → Bool
is_delivered_to p tray = not (is_front p.kind) && goes_to p.goal tray

-- plans of different jobs have different names
abbrev pub AreNamed : List Plan → Type 0
AreNamed plans = (p q : Plan) → Contains plans p → Contains plans q → p.name ≡ q.name → p.sheet.job ≡ q.sheet.job

-- a plan in its form: at least one action, one point more than actions, and at most as many released actions as actions
pub record IsFormed (p : Plan) : Type 0 where
  pub some : 0 < length p.acts
  pub one_more : length p.points ≡ length p.acts + 1
  pub released : p.released ≤ length p.acts

-- the plans with one more, in its copy's place in the order
abbrev pub put_plan : Plan → List Plan → List Plan
put_plan p [] = p ∷ []
put_plan p (q ∷ plans) = if is_before p.sheet q.sheet then p ∷ q ∷ plans else (q ∷ put_plan p plans)

-- the plans with that of the copy changed
abbrev pub change_plan : SheetId → (Plan → Plan) → List Plan → List Plan
change_plan copy f [] = []
change_plan copy f (p ∷ plans) = if is_same_copy p.sheet copy then f p ∷ plans else (p ∷ change_plan copy f plans)

-- a plan with other points
abbrev pub with_points : List ℕ → Plan → Plan
with_points points p = record p { points = points }

-- a plan with so many released actions
abbrev pub with_released : ℕ → Plan → Plan
with_released count p = record p { released = count }

-- a plan cut to its first so many actions, all of which are released
abbrev pub cut_to : ℕ → Plan → Plan
cut_to kept p = record p { kind = Front; acts = take kept p.acts; points = take (kept + 1) p.points; released = kept }
