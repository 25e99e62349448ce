-- Points that could stand earlier, and the marks and steps by which they are found.
use Rattle.std.specs.Prelude.{◌≡◌, ℕ, zero, suc, ◌+◌, ◌<◌, ◌≤◌, ◌-◌, ◌==◌, ◌&&◌, ◌⊎◌, Bool, false, List, [], ◌∷◌, ◌++◌, flat_map, length, ◌+ℤ◌, Option, Some, None, All, Contains, slice_get, if◌then◌else◌}
use Rattle.std.specs.Ordering.{int_eq}
use Rattle.tp_machine.specs.ModuleUse.{action_at}
use Rattle.tp_machine.specs.declared.machine.Machine.{Machine}
use Rattle.tp_machine.specs.declared.parts.ActId.{ActId}
use Rattle.tp_machine.specs.declared.parts.Action.{Action}
use Rattle.tp_machine.specs.declared.parts.Anchor.{Anchor}
use Rattle.tp_machine.specs.declared.parts.Anchor.TheVariants.{Start, End as AtEnd}
use Rattle.tp_schedule.specs.Answers.{IsRetimed}
use Rattle.tp_schedule.specs.Plans.{is_same_copy, point}
use Rattle.tp_schedule.specs.Spots.{Spot, Ticks, ticks_of}
use Rattle.tp_schedule.specs.Spots.Spot.{kept}
use Rattle.tp_schedule.specs.declared.parts.Plan.{Plan}
use Rattle.tp_schedule.specs.declared.parts.SheetId.{SheetId}
use Rattle.tp_constraints.specs.Gaps.{Gap, low_of}
use Rattle.tp_constraints.specs.Supports.{IsTight}
use Rattle.tp_schedule_check.specs.Holds.{free_at}
use Rattle.tp_schedule_check.specs.declared.early.Early.{Early}
use Rattle.tp_schedule_check.specs.declared.held.NumberedHold.{NumberedHold}
use Rattle.tp_schedule_check.specs.declared.line_ends.PlanEnd.{PlanEnd}
use Rattle.tp_schedule_check.specs.Marks.{IsMarked}
use Rattle.tp_schedule_check.specs.declared.marks.MarkStep.{MarkStep}

-- the plans that are exempt from their floors: none, or that of the copy
abbrev pub is_exempt : Option SheetId → Plan → Bool
is_exempt None p = false
is_exempt (Some copy) p = is_same_copy p.sheet copy

-- a point of a copy's plan stands at the tick, and in another legal schedule with the same plans, actions, orders, fixed points,
-- floors and horizon at an earlier one
pub record IsEarly (machine : Machine) (now : ℕ) (exempt : Plan → Bool) (plans : List Plan) (early : Early) : Type 0 where
  pub plan : Plan
  pub planned : Contains plans plan
  pub of : plan.sheet ≡ early.sheet
  pub at : early.at ≤ length plan.acts
  pub given : point plan early.at ≡ early.given
  pub less : early.earlier < early.given
  pub others : List Plan
  pub retimed : IsRetimed machine now exempt plans others
  pub there : ticks_of others (kept early.sheet early.at) ≡ early.earlier

-- so many values of a function from a number on
abbrev pub values_from : {X : Type 0} → (ℕ → X) → ℕ → ℕ → List X
values_from f i zero = []
values_from f i (suc n) = f i ∷ values_from f (suc i) n

-- whether each point of a plan stands at its least tick, and the same of plans
abbrev pub is_low : ℕ → (Plan → Bool) → Plan → ℕ → Bool
is_low floor exempt p i = point p i == low_of floor exempt p i

abbrev pub plan_marks : ℕ → (Plan → Bool) → Plan → List Bool
plan_marks floor exempt p = values_from (is_low floor exempt p) 0 (length p.acts + 1)

abbrev pub low_marks : ℕ → (Plan → Bool) → List Plan → List Bool
low_marks floor exempt plans = flat_map (plan_marks floor exempt) plans

abbrev pub step_to : ℕ → ℕ → MarkStep
step_to from to = record { from = from; to = to }

-- the steps of an action that lasts its least or its most, between two points of which the first has this number
abbrev pub act_steps : Option Action → ℕ → ℕ → ℕ → List MarkStep
act_steps None n start end = []
act_steps (Some a) n start end =
    (if (start + a.least) == end then step_to n (n + 1) ∷ [] else []) ++ (if (start + a.most) == end then step_to (n + 1) n ∷ [] else [])

abbrev pub acts_steps : Machine → ℕ → List ActId → List ℕ → List MarkStep
acts_steps machine n [] points = []
acts_steps machine n (act ∷ acts) [] = []
acts_steps machine n (act ∷ acts) (start ∷ []) = []
acts_steps machine n (act ∷ acts) (start ∷ end ∷ points) = act_steps (action_at machine act.0) n start end ++ acts_steps machine (n + 1) acts (end ∷ points)

abbrev pub plans_steps : Machine → ℕ → List Plan → List MarkStep
plans_steps machine n [] = []
plans_steps machine n (p ∷ plans) = acts_steps machine n p.acts p.points ++ plans_steps machine (n + (length p.acts + 1)) plans

-- the steps of lines whose later end stands directly behind the earlier one
abbrev pub pair_steps : PlanEnd × PlanEnd → List MarkStep
pair_steps pair = if (pair.0.tick + 1) == pair.1.tick then step_to pair.0.number pair.1.number ∷ [] else []

-- the number of an anchor's point
abbrev pub anchor_point : Anchor → NumberedHold → ℕ
anchor_point Start h = h.from
anchor_point AtEnd h = h.to

-- both are of one resource, and the second begins as soon as the first and the gap between them have ended
abbrev pub touches : Machine → NumberedHold → NumberedHold → Bool
touches machine x y =
    (x.rule.resource.0 == y.rule.resource.0) && int_eq (free_at machine x y) y.begin

abbrev pub hold_steps : Machine → NumberedHold → NumberedHold → List MarkStep
hold_steps machine x y =
    if touches machine x y then step_to (anchor_point x.rule.end x) (anchor_point y.rule.begin y) ∷ [] else []

abbrev pub chain_steps : Machine → List NumberedHold → List MarkStep
chain_steps machine [] = []
chain_steps machine (x ∷ []) = []
chain_steps machine (x ∷ y ∷ holds) = hold_steps machine x y ++ chain_steps machine (y ∷ holds)

-- the step is the gap's, by the numbers of points in a table
abbrev pub IsStepOf : List Spot → Gap → MarkStep → Type 0
IsStepOf table g s = (slice_get table s.from ≡ Some g.from) × (slice_get table s.to ≡ Some g.to)

pub record IsTightStep (table : List Spot) (t : Ticks) (gaps : List Gap) (s : MarkStep) : Type 0 where
  pub by : Gap
  pub among : Contains gaps by
  pub tight : IsTight t by
  pub of : IsStepOf table by s

-- the steps are those of the gaps that the ticks leave no room
pub record AreTightSteps (table : List Spot) (t : Ticks) (gaps : List Gap) (steps : List MarkStep) : Type 0 where
  pub sound : All (IsTightStep table t gaps) steps
  pub all : (g : Gap) → Contains gaps g → IsTight t g → (s : MarkStep) × Contains steps s × IsStepOf table g s

-- each point of the plans is marked, where the first of them has this number
abbrev pub AreMarked : List Bool → ℕ → List Plan → Type 0
AreMarked marks n [] = Unit {0}
AreMarked marks n (p ∷ plans) = ((i : ℕ) → i ≤ length p.acts → IsMarked marks (n + i)) × AreMarked marks (n + (length p.acts + 1)) plans

-- a point of the plan is not marked
pub record IsUnmarkedIn (marks : List Bool) (n : ℕ) (p : Plan) (early : Early) : Type 0 where
  pub sheet : early.sheet ≡ p.sheet
  pub at : early.at ≤ length p.acts
  pub given : early.given ≡ point p early.at
  pub earlier : early.earlier ≡ early.given - 1
  pub bare : slice_get marks (n + early.at) ≡ Some false

abbrev pub IsUnmarkedAt : List Bool → ℕ → List Plan → Early → Type 0
IsUnmarkedAt marks n [] early = ⊥
IsUnmarkedAt marks n (p ∷ plans) early = IsUnmarkedIn marks n p early ⊎ IsUnmarkedAt marks (n + (length p.acts + 1)) plans early
