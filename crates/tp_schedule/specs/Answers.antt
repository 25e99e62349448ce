-- The answers to an ask: which schedules answer it, which of them end the copy first, and which are least.
use Rattle.std.specs.Prelude.{◌≡◌, ℕ, ◌+◌, ◌<◌, ◌≤◌, Bool, true, not, ◌&&◌, nat_lt, List, [], ◌++◌, length, map, filter, Option, Some, None, Contains, IsTrue, IsFalse}
use Rattle.tp_machine.specs.declared.parts.ActId.{ActId}
use Rattle.tp_machine.specs.declared.parts.State.{State}
use Rattle.tp_machine.specs.declared.machine.Machine.{Machine}
use Rattle.tp_schedule.specs.Routes.{walk, IsFreshStart, IsRoute, AreAllowed}
use Rattle.tp_schedule.specs.Plans.{plan_of, without, point, end_of_plan, is_fixed, is_same_copy}
use Rattle.tp_schedule.specs.Legality.{IsLegal}
use Rattle.tp_schedule.specs.Spots.{Spot, Slot, slot_order, ticks_of}
use Rattle.tp_schedule.specs.Spots.Spot.{kept, own}
use Rattle.tp_schedule.specs.declared.parts.Ask.{Ask}
use Rattle.tp_schedule.specs.declared.parts.Kind.TheVariants.{Whole, Front}
use Rattle.tp_schedule.specs.declared.parts.Origin.{Origin}
use Rattle.tp_schedule.specs.declared.parts.Origin.TheVariants.{Feeder as FromFeeder, Front as FromFront}
use Rattle.tp_schedule.specs.declared.parts.Plan.{Plan}
use Rattle.tp_schedule.specs.declared.parts.SheetId.{SheetId}

-- the number of actions that the asked copy keeps
abbrev pub kept_from : Origin → ℕ
kept_from FromFeeder = 0
kept_from (FromFront state end count) = count

abbrev pub kept_of : Ask → ℕ
kept_of ask = kept_from ask.origin

-- the front of an asked copy in flight, as its origin tells: of so many actions, all of them released, that ends at this
-- tick, and leads to this state
pub record IsFrontOf (machine : Machine) (ask : Ask) (state : State) (end count : ℕ) (p : Plan) : Type 0 where
  pub front : p.kind ≡ Front
  pub name : p.name ≡ ask.name
  pub want : p.want ≡ ask.want
  pub acts : length p.acts ≡ count
  pub released : p.released ≡ count
  pub ends : end_of_plan p ≡ end
  pub some : 0 < count
  pub start : State
  pub starts : IsFreshStart machine ask.want start
  pub leads : walk machine ask.want p.acts start ≡ Some state

abbrev pub IsAskedFrom : Machine → List Plan → Ask → Origin → Type 0
IsAskedFrom machine plans ask FromFeeder = plan_of ask.sheet plans ≡ None
IsAskedFrom machine plans ask (FromFront state end count) = (p : Plan) × (plan_of ask.sheet plans ≡ Some p) × IsFrontOf machine ask state end count p

-- the asked copy's origin fits the schedule: a new copy has no plan there, and a copy in flight has its front
abbrev pub IsAsked : Machine → List Plan → Ask → Type 0
IsAsked machine plans ask = IsAskedFrom machine plans ask ask.origin

-- a plan but for its points
abbrev pub unmoved : Plan → Plan
unmoved p = record p { points = [] }

-- the actions that the copy has in the schedule
abbrev pub acts_in : Option Plan → List ActId
acts_in None = []
acts_in (Some p) = p.acts

abbrev pub kept_acts : SheetId → List Plan → List ActId
kept_acts copy plans = acts_in (plan_of copy plans)

-- the plan of the asked copy: whole, with the ask's name, want and goal, by a route of allowed actions after the kept
-- ones, of which exactly the kept ones are released
pub record AnswersAsk (machine : Machine) (plans : List Plan) (ask : Ask) (p : Plan) : Type 0 where
  pub sheet : p.sheet ≡ ask.sheet
  pub name : p.name ≡ ask.name
  pub want : p.want ≡ ask.want
  pub goal : p.goal ≡ ask.goal
  pub whole : p.kind ≡ Whole
  pub route : List ActId
  pub acts : p.acts ≡ kept_acts ask.sheet plans ++ route
  pub is_route : IsRoute machine ask route
  pub allowed : AreAllowed machine ask.outs route
  pub released : p.released ≡ kept_of ask

-- every point that is fixed in the first schedule is equal in the second
abbrev pub KeepsFixed : List Plan → List Plan → Type 0
KeepsFixed plans plans' = (p p' : Plan) → Contains plans p → plan_of p.sheet plans' ≡ Some p' → (i : ℕ) → IsTrue (is_fixed p i) → i ≤ length p.acts → point p' i ≡ point p i

-- a new hold of the asked copy: its action ends at a point behind the kept ones
abbrev pub is_new_spot : Ask → Spot → Bool
is_new_spot ask (kept copy i) = is_same_copy copy ask.sheet && nat_lt (kept_of ask) i
is_new_spot ask (own n) = true

abbrev pub is_new : Ask → Slot → Bool
is_new ask s = is_new_spot ask s.to

-- the plan of an asked copy in flight, whose new actions follow its front
abbrev pub follows_front : Ask → Plan → Bool
follows_front ask p = is_same_copy p.sheet ask.sheet && nat_lt 0 (kept_of ask)

-- each unreleased start is above now + lead, but for those of an exempt plan
abbrev pub KeepsFloors : Machine → ℕ → (Plan → Bool) → List Plan → Type 0
KeepsFloors machine now exempt plans = (p : Plan) → Contains plans p → IsFalse (exempt p) → (i : ℕ) → p.released ≤ i → i < length p.acts → now + machine.lead < point p i

-- each point that is not fixed is at most the horizon, now + window
abbrev pub KeepsHorizon : Machine → ℕ → List Plan → Type 0
KeepsHorizon machine now plans = (p : Plan) → Contains plans p → (i : ℕ) → i ≤ length p.acts → IsFalse (is_fixed p i) → point p i ≤ now + machine.window

-- an alternative: the second schedule answers the ask on the first. Both are legal. The other plans are the same but for
-- their points, and the asked copy has a plan that answers the ask. Fixed points stay; on each resource the order of the
-- holds, less the asked copy's new ones, stays; floors and horizon are kept
pub record IsAlternative (machine : Machine) (plans : List Plan) (ask : Ask) (plans' : List Plan) : Type 0 where
  pub legal_before : IsLegal machine plans
  pub legal : IsLegal machine plans'
  pub others : map unmoved (without ask.sheet plans') ≡ map unmoved (without ask.sheet plans)
  pub plan : Plan
  pub planned : plan_of ask.sheet plans' ≡ Some plan
  pub answers : AnswersAsk machine plans ask plan
  pub fixed : KeepsFixed plans plans'
  pub orders : (resource : ℕ) → filter (λ s. not (is_new ask s)) (slot_order machine plans' resource) ≡ slot_order machine plans resource
  pub floors : KeepsFloors machine ask.now (follows_front ask) plans'
  pub horizon : KeepsHorizon machine ask.now plans'

-- no alternative ends the asked copy before the tick
abbrev pub NoneBefore : Machine → List Plan → Ask → ℕ → Type 0
NoneBefore machine plans ask end = (plans' : List Plan) (a : IsAlternative machine plans ask plans') → end ≤ end_of_plan a.plan

-- earliest: an alternative, and none ends the asked copy sooner
pub record IsEarliest (machine : Machine) (plans : List Plan) (ask : Ask) (plans' : List Plan) : Type 0 where
  pub alternative : IsAlternative machine plans ask plans'
  pub first : NoneBefore machine plans ask (end_of_plan alternative.plan)

-- the second schedule is legal, has the plans, actions, orders and fixed points of the first, and keeps floors and horizon
pub record IsRetimed (machine : Machine) (now : ℕ) (exempt : Plan → Bool) (plans plans' : List Plan) : Type 0 where
  pub legal : IsLegal machine plans'
  pub same : map unmoved plans' ≡ map unmoved plans
  pub fixed : KeepsFixed plans plans'
  pub orders : (resource : ℕ) → slot_order machine plans' resource ≡ slot_order machine plans resource
  pub floors : KeepsFloors machine now exempt plans'
  pub horizon : KeepsHorizon machine now plans'

-- least: no legal schedule with the same plans, actions, orders, fixed points, floors and horizon has any point at a
-- smaller tick
abbrev pub IsLeast : Machine → ℕ → (Plan → Bool) → List Plan → Type 0
IsLeast machine now exempt plans = (plans' : List Plan) → IsRetimed machine now exempt plans plans' → (p : Plan) → Contains plans p → (i : ℕ) → i ≤ length p.acts → point p i ≤ ticks_of plans' (kept p.sheet i)
