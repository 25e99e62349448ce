-- A network that is kept from moment to moment: what its edges say has nothing to do with bounds, so that only bounds move.
use Rattle.std.specs.Prelude.{◌≡◌, ◌↔◌, ℕ, ◌+◌, false, List, [], ◌++◌, map, All, Contains}
use Rattle.tp_base.specs.Net.{Net}
use Rattle.tp_base.specs.declared.edges.Edge.{Edge}
use Rattle.tp_machine.specs.declared.machine.Machine.{Machine}
use Rattle.tp_schedule.specs.Spots.{Ticks, slot_order}
use Rattle.tp_schedule.specs.declared.parts.Plan.{Plan}
use Rattle.tp_constraints.specs.Gaps.{Gap, KeepsGaps, cap_at, low_at, plan_gaps}
use Rattle.tp_constraints.specs.Laws.{IsLoadable, no_own, plans_gaps}
use Rattle.tp_constraints.specs.Nets.{IsLoadedNet}
use Rattle.tp_constraints.specs.Numbers.{IsEdgeOf, gap_by, table_of}
use Rattle.tp_constraints.specs.AddedPlan.{IsLineBefore, with_plan}
use Rattle.tp_constraints.specs.Puts.{AreWithin, Put, put_gaps, with_puts}

-- edges between the points of a schedule that say what its gaps say, whatever the bounds of the points are
pub record SayGaps (machine : Machine) (plans : List Plan) (edges : List Edge) : Type 0 where
  pub known : All (IsEdgeOf (table_of plans)) edges
  pub says : (t : Ticks) → KeepsGaps t (plans_gaps machine plans) ↔ KeepsGaps t (map (gap_by (table_of plans)) edges)

-- the gaps of a schedule as edges, in any order, say them
abbrev pub ExactSays : Type 0
ExactSays = (machine : Machine) (plans : List Plan) (edges : List Edge) → All (IsEdgeOf (table_of plans)) edges
    → All (Contains (map (gap_by (table_of plans)) edges)) (plans_gaps machine plans) → All (Contains (plans_gaps machine plans)) (map (gap_by (table_of plans)) edges)
    → SayGaps machine plans edges

-- with the bounds of a moment they are the network of the schedule at that moment
abbrev pub SaysLoaded : Type 0
SaysLoaded = (machine : Machine) (now : ℕ) (plans : List Plan) (net : Net) → IsLoadable machine now (λ _. false) plans → SayGaps machine plans net.edges
    → net.lows ≡ map (low_at (now + machine.lead) (λ _. false) plans no_own) (table_of plans) → net.caps ≡ map (cap_at (now + machine.window) plans) (table_of plans)
    → IsLoadedNet machine now (λ _. false) plans (table_of plans) net

-- with the edges of a plan more they say the gaps of the schedule with it
abbrev pub PlanSays : Type 0
PlanSays = (machine : Machine) (now : ℕ) (plans : List Plan) (p : Plan) (puts : List Put) (lines : List Gap) (edges es : List Edge)
    → IsLoadable machine now (λ _. false) plans → IsLoadable machine now (λ _. false) (with_plan plans p) → SayGaps machine plans edges
    → AreWithin puts (slot_order machine plans) → ((resource : ℕ) → with_puts puts (slot_order machine plans) resource ≡ slot_order machine (with_plan plans p) resource)
    → IsLineBefore plans p lines → All (IsEdgeOf (table_of (with_plan plans p))) es
    → map (gap_by (table_of (with_plan plans p))) es ≡ plan_gaps machine p ++ (lines ++ put_gaps machine puts (slot_order machine plans))
    → SayGaps machine (with_plan plans p) (edges ++ es)

-- a plan but for its points and for how much of it is released
abbrev pub shape_of : Plan → Plan
shape_of p = record p { points = []; released = 0 }

-- where plans are the same but for that, and the orders of their holds stay, the edges say the same
abbrev pub ShapeSays : Type 0
ShapeSays = (machine : Machine) (plans plans' : List Plan) (edges : List Edge) → map shape_of plans' ≡ map shape_of plans
    → ((resource : ℕ) → slot_order machine plans' resource ≡ slot_order machine plans resource) → SayGaps machine plans edges → SayGaps machine plans' edges
