-- A plan more, behind all others in the order of copies: what it makes of the orders, the network and the hops of a schedule.
use Rattle.std.specs.Prelude.{◌≡◌, ℕ, ◌+◌, false, List, [], ◌∷◌, ◌++◌, map, All, IsTrue, pos}
use Rattle.tp_base.specs.Net.{Net}
use Rattle.tp_base.specs.declared.edges.Edge.{Edge}
use Rattle.tp_machine.specs.declared.machine.Machine.{Machine}
use Rattle.tp_schedule.specs.Spots.{slot_order, ticks_of}
use Rattle.tp_schedule.specs.Spots.Spot.{own}
use Rattle.tp_schedule.specs.declared.parts.Ask.{Ask}
use Rattle.tp_schedule.specs.declared.parts.Plan.{Plan}
use Rattle.tp_constraints.specs.Gaps.{Gap, KeepsGaps, cap_at, end_spot, gap, is_same_line, low_at, plan_gaps}
use Rattle.tp_constraints.specs.Hops.{Hop, IsHop, acts_hops, hop, no_choices}
use Rattle.tp_constraints.specs.Hops.HopKind.{line}
use Rattle.tp_constraints.specs.Laws.{IsLoadable, no_own}
use Rattle.tp_constraints.specs.Nets.{IsLoadedNet}
use Rattle.tp_constraints.specs.Numbers.{IsEdgeOf, gap_by, table_of}
use Rattle.tp_constraints.specs.Puts.{AreHoldsOf, AreWithin, Put, put_gaps, put_hops, with_puts}

abbrev pub with_plan : List Plan → Plan → List Plan
with_plan plans p = plans ++ p ∷ []

-- the gap by which the last plan of its line ends before the plan, if there is one: no plan behind it is of that line
pub data IsLineBefore (plans : List Plan) (p : Plan) : List Gap → Type 0 where
  first_of_line : All (λ q. is_same_line q p ≡ false) plans → IsLineBefore plans p []
  behind : (before later : List Plan) (q : Plan) → plans ≡ before ++ q ∷ later → IsTrue (is_same_line q p) → All (λ r. is_same_line r p ≡ false) later
      → IsLineBefore plans p (gap (end_spot q) (end_spot p) (pos 1) ∷ [])

-- the holds of the plan, each put in where its neighbours leave it room at the schedule's own ticks, come to stand in the
-- orders of the schedule with the plan
abbrev pub PlanOrder : Type 0
PlanOrder = (machine : Machine) (now : ℕ) (plans : List Plan) (p : Plan) (puts : List Put) → IsLoadable machine now (λ _. false) (with_plan plans p)
    → AreHoldsOf machine p puts → AreWithin puts (slot_order machine plans) → KeepsGaps (ticks_of (with_plan plans p)) (put_gaps machine puts (slot_order machine plans))
    → (resource : ℕ) → with_puts puts (slot_order machine plans) resource ≡ slot_order machine (with_plan plans p) resource

-- the points of the plan behind those of the others, and edges for its durations, its line and the neighbours of its holds,
-- make the network of the schedule with the plan. What edges there were stay
abbrev pub PlanNet : Type 0
PlanNet = (machine : Machine) (now : ℕ) (plans : List Plan) (p : Plan) (puts : List Put) (lines : List Gap) (net new : Net) (es : List Edge)
    → IsLoadable machine now (λ _. false) plans → IsLoadable machine now (λ _. false) (with_plan plans p) → IsLoadedNet machine now (λ _. false) plans (table_of plans) net
    → AreWithin puts (slot_order machine plans) → ((resource : ℕ) → with_puts puts (slot_order machine plans) resource ≡ slot_order machine (with_plan plans p) resource)
    → IsLineBefore plans p lines
    → new.lows ≡ map (low_at (now + machine.lead) (λ _. false) (with_plan plans p) no_own) (table_of (with_plan plans p))
    → new.caps ≡ map (cap_at (now + machine.window) (with_plan plans p)) (table_of (with_plan plans p))
    → new.edges ≡ net.edges ++ es → All (IsEdgeOf (table_of (with_plan plans p))) es
    → map (gap_by (table_of (with_plan plans p))) es ≡ plan_gaps machine p ++ (lines ++ put_gaps machine puts (slot_order machine plans))
    → IsLoadedNet machine now (λ _. false) (with_plan plans p) (table_of (with_plan plans p)) new

-- hops stay hops with the plan, and what it adds are hops
abbrev pub PlanHops : Type 0
PlanHops = (machine : Machine) (now : ℕ) (plans : List Plan) (p : Plan) (puts : List Put) (lines : List Gap) (ask : Ask) (hs : List Hop) → IsLoadable machine now (λ _. false) (with_plan plans p)
    → AreWithin puts (slot_order machine plans) → ((resource : ℕ) → with_puts puts (slot_order machine plans) resource ≡ slot_order machine (with_plan plans p) resource)
    → IsLineBefore plans p lines → All (IsHop machine plans ask no_choices) hs
    → All (IsHop machine (with_plan plans p) ask no_choices) (hs ++ (acts_hops machine p.sheet 0 p.acts ++ (map (hop line) lines ++ put_hops machine puts (slot_order machine plans))))

-- what is asked is nothing to a hop between two points of plans
abbrev pub OtherAsk : Type 0
OtherAsk = (machine : Machine) (plans : List Plan) (ask other : Ask) (h : Hop) → ((n : ℕ) → h.gap.from ≡ own n → ⊥) → ((n : ℕ) → h.gap.to ≡ own n → ⊥)
    → IsHop machine plans ask no_choices h → IsHop machine plans other no_choices h
