-- A walk through the places of an order from its end: the next hold of the newest choice stands before the hold at a place,
-- and so before all behind it.
use Rattle.std.specs.Prelude.{◌≡◌, ◌↔◌, ℕ, ◌≤◌, List, ◌∷◌, ◌++◌, length, map, All, slice_get, Some}
use Rattle.tp_base.specs.Net.{Net, IsSolution, HasNoSolution, with_edges}
use Rattle.tp_base.specs.declared.edges.Edge.{Edge}
use Rattle.tp_machine.specs.Modes.{gap_at}
use Rattle.tp_machine.specs.ModuleUse.{action_at}
use Rattle.tp_machine.specs.declared.machine.Machine.{Machine}
use Rattle.tp_schedule.specs.Choices.{Choice}
use Rattle.tp_schedule.specs.Holders.{holds_of_act}
use Rattle.tp_schedule.specs.Spots.{Spot, Slot, Ticks}
use Rattle.tp_schedule.specs.declared.parts.Ask.{Ask}
use Rattle.tp_schedule.specs.declared.parts.Plan.{Plan}
use Rattle.tp_constraints.specs.Gaps.{KeepsGaps}
use Rattle.tp_constraints.specs.Hops.{Hop, IsHop, hop_after, hop_until}
use Rattle.tp_constraints.specs.Nets.{IsBoardNet}
use Rattle.tp_constraints.specs.Numbers.{gap_by, ticks_by, IsEdgeOf, IsNetFor}
use Rattle.tp_constraints.specs.Suffixes.{Suffix, SuffixTimes, IsSuffixPoint, before_place, choice_slot, gap_after, gap_until, order_in, place_gaps, suffix_cap, suffix_low, with_place}

-- the slot is that of the next hold of the newest choice
pub record IsNextHold (machine : Machine) (x : Suffix) (slot : Slot) : Type 0 where
  pub choice : Choice
  pub choices : List Choice
  pub newest : x.choices ≡ choice ∷ choices
  pub is_rule : slice_get (holds_of_act (action_at machine choice.act.0)) (length choice.places) ≡ Some slot.rule
  pub is_slot : slot ≡ choice_slot slot.rule (length choices)

-- the order in which the hold is to stand, and the gap of its resource
abbrev pub order_for : Machine → List Plan → Suffix → Slot → List Slot
order_for machine plans x slot = order_in machine plans x slot.rule.resource.0

abbrev pub gap_for : Machine → Slot → ℕ
gap_for machine slot = gap_at machine slot.rule.resource.0

-- the plans and the suffix may have these ticks, and the hold ends by the begin of the one at a place of its order. Behind
-- the last place there is none
abbrev pub WalkTimes : Machine → List Plan → Ask → Suffix → Slot → ℕ → Ticks → Type 0
WalkTimes machine plans ask x slot place t = SuffixTimes machine plans ask x t × KeepsGaps t (gap_until (gap_for machine slot) slot (slice_get (order_for machine plans x slot) place))

-- the walk begins behind the last hold
abbrev pub WalkStart : Type 0
WalkStart = (machine : Machine) (plans : List Plan) (ask : Ask) (x : Suffix) (slot : Slot) (t : Ticks) → SuffixTimes machine plans ask x t ↔ WalkTimes machine plans ask x slot (length (order_for machine plans x slot)) t

-- before the hold at a place, the hold is before each behind that: none is empty, and where a gap lies between it and a third
-- one, one lies between either of them and the second
abbrev pub WalkAhead : Type 0
WalkAhead = (machine : Machine) (plans : List Plan) (ask : Ask) (x : Suffix) (slot : Slot) (place later : ℕ) (t : Ticks) → place ≤ later → WalkTimes machine plans ask x slot place t → WalkTimes machine plans ask x slot later t

-- so a walk goes on by one gap, to the place before or further
abbrev pub WalkStep : Type 0
WalkStep = (machine : Machine) (plans : List Plan) (ask : Ask) (x : Suffix) (slot : Slot) (place later : ℕ) (t : Ticks) → place ≤ later
    → WalkTimes machine plans ask x slot place t ↔ (WalkTimes machine plans ask x slot later t × KeepsGaps t (gap_until (gap_for machine slot) slot (slice_get (order_for machine plans x slot) place)))

-- and the hold is placed by one more, from the hold before it
abbrev pub WalkPlace : Type 0
WalkPlace = (machine : Machine) (plans : List Plan) (ask : Ask) (x : Suffix) (slot : Slot) (place : ℕ) (t : Ticks) → IsNextHold machine x slot → place ≤ length (order_for machine plans x slot)
    → SuffixTimes machine plans ask (with_place place x) t ↔ (WalkTimes machine plans ask x slot place t × KeepsGaps t (gap_after (gap_for machine slot) (before_place (order_for machine plans x slot) place) slot))

-- where no ticks leave the hold before the one at a place, none have it at that place or before
abbrev pub WalkLate : Type 0
WalkLate = (machine : Machine) (plans : List Plan) (ask : Ask) (x : Suffix) (slot : Slot) (place : ℕ) → IsNextHold machine x slot → place ≤ length (order_for machine plans x slot)
    → ((t : Ticks) → ¬ WalkTimes machine plans ask x slot place t) → (earlier : ℕ) → earlier ≤ place → (t : Ticks) → ¬ SuffixTimes machine plans ask (with_place earlier x) t

-- the network of a walk
abbrev pub IsWalkNet : Machine → List Plan → Ask → Suffix → Slot → ℕ → List Spot → Net → Type 0
IsWalkNet machine plans ask x slot place table net =
    IsNetFor (IsSuffixPoint plans x) (suffix_low machine plans ask x) (suffix_cap machine plans ask) (WalkTimes machine plans ask x slot place) table net

-- behind the last hold it is that of the suffix
abbrev pub StartNet : Type 0
StartNet = (machine : Machine) (plans : List Plan) (ask : Ask) (x : Suffix) (slot : Slot) (table : List Spot) (net : Net) → IsBoardNet machine plans ask x table net
    → IsWalkNet machine plans ask x slot (length (order_for machine plans x slot)) table net

-- each step adds the edge to the hold at an earlier place, and all edges stay
abbrev pub BeforeNet : Type 0
BeforeNet = (machine : Machine) (plans : List Plan) (ask : Ask) (x : Suffix) (slot : Slot) (place later : ℕ) (table : List Spot) (net : Net) (es : List Edge) → place ≤ later → IsWalkNet machine plans ask x slot later table net
    → All (IsEdgeOf table) es → map (gap_by table) es ≡ gap_until (gap_for machine slot) slot (slice_get (order_for machine plans x slot) place)
    → IsWalkNet machine plans ask x slot place table (with_edges net es)

-- and placing the hold adds the edge from the hold before it
abbrev pub StandNet : Type 0
StandNet = (machine : Machine) (plans : List Plan) (ask : Ask) (x : Suffix) (slot : Slot) (place : ℕ) (table : List Spot) (net : Net) (es : List Edge) → IsNextHold machine x slot → place ≤ length (order_for machine plans x slot)
    → IsWalkNet machine plans ask x slot place table net
    → All (IsEdgeOf table) es → map (gap_by table) es ≡ gap_after (gap_for machine slot) (before_place (order_for machine plans x slot) place) slot
    → IsBoardNet machine plans ask (with_place place x) table (with_edges net es)

-- a network of a walk without solution closes its place and all before it
abbrev pub WalkShut : Type 0
WalkShut = (machine : Machine) (plans : List Plan) (ask : Ask) (x : Suffix) (slot : Slot) (place : ℕ) (table : List Spot) (net : Net) → IsNextHold machine x slot → place ≤ length (order_for machine plans x slot)
    → IsWalkNet machine plans ask x slot place table net → HasNoSolution net → (earlier : ℕ) → earlier ≤ place → (t : Ticks) → ¬ SuffixTimes machine plans ask (with_place earlier x) t

-- a network of a walk, with the edges to the neighbours at an earlier place, is that of the hold placed there: so what shows
-- that the walk's network has no solution shows it for each place before
abbrev pub EarlierNet : Type 0
EarlierNet = (machine : Machine) (plans : List Plan) (ask : Ask) (x : Suffix) (slot : Slot) (place earlier : ℕ) (table : List Spot) (net : Net) (es : List Edge) → IsNextHold machine x slot
    → place ≤ length (order_for machine plans x slot) → earlier ≤ place → IsWalkNet machine plans ask x slot place table net
    → All (IsEdgeOf table) es → map (gap_by table) es ≡ place_gaps (gap_for machine slot) (order_for machine plans x slot) earlier slot
    → IsBoardNet machine plans ask (with_place earlier x) table (with_edges net es)

-- the solutions of a walk's network are its ticks
abbrev pub WalkSolutions : Type 0
WalkSolutions = (machine : Machine) (plans : List Plan) (ask : Ask) (x : Suffix) (slot : Slot) (place : ℕ) (table : List Spot) (net : Net) → IsWalkNet machine plans ask x slot place table net
    → (y : ℕ → ℕ) → IsSolution net y ↔ WalkTimes machine plans ask x slot place (ticks_by table y)

-- a hop of the suffix with the hold at a place, and with it at each place before
abbrev pub IsWalkHop : Machine → List Plan → Ask → Suffix → ℕ → Hop → Type 0
IsWalkHop machine plans ask x place h = (earlier : ℕ) → earlier ≤ place → IsHop machine plans ask (with_place earlier x) h

-- the hops of a suffix are such, and each that a step of the walk adds; those that stay, stay so
abbrev pub StartHops : Type 0
StartHops = (machine : Machine) (plans : List Plan) (ask : Ask) (x : Suffix) (slot : Slot) (hs : List Hop) → IsNextHold machine x slot → All (IsHop machine plans ask x) hs
    → All (IsWalkHop machine plans ask x (length (order_for machine plans x slot))) hs

abbrev pub BeforeHops : Type 0
BeforeHops = (machine : Machine) (plans : List Plan) (ask : Ask) (x : Suffix) (slot : Slot) (place later : ℕ) (hs : List Hop) → IsNextHold machine x slot → place ≤ later → All (IsWalkHop machine plans ask x later) hs
    → All (IsWalkHop machine plans ask x place) (hs ++ hop_until machine slot.rule.resource.0 slot (slice_get (order_for machine plans x slot) place))

-- where the hold is placed, all are hops of the suffix with it
abbrev pub StandHops : Type 0
StandHops = (machine : Machine) (plans : List Plan) (ask : Ask) (x : Suffix) (slot : Slot) (place : ℕ) (hs : List Hop) → IsNextHold machine x slot → place ≤ length (order_for machine plans x slot)
    → All (IsWalkHop machine plans ask x place) hs → All (IsHop machine plans ask (with_place place x)) (hs ++ hop_after machine slot.rule.resource.0 (before_place (order_for machine plans x slot) place) slot)
