-- The network of a loaded schedule and that of a board with choices: its solutions are the ticks, and each step of the
-- board adds points and edges to it.
use Rattle.std.specs.Prelude.{◌≡◌, ◌↔◌, ℕ, suc, ◌+◌, ◌≤◌, Bool, false, List, [], ◌∷◌, ◌++◌, length, map, All, Contains, slice_get, Some, IsFalse, IsSome}
use Rattle.tp_base.specs.Net.{Net, IsSolution, IsLeast, IsEarliest, HasNoSolution, with_point, with_edges}
use Rattle.tp_base.specs.declared.edges.Edge.{Edge}
use Rattle.tp_machine.specs.Modes.{gap_at}
use Rattle.tp_machine.specs.ModuleUse.{action_at}
use Rattle.tp_machine.specs.declared.parts.ActId.{ActId}
use Rattle.tp_machine.specs.declared.parts.HoldRule.{HoldRule}
use Rattle.tp_machine.specs.declared.machine.Machine.{Machine}
use Rattle.tp_schedule.specs.Answers.{IsAsked}
use Rattle.tp_schedule.specs.Choices.{Choice, start_floor}
use Rattle.tp_schedule.specs.Holders.{holds_of_act}
use Rattle.tp_schedule.specs.Spots.{Spot, Ticks}
use Rattle.tp_schedule.specs.Spots.Spot.{own}
use Rattle.tp_schedule.specs.declared.parts.Ask.{Ask}
use Rattle.tp_schedule.specs.declared.parts.Plan.{Plan}
use Rattle.tp_constraints.specs.Gaps.{IsPoint, low_at, cap_at, range_gaps}
use Rattle.tp_constraints.specs.Laws.{IsLoadable, LoadedTimes, plans_gaps, no_own}
use Rattle.tp_constraints.specs.Numbers.{ticks_by, number, gap_by, IsTable, IsEdgeOf, IsNetFor}
use Rattle.tp_constraints.specs.Suffixes.{Suffix, SuffixTimes, IsInFlight, suffix_low, suffix_cap, IsSuffixPoint, order_in, place_gaps, choice_slot, with_action, with_place, with_stop, with_goal, stop_gaps, end_gaps}

abbrev pub IsLoadedNet : Machine → ℕ → (Plan → Bool) → List Plan → List Spot → Net → Type 0
IsLoadedNet machine now exempt plans table net =
    IsNetFor (IsPoint plans 0) (low_at (now + machine.lead) exempt plans no_own) (cap_at (now + machine.window) plans) (LoadedTimes machine now exempt plans) table net

abbrev pub IsBoardNet : Machine → List Plan → Ask → Suffix → List Spot → Net → Type 0
IsBoardNet machine plans ask x table net =
    IsNetFor (IsSuffixPoint plans x) (suffix_low machine plans ask x) (suffix_cap machine plans ask) (SuffixTimes machine plans ask x) table net

-- the solutions, read as ticks, are the times
abbrev pub BoardSolutions : Type 0
BoardSolutions = (machine : Machine) (plans : List Plan) (ask : Ask) (s : Suffix) (table : List Spot) (net : Net) → IsBoardNet machine plans ask s table net
    → (x : ℕ → ℕ) → IsSolution net x ↔ SuffixTimes machine plans ask s (ticks_by table x)

abbrev pub LoadedSolutions : Type 0
LoadedSolutions = (machine : Machine) (now : ℕ) (exempt : Plan → Bool) (plans : List Plan) (table : List Spot) (net : Net) → IsLoadedNet machine now exempt plans table net
    → (x : ℕ → ℕ) → IsSolution net x ↔ LoadedTimes machine now exempt plans (ticks_by table x)

-- there is no solution exactly where there are no times
abbrev pub BoardLate : Type 0
BoardLate = (machine : Machine) (plans : List Plan) (ask : Ask) (s : Suffix) (table : List Spot) (net : Net) → IsBoardNet machine plans ask s table net
    → HasNoSolution net ↔ ((t : Ticks) → ¬ SuffixTimes machine plans ask s t)

-- the least solution gives each point its least tick, and the earliest time of the point is that tick
abbrev pub BoardLeast : Type 0
BoardLeast = (machine : Machine) (plans : List Plan) (ask : Ask) (s : Suffix) (table : List Spot) (net : Net) → IsBoardNet machine plans ask s table net
    → (x : ℕ → ℕ) → IsLeast net x → (p : Spot) → IsSuffixPoint plans s p
    → ((t : Ticks) → SuffixTimes machine plans ask s t → ticks_by table x p ≤ t p) × ((tick : ℕ) → IsEarliest net (number table p) tick → tick ≡ ticks_by table x p)

-- a network with the points and bounds of a schedule and with its gaps as edges, in any order, is its network
abbrev pub LoadNet : Type 0
LoadNet = (machine : Machine) (now : ℕ) (exempt : Plan → Bool) (plans : List Plan) (table : List Spot) (net : Net) → IsLoadable machine now exempt plans
    → IsTable (IsPoint plans 0) table → net.lows ≡ map (low_at (now + machine.lead) exempt plans no_own) table → net.caps ≡ map (cap_at (now + machine.window) plans) table
    → All (IsEdgeOf table) net.edges → All (Contains (map (gap_by table) net.edges)) (plans_gaps machine plans) → All (Contains (plans_gaps machine plans)) (map (gap_by table) net.edges)
    → IsLoadedNet machine now exempt plans table net

-- an opened goal adds the end's point and the gaps of its line
abbrev pub GoalNet : Type 0
GoalNet = (machine : Machine) (plans : List Plan) (ask : Ask) (room : ℕ) (table : List Spot) (net : Net) (es : List Edge) → IsLoadedNet machine ask.now (λ _. false) plans table net
    → All (IsEdgeOf (table ++ own 0 ∷ [])) es → map (gap_by (table ++ own 0 ∷ [])) es ≡ end_gaps ask plans
    → IsBoardNet machine plans ask (with_goal room) (table ++ own 0 ∷ []) (with_edges (with_point net (start_floor machine ask.now ask.origin + room) (ask.now + machine.window)) es)

-- one choice more adds its start's point and the gaps of its duration
abbrev pub ActionNet : Type 0
ActionNet = (machine : Machine) (plans : List Plan) (ask : Ask) (x : Suffix) (act : ActId) (room : ℕ) (table : List Spot) (net : Net) (es : List Edge)
    → length x.rooms ≡ suc (length x.choices) → IsFalse x.stopped → IsSome (action_at machine act.0) → IsBoardNet machine plans ask x table net
    → All (IsEdgeOf (table ++ own (suc (length x.choices)) ∷ [])) es → map (gap_by (table ++ own (suc (length x.choices)) ∷ [])) es ≡ range_gaps (action_at machine act.0) (own (suc (length x.choices))) (own (length x.choices))
    → IsBoardNet machine plans ask (with_action act room x) (table ++ own (suc (length x.choices)) ∷ []) (with_edges (with_point net (start_floor machine ask.now ask.origin + room) (ask.now + machine.window)) es)

-- one place more adds the gaps to the neighbours
abbrev pub PlaceNet : Type 0
PlaceNet = (machine : Machine) (plans : List Plan) (ask : Ask) (x : Suffix) (c : Choice) (choices : List Choice) (rule : HoldRule) (place : ℕ) (table : List Spot) (net : Net) (es : List Edge)
    → x.choices ≡ c ∷ choices → slice_get (holds_of_act (action_at machine c.act.0)) (length c.places) ≡ Some rule → place ≤ length (order_in machine plans x rule.resource.0)
    → IsBoardNet machine plans ask x table net
    → All (IsEdgeOf table) es → map (gap_by table) es ≡ place_gaps (gap_at machine rule.resource.0) (order_in machine plans x rule.resource.0) place (choice_slot rule (length choices))
    → IsBoardNet machine plans ask (with_place place x) table (with_edges net es)

-- the stop adds a gap from the first point to the front's end
abbrev pub StopNet : Type 0
StopNet = (machine : Machine) (plans : List Plan) (ask : Ask) (x : Suffix) (table : List Spot) (net : Net) (es : List Edge) → IsAsked machine plans ask → IsInFlight ask.origin → IsFalse x.stopped
    → IsBoardNet machine plans ask x table net → All (IsEdgeOf table) es → map (gap_by table) es ≡ stop_gaps ask (length x.choices) (with_stop x).stopped
    → IsBoardNet machine plans ask (with_stop x) table (with_edges net es)
