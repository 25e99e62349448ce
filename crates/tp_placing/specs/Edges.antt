-- The edges of a board's network, as the gaps that they stand for.
use Rattle.std.specs.Prelude.{ℕ, zero, suc, Bool, ◌&&◌, ◌+◌, List, [], ◌∷◌, ◌++◌, length, ℤ, pos, neg_ℤ, ◌-ℤ◌, ◌+ℤ◌, Option, Some, None, slice_get, if◌then◌else◌}
use Rattle.tp_base.specs.declared.edges.Edge.{Edge}
use Rattle.tp_base.specs.declared.edges.PointId.{PointId}
use Rattle.tp_machine.specs.Modes.{gap_between}
use Rattle.tp_machine.specs.declared.parts.Action.{Action}
use Rattle.tp_machine.specs.declared.parts.Anchor.{Anchor}
use Rattle.tp_machine.specs.declared.parts.Anchor.TheVariants.{Start, End}
use Rattle.tp_schedule.specs.Plans.{is_before}
use Rattle.tp_schedule.specs.declared.parts.Ask.{Ask}
use Rattle.tp_schedule.specs.declared.parts.Plan.{Plan}
use Rattle.tp_constraints.specs.Gaps.{is_in_line}
use Rattle.tp_placing.specs.Causes.{forward_tag, back_tag, line_tag}
use Rattle.tp_placing.specs.declared.parts.Held.{Held}

abbrev pub edge_of : PointId → PointId → ℤ → ℕ → Edge
edge_of from to weight tag = record { from = from; to = to; weight = weight; tag = tag }

-- an action lasts at least its least, and at most its most
abbrev pub duration_edges : Action → PointId → PointId → List Edge
duration_edges a start end = edge_of start end (pos a.least) forward_tag ∷ edge_of end start (neg_ℤ (pos a.most)) back_tag ∷ []

abbrev pub anchor_point : Anchor → PointId → PointId → PointId
anchor_point Start start end = start
anchor_point End start end = end

-- a hold is apart from another on a resource with this gap
abbrev pub hold_edge : ℕ → Held → Held → ℕ → Edge
hold_edge gap x y tag =
    edge_of (anchor_point x.rule.end x.start x.end) (anchor_point y.rule.begin y.start y.end) ((x.rule.end_off -ℤ y.rule.begin_off) +ℤ pos (gap_between gap x.rule y.rule)) tag

abbrev pub edge_after : ℕ → Option Held → Held → ℕ → List Edge
edge_after gap None h tag = []
edge_after gap (Some x) h tag = hold_edge gap x h tag ∷ []

abbrev pub edge_until : ℕ → Held → Option Held → ℕ → List Edge
edge_until gap h None tag = []
edge_until gap h (Some y) tag = hold_edge gap h y tag ∷ []

-- both, with the two tags of a step
abbrev pub edges_around : ℕ → Option Held → Held → Option Held → ℕ → List Edge
edges_around gap before h behind tag = edge_after gap before h tag ++ edge_until gap h behind (tag + 1)

-- the same, that to the hold behind first
abbrev pub edges_back : ℕ → Option Held → Held → Option Held → ℕ → List Edge
edges_back gap before h behind tag = edge_until gap h behind (tag + 1) ++ edge_after gap before h tag

-- the holds that stand before and behind a place of an order
abbrev pub held_of : List Held → Option ℕ → Option Held
held_of held None = None
held_of held (Some id) = slice_get held id

abbrev pub held_before : List Held → List ℕ → ℕ → Option Held
held_before held order zero = None
held_before held order (suc place) = held_of held (slice_get order place)

abbrev pub held_behind : List Held → List ℕ → ℕ → Option Held
held_behind held order place = held_of held (slice_get order place)

-- the plan is of the asked copy's line, and of an earlier copy, or of a later one
abbrev pub is_ahead : Ask → Plan → Bool
is_ahead ask p = is_in_line ask.goal p && is_before p.sheet ask.sheet

abbrev pub is_behind : Ask → Plan → Bool
is_behind ask p = is_in_line ask.goal p && is_before ask.sheet p.sheet

abbrev pub plan_end : Plan → PointId → PointId
plan_end p first = record { 0 = first.0 + length p.acts }

abbrev pub end_if : Bool → PointId → Option PointId
end_if wanted end = if wanted then Some end else None

-- the first of two that is there
abbrev pub first_of : {X : Type 0} → Option X → Option X → Option X
first_of None other = other
first_of (Some x) other = Some x

-- the last points of the last and of the first of some plans, each plan with its first point
abbrev pub last_end : (Plan → Bool) → List Plan → List PointId → Option PointId
last_end wanted [] firsts = None
last_end wanted (p ∷ plans) [] = None
last_end wanted (p ∷ plans) (f ∷ firsts) = first_of (last_end wanted plans firsts) (end_if (wanted p) (plan_end p f))

abbrev pub first_end : (Plan → Bool) → List Plan → List PointId → Option PointId
first_end wanted [] firsts = None
first_end wanted (p ∷ plans) [] = None
first_end wanted (p ∷ plans) (f ∷ firsts) = first_of (end_if (wanted p) (plan_end p f)) (first_end wanted plans firsts)

-- an end comes before the next one of its line, if there is one, or behind the one before
abbrev pub line_edge : PointId → Option PointId → List Edge
line_edge end None = []
line_edge end (Some next) = edge_of end next (pos 1) line_tag ∷ []

abbrev pub edge_to : Option PointId → PointId → List Edge
edge_to None end = []
edge_to (Some before) end = line_edge before (Some end)

-- the asked copy ends after the last plan ahead of it in its line, and before the first one behind it
abbrev pub end_edges : Ask → List Plan → List PointId → PointId → List Edge
end_edges ask plans firsts end = edge_to (last_end (is_ahead ask) plans firsts) end ++ line_edge end (first_end (is_behind ask) plans firsts)
