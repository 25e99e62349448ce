-- The difference constraints of a schedule: least differences of the ticks of two points, and a least and a greatest tick
-- of each point.
use Rattle.std.specs.Prelude.{◌≡◌, ℕ, zero, suc, ◌+◌, ◌≤◌, ◌<◌, Bool, false, not, ◌&&◌, nat_lt, nat_le, List, [], ◌∷◌, ◌++◌, flat_map, find, length, Option, Some, None, ℤ, pos, neg_ℤ, ◌+ℤ◌, ◌-ℤ◌, ◌≤ℤ◌, All, Contains, if◌then◌else◌}
use Rattle.tp_machine.specs.Modes.{gap_at, gap_between}
use Rattle.tp_machine.specs.ModuleUse.{action_at}
use Rattle.tp_machine.specs.declared.parts.ActId.{ActId}
use Rattle.tp_machine.specs.declared.parts.Action.{Action}
use Rattle.tp_machine.specs.declared.parts.Anchor.{Anchor}
use Rattle.tp_machine.specs.declared.parts.Anchor.TheVariants.{Start, End}
use Rattle.tp_machine.specs.declared.machine.Machine.{Machine}
use Rattle.tp_schedule.specs.Plans.{plan_of, point, is_fixed, is_front, is_delivered_to}
use Rattle.tp_schedule.specs.Spots.{Spot, Ticks, Slot}
use Rattle.tp_schedule.specs.Spots.Spot.{kept, own}
use Rattle.tp_schedule.specs.declared.parts.Goal.{Goal}
use Rattle.tp_schedule.specs.declared.parts.Goal.TheVariants.{Tray, Purge}
use Rattle.tp_schedule.specs.declared.parts.Plan.{Plan}
use Rattle.tp_schedule.specs.declared.parts.SheetId.{SheetId}

-- a gap: the second point is at least so much after the first, or for a negative weight at most so much before it
pub record Gap : Type 0 where
  pub from : Spot
  pub to : Spot
  pub weight : ℤ

abbrev pub gap : Spot → Spot → ℤ → Gap
gap from to weight = record { from = from; to = to; weight = weight }

abbrev pub KeepsGap : Ticks → Gap → Type 0
KeepsGap t g = (pos (t g.from) +ℤ g.weight) ≤ℤ pos (t g.to)

abbrev pub KeepsGaps : Ticks → List Gap → Type 0
KeepsGaps t gaps = All (KeepsGap t) gaps

-- an action between two points lasts at least its least and at most its most
abbrev pub range_gaps : Option Action → Spot → Spot → List Gap
range_gaps None from to = []
range_gaps (Some a) from to = gap from to (pos a.least) ∷ gap to from (neg_ℤ (pos a.most)) ∷ []

-- the durations of a copy's actions, the first of which starts at point n
abbrev pub acts_gaps : Machine → SheetId → ℕ → List ActId → List Gap
acts_gaps machine copy n [] = []
acts_gaps machine copy n (act ∷ acts) = range_gaps (action_at machine act.0) (kept copy n) (kept copy (suc n)) ++ acts_gaps machine copy (suc n) acts

abbrev pub plan_gaps : Machine → Plan → List Gap
plan_gaps machine p = acts_gaps machine p.sheet 0 p.acts

abbrev pub duration_gaps : Machine → List Plan → List Gap
duration_gaps machine plans = flat_map (plan_gaps machine) plans

-- a hold is apart from another on a resource with this gap: from the end anchor of the one to the begin anchor of the other,
-- with their offsets, and the gap where their modes differ
abbrev pub anchor_spot : Anchor → Spot → Spot → Spot
anchor_spot Start from to = from
anchor_spot End from to = to

abbrev pub slot_gap : ℕ → Slot → Slot → Gap
slot_gap apart x y =
    gap (anchor_spot x.rule.end x.from x.to) (anchor_spot y.rule.begin y.from y.to) ((x.rule.end_off -ℤ y.rule.begin_off) +ℤ pos (gap_between apart x.rule y.rule))

-- each hold of an order is apart from the next
abbrev pub chain_gaps : ℕ → List Slot → List Gap
chain_gaps apart [] = []
chain_gaps apart (x ∷ []) = []
chain_gaps apart (x ∷ y ∷ ys) = slot_gap apart x y ∷ chain_gaps apart (y ∷ ys)

-- the same of the orders of all resources below a number
abbrev pub all_chains : Machine → (ℕ → List Slot) → ℕ → List Gap
all_chains machine orders zero = []
all_chains machine orders (suc n) = chain_gaps (gap_at machine n) (orders n) ++ all_chains machine orders n

-- the goal is a tray, and the plan is whole and goes to it
abbrev pub is_in_line : Goal → Plan → Bool
is_in_line Purge p = false
is_in_line (Tray t) p = is_delivered_to p t.0

-- both plans are whole and go to one tray
abbrev pub is_same_line : Plan → Plan → Bool
is_same_line p q = not (is_front p.kind) && is_in_line p.goal q

-- a plan ends before the next one of its line
abbrev pub end_spot : Plan → Spot
end_spot p = kept p.sheet (length p.acts)

abbrev pub line_gap : Plan → Option Plan → List Gap
line_gap p None = []
line_gap p (Some q) = gap (end_spot p) (end_spot q) (pos 1) ∷ []

abbrev pub line_gaps : List Plan → List Gap
line_gaps [] = []
line_gaps (p ∷ plans) = line_gap p (find (is_same_line p) plans) ++ line_gaps plans

-- the points of the plans, and so many own ones
abbrev pub IsPoint : List Plan → ℕ → Spot → Type 0
IsPoint plans count (kept copy i) = (p : Plan) × Contains plans p × (p.sheet ≡ copy) × (i ≤ length p.acts)
IsPoint plans count (own n) = n < count

-- point i is the start of an action that is not released
abbrev pub is_unreleased : Plan → ℕ → Bool
is_unreleased p i = nat_le p.released i && nat_lt i (length p.acts)

-- the least tick of point i of a plan: its own where it is fixed, and above the floor for an unreleased start of a plan
-- that is not exempt
abbrev pub low_of : ℕ → (Plan → Bool) → Plan → ℕ → ℕ
low_of floor exempt p i = if is_fixed p i then point p i else (if is_unreleased p i && not (exempt p) then floor + 1 else 0)

-- its greatest tick: its own where it is fixed, or the horizon
abbrev pub cap_of : ℕ → Plan → ℕ → ℕ
cap_of horizon p i = if is_fixed p i then point p i else horizon

abbrev pub low_in : ℕ → (Plan → Bool) → Option Plan → ℕ → ℕ
low_in floor exempt None i = 0
low_in floor exempt (Some p) i = low_of floor exempt p i

abbrev pub cap_in : ℕ → Option Plan → ℕ → ℕ
cap_in horizon None i = horizon
cap_in horizon (Some p) i = cap_of horizon p i

-- the least and the greatest tick of each point
abbrev pub low_at : ℕ → (Plan → Bool) → List Plan → (ℕ → ℕ) → Spot → ℕ
low_at floor exempt plans own_low (kept copy i) = low_in floor exempt (plan_of copy plans) i
low_at floor exempt plans own_low (own n) = own_low n

abbrev pub cap_at : ℕ → List Plan → Spot → ℕ
cap_at horizon plans (kept copy i) = cap_in horizon (plan_of copy plans) i
cap_at horizon plans (own n) = horizon

-- the ticks of the points are within the least and the greatest ones
abbrev pub Within : (Spot → Type 0) → (Spot → ℕ) → (Spot → ℕ) → Ticks → Type 0
Within known low cap t = (s : Spot) → known s → (low s ≤ t s) × (t s ≤ cap s)

-- the ticks keep bounds and gaps
abbrev pub KeepsConstraints : (Spot → Type 0) → (Spot → ℕ) → (Spot → ℕ) → List Gap → Ticks → Type 0
KeepsConstraints known low cap gaps t = Within known low cap t × KeepsGaps t gaps
