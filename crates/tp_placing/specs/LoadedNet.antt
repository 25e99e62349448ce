-- The network of a loaded schedule: its points one plan after another, and an edge for each of its gaps.
use Rattle.std.specs.Prelude.{◌≡◌, ℕ, zero, suc, ◌+◌, ◌<◌, ◌≤◌, false, List, [], ◌∷◌, ◌++◌, flat_map, length, Option, Some, None, slice_get, All, if◌then◌else◌}
use Rattle.tp_base.specs.Net.{Net}
use Rattle.tp_base.specs.declared.edges.Edge.{Edge}
use Rattle.tp_base.specs.declared.edges.PointId.{PointId}
use Rattle.tp_machine.specs.Modes.{gap_at}
use Rattle.tp_machine.specs.ModuleUse.{action_at}
use Rattle.tp_machine.specs.declared.parts.ActId.{ActId}
use Rattle.tp_machine.specs.declared.parts.Action.{Action}
use Rattle.tp_machine.specs.declared.machine.Machine.{Machine}
use Rattle.tp_schedule.specs.Plans.{IsFormed}
use Rattle.tp_schedule.specs.Times.{ticks_from}
use Rattle.tp_schedule.specs.declared.parts.Plan.{Plan}
use Rattle.tp_constraints.specs.Gaps.{low_of, cap_of, is_same_line}
use Rattle.tp_timelines.specs.Orders.{order_on}
use Rattle.tp_placing.specs.Causes.{cause_between}
use Rattle.tp_placing.specs.declared.causes.EdgeCause.{EdgeCause}
use Rattle.tp_placing.specs.declared.parts.Held.{Held}
use Rattle.tp_placing.specs.Edges.{duration_edges, hold_edge, line_edge}

abbrev pub point_id : ℕ → PointId
point_id n = record { 0 = n }

-- how many points the plans have
abbrev pub point_count : List Plan → ℕ
point_count [] = 0
point_count (p ∷ plans) = length p.acts + 1 + point_count plans

-- a plan has one point more than actions
abbrev pub HasPoints : Plan → Type 0
HasPoints p = length p.points ≡ length p.acts + 1

-- the first points of the plans, one plan after another from a number on
abbrev pub firsts_from : ℕ → List Plan → List PointId
firsts_from n [] = []
firsts_from n (p ∷ plans) = point_id n ∷ firsts_from (n + length p.acts + 1) plans

-- the least and the greatest ticks of a plan's points
abbrev pub lows_of : ℕ → Plan → List ℕ
lows_of floor p = ticks_from (low_of floor (λ _. false) p) 0 (suc (length p.acts))

abbrev pub caps_of : ℕ → Plan → List ℕ
caps_of horizon p = ticks_from (cap_of horizon p) 0 (suc (length p.acts))

-- each of its points has a tick between its least and its greatest
pub record HasBounds (floor horizon : ℕ) (p : Plan) : Type 0 where
  pub formed : IsFormed p
  pub bounded : (i : ℕ) → i ≤ length p.acts → low_of floor (λ _. false) p i ≤ cap_of horizon p i

-- the net with points more, and with those of plans
abbrev pub with_bounds : List ℕ → List ℕ → Net → Net
with_bounds lows caps net = record { lows = net.lows ++ lows; caps = net.caps ++ caps; edges = net.edges }

abbrev pub with_plans : ℕ → ℕ → List Plan → Net → Net
with_plans floor horizon plans net = with_bounds (flat_map (lows_of floor) plans) (flat_map (caps_of horizon) plans) net

-- the durations of actions, the first of which starts at point n
abbrev pub act_edges : Option Action → ℕ → List Edge
act_edges None n = []
act_edges (Some a) n = duration_edges a (point_id n) (point_id (n + 1))

abbrev pub acts_edges : Machine → ℕ → List ActId → List Edge
acts_edges machine n [] = []
acts_edges machine n (act ∷ acts) = act_edges (action_at machine act.0) n ++ acts_edges machine (n + 1) acts

-- the durations of plans whose points are numbered from n on
abbrev pub plans_edges : Machine → ℕ → List Plan → List Edge
plans_edges machine n [] = []
plans_edges machine n (p ∷ plans) = acts_edges machine n p.acts ++ plans_edges machine (n + length p.acts + 1) plans

-- the end of the next plan of a line
abbrev pub next_end : Plan → ℕ → List Plan → Option PointId
next_end p n [] = None
next_end p n (q ∷ plans) = if is_same_line p q then Some (point_id (n + length q.acts)) else next_end p (n + length q.acts + 1) plans

-- each plan ends before the next one of its line
abbrev pub lines_edges : ℕ → List Plan → List Edge
lines_edges n [] = []
lines_edges n (p ∷ plans) = line_edge (point_id (n + length p.acts)) (next_end p (n + length p.acts + 1) plans) ++ lines_edges (n + length p.acts + 1) plans

-- the holds of these numbers
abbrev pub with_hold : Option Held → List Held → List Held
with_hold None hs = hs
with_hold (Some h) hs = h ∷ hs

abbrev pub holds_in : List Held → List ℕ → List Held
holds_in held [] = []
holds_in held (id ∷ ids) = with_hold (slice_get held id) (holds_in held ids)

-- the holds of each resource's order
abbrev pub holds_on : List Held → List (List ℕ) → ℕ → List Held
holds_on held timelines resource = holds_in held (order_on timelines resource)

-- each number is that of a hold
abbrev pub AreIds : List Held → List ℕ → Type 0
AreIds held ids = All (λ id. id < length held) ids

-- why each hold of an order ends by the begin of the next, and the same of the orders of all resources below a number
abbrev pub chain_causes : List Held → List EdgeCause
chain_causes [] = []
chain_causes (x ∷ []) = []
chain_causes (x ∷ y ∷ ys) = cause_between x y ∷ chain_causes (y ∷ ys)

abbrev pub chains_causes : (ℕ → List Held) → ℕ → List EdgeCause
chains_causes orders zero = []
chains_causes orders (suc n) = chain_causes (orders n) ++ chains_causes orders n

-- the edges for it, with tags from a number on
abbrev pub chain_edges : ℕ → ℕ → List Held → List Edge
chain_edges gap tag [] = []
chain_edges gap tag (x ∷ []) = []
chain_edges gap tag (x ∷ y ∷ ys) = hold_edge gap x y tag ∷ chain_edges gap (suc tag) (y ∷ ys)

abbrev pub chains_edges : Machine → ℕ → (ℕ → List Held) → ℕ → List Edge
chains_edges machine tag orders zero = []
chains_edges machine tag orders (suc n) = chain_edges (gap_at machine n) tag (orders n) ++ chains_edges machine (tag + length (chain_causes (orders n))) orders n
