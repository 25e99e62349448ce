-- A plan more on a loaded board: its edges as hops, its holds in the orders, and its line.
use Rattle.std.specs.Prelude.{◌≡◌, ℕ, suc, ◌+◌, ◌<◌, List, [], ◌∷◌, ◌++◌, drop, length, map, pos, slice_get, slice_index, take, Option, Some, None, All, IsTrue, false}
use Rattle.tp_base.specs.Grows.{IsKnown}
use Rattle.tp_base.specs.Net.{Keeps, Net}
use Rattle.tp_base.specs.declared.edges.Edge.{Edge}
use Rattle.tp_base.specs.declared.edges.PointId.{PointId}
use Rattle.tp_machine.specs.declared.machine.Machine.{Machine}
use Rattle.tp_schedule.specs.Spots.{Slot, Spot}
use Rattle.tp_schedule.specs.declared.parts.Plan.{Plan}
use Rattle.tp_constraints.specs.Gaps.{is_same_line}
use Rattle.tp_constraints.specs.Hops.{Hop}
use Rattle.tp_constraints.specs.Numbers.{spot_at, table_of}
use Rattle.tp_constraints.specs.Laws.{IsLoadable}
use Rattle.tp_constraints.specs.AddedPlan.{with_plan}
use Rattle.tp_constraints.specs.Puts.{AreWithin, Put, put_hops, with_puts}
use Rattle.tp_timelines.specs.Orders.{order_on}
use Rattle.tp_placing.specs.Causes.{IsSafe, cause_between, hop_by, line_tag}
use Rattle.tp_placing.specs.Edges.{edge_of}
use Rattle.tp_placing.specs.Loaded.{CanLoad, IsLoaded}
use Rattle.tp_placing.specs.LoadedNet.{acts_edges, point_count, point_id}
use Rattle.tp_placing.specs.LoadedHolds.{ticks_in}
use Rattle.tp_placing.specs.LoadedBoard.{AreSlots}
use Rattle.tp_placing.specs.declared.causes.EdgeCause.{EdgeCause}
use Rattle.tp_placing.specs.declared.causes.EdgeCause.TheVariants.{Limit}
use Rattle.tp_placing.specs.declared.parts.Held.{Held}

-- edges that are these hops with their causes, over which no step writes, and that may be required of a network with the
-- points of the plans
pub record AreHops (plans : List Plan) (causes : List EdgeCause) (es : List Edge) (hs : List Hop) : Type 0 where
  pub hops : map (hop_by plans causes) es ≡ hs
  pub can : All (IsKnown (length (table_of plans))) es
  pub tags : All (λ e. e.tag < length causes) es
  pub safe : All (IsSafe 0) es

-- the slot of a hold
abbrev pub slot_by : List Spot → Held → Slot
slot_by table h = record { rule = h.rule; from = spot_at table h.start.0; to = spot_at table h.end.0 }

-- the causes of the edges to a hold's neighbours: two, whatever neighbours it has
abbrev pub cause_before : Option Held → Held → EdgeCause
cause_before None h = Limit
cause_before (Some x) h = cause_between x h

abbrev pub cause_behind : Held → Option Held → EdgeCause
cause_behind h None = Limit
cause_behind h (Some y) = cause_between h y

abbrev pub causes_for : Option Held → Held → Option Held → List EdgeCause
causes_for before h behind = cause_before before h ∷ cause_behind h behind ∷ []

-- holds with these slots were put in, one after another, into these orders: that is how the timelines stand now, and the edges are
-- the hops to their neighbours
pub record HasPut (machine : Machine) (plans : List Plan) (before : ℕ → List Slot) (held : List Held) (timelines : List (List ℕ)) (edges : List Edge) (causes : List EdgeCause) (slots : List Slot) : Type 0 where
  pub puts : List Put
  pub holds : map (λ x. x.slot) puts ≡ slots
  pub within : AreWithin puts before
  pub hops : AreHops plans causes edges (put_hops machine puts before)
  pub orders : (resource : ℕ) → resource < length machine.resources → AreSlots (table_of plans) held (order_on timelines resource) (with_puts puts before resource)

-- the end of the last plan before a place that is of the line of the plan there, if there is one
pub data IsLineEnd (plans : List Plan) (firsts : List PointId) (at : ℕ) (p : Plan) : Option PointId → Type 0 where
  no_end : All (λ q. is_same_line q p ≡ false) (take at plans) → IsLineEnd plans firsts at p None
  line_end : (place : ℕ) (q : Plan) (first end : PointId) → place < at → slice_get plans place ≡ Some q → slice_get firsts place ≡ Some first → end.0 ≡ first.0 + length q.acts → IsTrue (is_same_line q p)
      → All (λ r. is_same_line r p ≡ false) (drop (suc place) (take at plans)) → IsLineEnd plans firsts at p (Some end)

-- the plans' own ticks keep the edges
abbrev pub KeepEdges : List Plan → List Edge → Type 0
KeepEdges plans es = All (Keeps (slice_index (ticks_in plans))) es

-- the edge to the end of a plan from that of the plan before on its line, and all its own edges: those of its durations come first
abbrev pub behind_edge : Option PointId → PointId → List Edge
behind_edge None end = []
behind_edge (Some before) end = edge_of before end (pos 1) line_tag ∷ []

abbrev pub own_edges : Machine → PointId → Plan → Option PointId → List Edge
own_edges machine first p before = acts_edges machine first.0 p.acts ++ behind_edge before (point_id (first.0 + length p.acts))

-- the board's parts are those of all its plans but the last, which can be loaded with the others
pub record IsBehind (machine : Machine) (now : ℕ) (all : List Plan) (n : Net) (timelines : List (List ℕ)) (held : List Held) (firsts : List PointId) (last : ℕ) (causes : List EdgeCause) : Type 0 where
  pub plans : List Plan
  pub newest : Plan
  pub are : all ≡ with_plan plans newest
  pub can : CanLoad machine now (with_plan plans newest)
  pub loadable : IsLoadable machine now (λ _. false) plans
  pub loaded : IsLoaded machine now plans n timelines held firsts causes
  pub last_point : last ≡ point_count plans
