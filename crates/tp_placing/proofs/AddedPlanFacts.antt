-- A plan is added behind the others: what its board keeps before, what its holds are put in by, and what the board is then.
use Rattle.std.proofs.Common.{◌≡◌, ◌∙◌, ℕ, ◌+◌, ◌<◌, ◌≤◌, ◌^◌, List, [], ◌∷◌, ◌++◌, All, Option, Some, ap, arith, drop, false, length, map}
use Rattle.std.specs.Prelude.{slice_get}
use Rattle.tp_base.proofs.SliceFacts.{slice_get_last}
use Rattle.tp_base.specs.Grows.{IsKnown}
use Rattle.tp_base.specs.Net.{HasLeast, IsSolution, Net, with_edges}
use Rattle.tp_base.specs.declared.edges.Edge.{Edge}
use Rattle.tp_base.specs.declared.edges.PointId.{PointId}
use Rattle.tp_machine.specs.declared.machine.Machine.{Machine}
use Rattle.tp_schedule.specs.Spots.{Slot, slot_order}
use Rattle.tp_schedule.specs.declared.parts.Plan.{Plan}
use Rattle.tp_constraints.specs.Laws.{IsLoadable}
use Rattle.tp_constraints.specs.Numbers.{table_of}
use Rattle.tp_constraints.specs.AddedPlan.{with_plan}
use Rattle.tp_timelines.specs.Orders.{order_on, total}
use Rattle.tp_placing.specs.AddedEdges.{HasPut, IsBehind, IsLineEnd, KeepEdges, own_edges, slot_by}
use Rattle.tp_placing.specs.Loaded.{CanLoad, IsLoaded}
use Rattle.tp_placing.specs.LoadedHolds.{IsHeldWithin, IsRuleOf, held_from, ticks_in}
use Rattle.tp_placing.specs.LoadedNet.{AreIds, HasBounds, HasPoints, caps_of, firsts_from, lows_of, point_count, with_bounds}
use Rattle.tp_placing.specs.LoadedBoard.{AreSlots, HasSmallOffsets, loaded_edges, loaded_holds}
use Rattle.tp_placing.specs.declared.causes.EdgeCause.{EdgeCause}
use Rattle.tp_placing.specs.declared.parts.Held.{Held}
use Rattle.tp_placing.proofs.AddedNet.{edges-in-net, edges-known, loaded, solved}
use Rattle.tp_placing.proofs.AddedParts.{at-firsts, bounds, count-all, few-before, few-own, few-points, firsts-all, formed, ids-before, new-held, new-ruled, new-within, orders-before, points-before, small, ticks-all}
use Rattle.tp_placing.proofs.BehindFacts.{as-many, can-with, ends-fit, own-count, with-it}
use Rattle.tp_placing.proofs.GrowFacts.{put-as}

-- the plan at a place behind the others has few points, within its bounds
pub record HasFewPoints (machine : Machine) (now : ℕ) (plans : List Plan) (n : Net) (firsts : List PointId) (last : PointId) (p : Plan) : Type 0 where
  pub acts : length p.acts ≤ 64
  pub plans_before : length firsts ≤ 255
  pub points : last.0 + length p.acts + 1 ≤ 16640
  pub all_points : point_count plans ≡ last.0 + length p.acts + 1
  pub points_before : length n.lows ≡ last.0
  pub bounds : HasBounds (now + machine.lead) (now + machine.window) p
  pub ends : (k : ℕ) (f : PointId) (q : Plan) → slice_get (firsts ++ last ∷ []) k ≡ Some f → slice_get plans k ≡ Some q → f.0 + length q.acts < 2 ^ 32

-- the holds from a number on can be put into orders that are of these slots
pub record CanPut (machine : Machine) (plans : List Plan) (held : List Held) (firsts : List PointId) (timelines : List (List ℕ)) (from : ℕ) (before : ℕ → List Slot) : Type 0 where
  pub rules : All (λ h. IsRuleOf (length machine.resources) h.rule) (drop from held)
  pub small : All (λ h. HasSmallOffsets h.rule) held
  pub slots : (r : ℕ) → r < length machine.resources → AreSlots (table_of plans) held (order_on timelines r) (before r)
  pub ids : (r : ℕ) → r < length machine.resources → AreIds held (order_on timelines r)
  pub formed : All HasPoints plans
  pub firsts_are : firsts ≡ firsts_from 0 plans
  pub within : All (IsHeldWithin (length (ticks_in plans))) (drop from held)
  pub ticks : length (ticks_in plans) ≡ length (table_of plans)

-- these edges are the plan's own, behind the end of the plan before on its line
pub record AreOwn (machine : Machine) (plans : List Plan) (firsts : List PointId) (place : ℕ) (first : PointId) (p : Plan) (edges : List Edge) : Type 0 where
  pub end : Option PointId
  pub is_end : IsLineEnd plans firsts place p end
  pub are : edges ≡ own_edges machine first p end
  pub few : length edges ≤ 129

-- these edges make of a network that has the points of all plans one that is loaded with them
pub record LoadPlans (machine : Machine) (now : ℕ) (plans : List Plan) (m : Net) (timelines : List (List ℕ)) (held : List Held) (firsts : List PointId) (causes : List EdgeCause) (edges : List Edge) : Type 0 where
  pub known : All (IsKnown (length (ticks_in plans))) edges
  pub in_net : All (IsKnown (length m.lows)) edges
  pub solved : KeepEdges plans edges → (x : ℕ → ℕ) × IsSolution (with_edges m edges) x
  pub loaded : KeepEdges plans edges → (n : Net) → n ≡ with_edges m edges → HasLeast n → length n.edges ≤ loaded_edges → length held ≤ loaded_holds → total timelines ≡ length held
      → IsLoaded machine now plans n timelines held firsts causes

-- the plan's own edges, as they are made for plans, first points, a place and earlier edges by other names
pub own-are : (machine : Machine) (plans plans' : List Plan) (firsts firsts' : List PointId) (place : ℕ) (first : PointId) (p : Plan) (earlier edges : List Edge) → length p.acts ≤ 64 → plans' ≡ plans → firsts' ≡ firsts ++ first ∷ [] → place ≡ length firsts → earlier ≡ []
    → ((f : PointId) → slice_get firsts' place ≡ Some f → (end : Option PointId) × IsLineEnd plans' firsts' place p end × (edges ≡ earlier ++ own_edges machine f p end)) → AreOwn machine plans (firsts ++ first ∷ []) (length firsts) first p edges
own-are machine plans plans' firsts firsts' place first p earlier edges few a b at none made =
    let one = made first ((λ i. slice_get (b i) (at i)) ∙ slice_get_last firsts first) in
    let are : edges ≡ own_edges machine first p one.0 = one.2 ∙ ap (λ es. es ++ own_edges machine first p one.0) none in
    let l = ap length are in
    let most = own-count machine first p one.0 few in
    record {
      end = one.0;
      is_end = coe 0 1 (i. IsLineEnd (a i) (b i) (at i) p one.0) one.1;
      are = are;
      few = omega arith;
    }

module _ (machine : Machine) (now : ℕ) (plans : List Plan) (p : Plan) (can : CanLoad machine now (with_plan plans p)) (before : IsLoadable machine now (λ _. false) plans)
    (n : Net) (timelines : List (List ℕ)) (held : List Held) (firsts : List PointId) (causes : List EdgeCause) (old : IsLoaded machine now plans n timelines held firsts causes) (last : PointId) (at-last : last.0 ≡ point_count plans) where
  few-of : length firsts ≡ length plans → HasFewPoints machine now (with_plan plans p) n firsts last p
  few-of many =
      let most = few-before machine now plans p can before n timelines held firsts causes old last at-last in
      let few = few-points machine now plans p can before n timelines held firsts causes old last at-last in
      let count = count-all machine now plans p can before n timelines held firsts causes old last at-last in
      record {
        acts = few-own machine now plans p can before n timelines held firsts causes old last at-last;
        plans_before = omega arith;
        points = few;
        all_points = count;
        points_before = points-before machine now plans p can before n timelines held firsts causes old last at-last;
        bounds = bounds machine now plans p can before n timelines held firsts causes old last at-last;
        ends = ends-fit (with_plan plans p) (firsts ++ last ∷ []) (at-firsts machine now plans p can before n timelines held firsts causes old last at-last) (omega arith);
      }

  can-put-new : CanPut machine (with_plan plans p) (held ++ held_from machine last.0 p.acts) (firsts ++ last ∷ []) timelines (length held) (slot_order machine plans)
  can-put-new =
      let new = new-held machine now plans p can before n timelines held firsts causes old last at-last in
      record {
        rules = coe 1 0 (i. All (λ (h : Held). IsRuleOf (length machine.resources) h.rule) (new i)) (new-ruled machine now plans p can before n timelines held firsts causes old last at-last);
        small = small machine now plans p can before n timelines held firsts causes old last at-last;
        slots = orders-before machine now plans p can before n timelines held firsts causes old last at-last;
        ids = ids-before machine now plans p can before n timelines held firsts causes old last at-last;
        formed = formed machine now plans p can before n timelines held firsts causes old last at-last;
        firsts_are = firsts-all machine now plans p can before n timelines held firsts causes old last at-last;
        within = coe 1 0 (i. All (IsHeldWithin (length (ticks_in (with_plan plans p)))) (new i)) (new-within machine now plans p can before n timelines held firsts causes old last at-last);
        ticks = ticks-all machine now plans p can before n timelines held firsts causes old last at-last;
      }

  load-of : (m : Net) (wider : m ≡ with_bounds (lows_of (now + machine.lead) p) (caps_of (now + machine.window) p) n) (o : Option PointId) (ends : IsLineEnd (with_plan plans p) (firsts ++ last ∷ []) (length plans) p o) (timelines' : List (List ℕ)) (es : List Edge) (more : List EdgeCause)
      (put : HasPut machine (with_plan plans p) (slot_order machine plans) (held ++ held_from machine last.0 p.acts) timelines' es (causes ++ more) (map (slot_by (table_of (with_plan plans p))) (drop (length held) (held ++ held_from machine last.0 p.acts))))
      → LoadPlans machine now (with_plan plans p) m timelines' (held ++ held_from machine last.0 p.acts) (firsts ++ last ∷ []) (causes ++ more) (own_edges machine last p o ++ es)
  load-of m wider o ends timelines' es more put =
      let count = ticks-all machine now plans p can before n timelines held firsts causes old last at-last in
      record {
        known = coe 1 0 (i. All (IsKnown (count i)) (own_edges machine last p o ++ es)) (edges-known machine now plans p can before n timelines held firsts causes old last at-last m wider o ends timelines' es more put);
        in_net = edges-in-net machine now plans p can before n timelines held firsts causes old last at-last m wider o ends timelines' es more put;
        solved = solved machine now plans p can before n timelines held firsts causes old last at-last m wider o ends timelines' es more put;
        loaded = loaded machine now plans p can before n timelines held firsts causes old last at-last m wider o ends timelines' es more put;
      }

-- the board is loaded with all its plans but the last
module _ (machine : Machine) (now : ℕ) (all : List Plan) (n : Net) (timelines : List (List ℕ)) (held : List Held) (firsts : List PointId) (last : PointId) (causes : List EdgeCause)
    (b : IsBehind machine now all n timelines held firsts last.0 causes) (p : Plan) (at : slice_get all (length firsts) ≡ Some p) where
  with : all ≡ with_plan b.plans p
  with = with-it machine now all n timelines held firsts last.0 causes b p at

  can : CanLoad machine now (with_plan b.plans p)
  can = can-with machine now all n timelines held firsts last.0 causes b p at

  many : length firsts ≡ length b.plans
  many = as-many machine now all n timelines held firsts last.0 causes b

  pub few-more : HasFewPoints machine now all n firsts last p
  few-more = coe 1 0 (i. HasFewPoints machine now (with i) n firsts last p) (few-of machine now b.plans p can b.loadable n timelines held firsts causes b.loaded last b.last_point many)

  -- its holds can be put in, whatever the plans, the holds, the first points and the number are called
  pub can-put : (plans' : List Plan) (held' : List Held) (firsts' : List PointId) (from : ℕ) → plans' ≡ all → held' ≡ held ++ held_from machine last.0 p.acts → firsts' ≡ firsts ++ last ∷ [] → from ≡ length held
      → CanPut machine plans' held' firsts' timelines from (slot_order machine b.plans)
  can-put plans' held' firsts' from a c d e =
      coe 1 0 (i. CanPut machine ((a ∙ with) i) (c i) (d i) timelines (e i) (slot_order machine b.plans)) (can-put-new machine now b.plans p can b.loadable n timelines held firsts causes b.loaded last b.last_point)

  -- what was put in loads all plans, whatever these are called
  pub load-all : (m : Net) (own-edges edges : List Edge) (plans' : List Plan) (held' held'' : List Held) (firsts' : List PointId) (from : ℕ) (timelines' : List (List ℕ)) (causes' : List EdgeCause)
      → m ≡ with_bounds (lows_of (now + machine.lead) p) (caps_of (now + machine.window) p) n → AreOwn machine all (firsts ++ last ∷ []) (length firsts) last p own-edges
      → (es : List Edge) × (edges ≡ own-edges ++ es) × HasPut machine plans' (slot_order machine b.plans) held' timelines' es causes' (map (slot_by (table_of plans')) (drop from held'))
      → plans' ≡ all → held' ≡ held'' → held'' ≡ held ++ held_from machine last.0 p.acts → firsts' ≡ firsts ++ last ∷ [] → from ≡ length held → (more : List EdgeCause) × (causes' ≡ causes ++ more)
      → LoadPlans machine now all m timelines' held'' firsts' causes' edges
  load-all m own-edges edges plans' held' held'' firsts' from timelines' causes' wider own put a h c d e more =
      let ends = coe 0 1 (i. IsLineEnd (with i) (firsts ++ last ∷ []) (many i) p own.end) own.is_end in
      let puts = put-as machine plans' (with_plan b.plans p) (slot_order machine b.plans) held' (held ++ held_from machine last.0 p.acts) timelines' put.0 causes' (causes ++ more.0) from (length held) (a ∙ with) (h ∙ c) more.1 e put.2 in
      let are : edges ≡ own_edges machine last p own.end ++ put.0 = put.1 ∙ ap (λ es. es ++ put.0) own.are in
      let causes-are = more.1 in
      coe 1 0 (i. LoadPlans machine now (with i) m timelines' (c i) (d i) (causes-are i) (are i))
      (load-of machine now b.plans p can b.loadable n timelines held firsts causes b.loaded last b.last_point m wider own.end ends timelines' put.0 more.0 puts)
