-- A board to which a plan was added is loaded with it.
use Rattle.std.proofs.Common.{◌≡◌, ◌∙◌, ℕ, ◌+◌, ◌<◌, ◌≤◌, false, List, [], ◌∷◌, ◌++◌, All, ap, arith, drop, get_or, length, map, subst, sym, Option}
use Rattle.std.specs.Prelude.{slice_index}
use Rattle.std.proofs.lemmas.List.{append_assoc, length-append, map-append}
use Rattle.std.proofs.lemmas.List.Elements.{All-append, All-contains, All-map, All-weaker}
use Rattle.tp_base.specs.Grows.{IsKnown}
use Rattle.tp_base.specs.Net.{HasLeast, IsSolution, Keeps, Net, with_edges}
use Rattle.tp_base.specs.declared.edges.Edge.{Edge}
use Rattle.tp_base.specs.declared.edges.PointId.{PointId}
use Rattle.tp_machine.specs.declared.machine.Machine.{Machine}
use Rattle.tp_schedule.specs.Spots.{Slot, Spot, Ticks, slot_order, ticks_of}
use Rattle.tp_schedule.specs.declared.parts.Ask.{Ask}
use Rattle.tp_schedule.specs.declared.parts.Plan.{Plan}
use Rattle.tp_choices.proofs.Lists.{All-map_from}
use Rattle.tp_constraints.proofs.Lists.{All-split, contains-get, get-there, index-map, map-each}
use Rattle.tp_constraints.proofs.PointTable.{table_law}
use Rattle.tp_constraints.proofs.ScheduleGaps.{gaps_law}
use Rattle.tp_constraints.specs.Gaps.{Gap, IsPoint, KeepsGap, KeepsGaps, cap_at, low_at, plan_gaps}
use Rattle.tp_constraints.specs.Hops.{Hop, IsHop, acts_hops, hop, no_choices}
use Rattle.tp_constraints.specs.Hops.HopKind.{line}
use Rattle.tp_constraints.specs.Laws.{IsLoadable, no_own}
use Rattle.tp_constraints.specs.Numbers.{IsEdgeOf, IsTable, gap_by, spot_at, spot_in, table_of}
use Rattle.tp_constraints.specs.AddedPlan.{IsLineBefore, with_plan}
use Rattle.tp_constraints.specs.Moments.{SayGaps}
use Rattle.tp_constraints.specs.Puts.{put_gaps, put_hops, with_puts}
use Rattle.tp_constraints.proofs.PlanFacts.{loaded-less, plan_order}
use Rattle.tp_constraints.proofs.PlanHopFacts.{plan_hops}
use Rattle.tp_constraints.proofs.PlanNets.{plan_net, spot-more}
use Rattle.tp_constraints.proofs.SayFacts.{plan_says}
use Rattle.tp_timelines.specs.Orders.{order_on, total}
use Rattle.tp_placing.specs.Causes.{ArePlain, IsNamedHop, IsSafe, hop_by}
use Rattle.tp_placing.specs.AddedEdges.{AreHops, HasPut, IsLineEnd, KeepEdges, own_edges, slot_by}
use Rattle.tp_placing.specs.Loaded.{CanLoad, IsLoaded}
use Rattle.tp_placing.specs.LoadedNet.{caps_of, lows_of, point_count, with_bounds}
use Rattle.tp_placing.specs.LoadedHolds.{held_from}
use Rattle.tp_placing.specs.LoadedBoard.{AreSlots, loaded_edges, loaded_holds}
use Rattle.tp_placing.specs.declared.causes.EdgeCause.{EdgeCause}
use Rattle.tp_placing.specs.declared.parts.Held.{Held}
use Rattle.tp_placing.proofs.AddFacts.{added-gaps, held-slots, hop-same, own-hops, stands-behind}
use Rattle.tp_placing.proofs.AddedParts.{at-firsts, caps-all, first-is, lows-all, new-held, points-all, small}
use Rattle.tp_placing.proofs.LoadCauses.{plain-more}
use Rattle.tp_placing.proofs.LoadHops.{gaps-by, hops-append}
use Rattle.tp_placing.proofs.LoadPoints.{count-append}
use Rattle.tp_placing.proofs.LoadTable.{length-table-of, ticks-by-number}
use Rattle.tp_placing.proofs.LoadedTicks.{timed, times}

module _ (machine : Machine) (now : ℕ) (plans : List Plan) (p : Plan) (can : CanLoad machine now (with_plan plans p)) (before : IsLoadable machine now (λ _. false) plans)
    (n : Net) (timelines : List (List ℕ)) (held : List Held) (firsts : List PointId) (causes : List EdgeCause) (old : IsLoaded machine now plans n timelines held firsts causes) (last : PointId) (at-last : last.0 ≡ point_count plans)
    (m : Net) (wider : m ≡ with_bounds (lows_of (now + machine.lead) p) (caps_of (now + machine.window) p) n)
    (o : Option PointId) (ends : IsLineEnd (with_plan plans p) (firsts ++ last ∷ []) (length plans) p o) (timelines' : List (List ℕ)) (put-edges : List Edge) (more : List EdgeCause)
    (put : HasPut machine (with_plan plans p) (slot_order machine plans) (held ++ held_from machine last.0 p.acts) timelines' put-edges (causes ++ more)
    (map (slot_by (table_of (with_plan plans p))) (drop (length held) (held ++ held_from machine last.0 p.acts)))) where
  abbrev all : List Plan
  all = with_plan plans p

  abbrev table : List Spot
  table = table_of all

  abbrev es : List Edge
  es = own_edges machine last p o ++ put-edges

  abbrev new-causes : List EdgeCause
  new-causes = causes ++ more

  abbrev order : ℕ → List Slot
  order r = slot_order machine plans r

  plain : ArePlain new-causes
  plain = plain-more causes more old.plain

  first : last.0 ≡ length (table_of plans)
  first = first-is machine now plans p can before n timelines held firsts causes old last at-last

  own : (gs : List Gap) × IsLineBefore plans p gs × AreHops all new-causes (own_edges machine last p o) (acts_hops machine p.sheet 0 p.acts ++ map (hop line) gs)
  own = own-hops machine plans p (firsts ++ last ∷ []) new-causes last o plain (at-firsts machine now plans p can before n timelines held firsts causes old last at-last) first ends

  abbrev added : List Hop
  added = acts_hops machine p.sheet 0 p.acts ++ (map (hop line) own.0 ++ put_hops machine put.puts order)

  -- the new edges are hops
  hops : AreHops all new-causes es added
  hops =
      subst (AreHops all new-causes es) (append_assoc (acts_hops machine p.sheet 0 p.acts) (map (hop line) own.0) (put_hops machine put.puts order))
      (hops-append all new-causes (own_edges machine last p o) put-edges (acts_hops machine p.sheet 0 p.acts ++ map (hop line) own.0) (put_hops machine put.puts order) own.2 put.hops)

  pub edges-known : All (IsKnown (length table)) es
  edges-known = hops.can

  pub edges-in-net : All (IsKnown (length m.lows)) es
  edges-in-net = subst (λ k. All (IsKnown k) es) (sym (points-all machine now plans p can before n timelines held firsts causes old last at-last m wider)) hops.can

  edges-of : All (IsEdgeOf table) es
  edges-of = All-weaker (IsKnown (length table)) (IsEdgeOf table) (λ e k. (k.from, k.to)) es hops.can

  gaps : map (gap_by table) es ≡ plan_gaps machine p ++ (own.0 ++ put_gaps machine put.puts order)
  gaps = gaps-by all new-causes es hops.can ∙ ap (map (λ (h : Hop). h.gap)) hops.hops ∙ added-gaps machine p own.0 put.puts order

  old-edges : m.edges ≡ n.edges
  old-edges = ap (λ (k : Net). k.edges) wider

  -- the own ticks of all plans
  abbrev t : Ticks
  t = ticks_of all

  abbrev x : ℕ → ℕ
  x i = t (spot_at table i)

  spots : IsTable (IsPoint all 0) table
  spots = table_law all can.loadable.legal.in_order

  module _ (keeps : KeepEdges all es) where
    new-kept : All (Keeps x) es
    new-kept =
        let by-number = ticks-by-number all can.loadable.legal.in_order (λ q inside. (timed machine now all can q inside).one_more) in
        subst (λ (f : ℕ → ℕ). All (Keeps f) es) (λ i k. by-number k i) keeps

    old-kept : All (Keeps x) n.edges
    old-kept =
        let less = loaded-less machine now plans p can.loadable t (times machine now all can) in
        let keep = All-map_from (KeepsGap t) (gap_by (table_of plans)) n.edges ((old.net.says t).0 less).1 in
        λ k d within. (
        let ends-in = old.net.edges k d within in
        let from = spot-more plans p (get_or n.edges k d).from.0 ends-in.0 in
        let to = spot-more plans p (get_or n.edges k d).to.0 ends-in.1 in
        subst (λ s. KeepsGap t (record { from = s; to = spot_at table (get_or n.edges k d).to.0; weight = (get_or n.edges k d).weight })) (sym from)
        (subst (λ s. KeepsGap t (record { from = spot_at (table_of plans) (get_or n.edges k d).from.0; to = s; weight = (get_or n.edges k d).weight })) (sym to) (keep k d within)))

    pub solution : IsSolution (with_edges m es) x
    solution =
        let constraints = (gaps_law machine now (λ _. false) all t can.loadable).0 (times machine now all can) in
        let points = points-all machine now plans p can before n timelines held firsts causes old last at-last m wider in
        record {
          above_low = λ i below. (
              let s = get-there table i (omega arith) in
              let bounds = constraints.0 s.0 (All-contains (IsPoint all 0) table s.0 spots.only (contains-get table i s.0 s.1)) in
              let low = ap (λ ls. slice_index ls i) (lows-all machine now plans p can before n timelines held firsts causes old last at-last m wider) ∙ index-map (low_at (now + machine.lead) (λ _. false) all no_own) table i s.0 s.1 in
              let tick = ap (λ c. t (spot_in c)) s.1 in
              let b = bounds.0 in
              omega arith);
          below_cap = λ i below. (
              let s = get-there table i (omega arith) in
              let bounds = constraints.0 s.0 (All-contains (IsPoint all 0) table s.0 spots.only (contains-get table i s.0 s.1)) in
              let cap = ap (λ ls. slice_index ls i) (caps-all machine now plans p can before n timelines held firsts causes old last at-last m wider) ∙ index-map (cap_at (now + machine.window) all) table i s.0 s.1 in
              let tick = ap (λ c. t (spot_in c)) s.1 in
              let b = bounds.1 in
              omega arith);
          keeps = subst (λ ds. All (Keeps x) (ds ++ es)) (sym old-edges) (All-append (Keeps x) n.edges es old-kept new-kept);
        }

    pub solved : (y : ℕ → ℕ) × IsSolution (with_edges m es) y
    solved = (x, solution)

    -- the orders
    put-kept : KeepsGaps t (put_gaps machine put.puts order)
    put-kept =
        let keep = All-map (KeepsGap t) (gap_by table) es new-kept in
        let parts = subst (KeepsGaps t) gaps keep in
        (All-split (KeepsGap t) own.0 (put_gaps machine put.puts order) (All-split (KeepsGap t) (plan_gaps machine p) (own.0 ++ put_gaps machine put.puts order) parts).1).1

    same : (r : ℕ) → with_puts put.puts order r ≡ slot_order machine all r
    same =
        let behind = new-held machine now plans p can before n timelines held firsts causes old last at-last in
        let slots = put.holds ∙ ap (map (slot_by table)) behind ∙ held-slots machine table last.0 p.sheet 0 p.acts (stands-behind plans p last.0 first) in
        plan_order machine now plans p put.puts can.loadable slots put.within put-kept

    named : (ask : Ask) (edges : List Edge) → edges ≡ n.edges ++ es → All (IsNamedHop machine all ask no_choices new-causes) edges
    named ask edges is =
        let longer : length (table_of plans) ≤ length table = (let a = length-table-of plans in let b = length-table-of all in let c = count-append plans (p ∷ []) in omega arith) in
        let olds = old.hops ask in
        let there = All-map (IsHop machine plans ask no_choices) (hop_by plans causes) n.edges (λ k d within. (olds k d within).is_hop) in
        let both = plan_hops machine now plans p put.puts own.0 ask (map (hop_by plans causes) n.edges) can.loadable put.within same own.1 there in
        let kept-hops = map-each (hop_by all new-causes) (hop_by plans causes) n.edges (λ k d within. hop-same machine plans p ask causes more (get_or n.edges k d) longer (old.net.edges k d within) (olds k d within)) in
        let new-hops = hops.hops in
        let whole : map (hop_by all new-causes) edges ≡ map (hop_by plans causes) n.edges ++ added = ap (map (hop_by all new-causes)) is ∙ map-append (hop_by all new-causes) n.edges es ∙ (λ i. kept-hops i ++ new-hops i) in
        let right = All-map_from (IsHop machine all ask no_choices) (hop_by all new-causes) edges (subst (All (IsHop machine all ask no_choices)) (sym whole) both) in
        let l = length-append causes more in
        let tags = subst (λ ds. All (λ (e : Edge). e.tag < length new-causes) ds) (sym is)
        (All-append (λ (e : Edge). e.tag < length new-causes) n.edges es (λ k d within. (let g = (olds k d within).tag in omega arith)) hops.tags) in
        λ k d within. record { tag = tags k d within; is_hop = right k d within }

    pub loaded : (net : Net) → net ≡ with_edges m es → HasLeast net → length net.edges ≤ loaded_edges → length (held ++ held_from machine last.0 p.acts) ≤ loaded_holds
        → total timelines' ≡ length (held ++ held_from machine last.0 p.acts)
        → IsLoaded machine now all net timelines' (held ++ held_from machine last.0 p.acts) (firsts ++ last ∷ []) new-causes
    loaded net is least few few-holds all-held =
        let edges : net.edges ≡ n.edges ++ es = ap (λ (k : Net). k.edges) is ∙ ap (λ ds. ds ++ es) old-edges in
        record {
          net = plan_net machine now plans p put.puts own.0 n net es before can.loadable old.net put.within same own.1
              (ap (λ (k : Net). k.lows) is ∙ lows-all machine now plans p can before n timelines held firsts causes old last at-last m wider)
              (ap (λ (k : Net). k.caps) is ∙ caps-all machine now plans p can before n timelines held firsts causes old last at-last m wider) edges edges-of gaps;
          says = subst (SayGaps machine all) (sym edges) (plan_says machine now plans p put.puts own.0 n.edges es before can.loadable old.says put.within same own.1 edges-of gaps);
          solved = least;
          hops = λ ask. named ask net.edges edges;
          safe = subst (All (IsSafe 0)) (sym edges) (All-append (IsSafe 0) n.edges es old.safe hops.safe);
          plain = plain;
          orders = λ r below. subst (AreSlots table (held ++ held_from machine last.0 p.acts) (order_on timelines' r)) (same r) (put.orders r below);
          few_edges = few;
          few_holds = few-holds;
          all_held = all-held;
          small = small machine now plans p can before n timelines held firsts causes old last at-last;
          at_firsts = at-firsts machine now plans p can before n timelines held firsts causes old last at-last;
        }
