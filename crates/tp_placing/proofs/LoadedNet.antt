-- What is made of the live plans of a schedule is its network and its orders.
use Rattle.std.proofs.Common.{◌≡◌, ℕ, ◌+◌, ◌<◌, ◌≤◌, false, List, [], ◌++◌, length, map, filter, ap, sym, ◌∙◌, subst, arith, Some, All, Contains}
use Rattle.std.specs.Prelude.{slice_get, slice_index}
use Rattle.std.proofs.lemmas.List.{length-append, length-map, take_all}
use Rattle.std.proofs.lemmas.List.Elements.{All-contains, All-weaker, All-contains_itself}
use Rattle.tp_base.specs.Net.{Net, IsSolution, HasLeast, Keeps, empty_net, with_edges}
use Rattle.tp_base.specs.declared.edges.PointId.{PointId}
use Rattle.tp_machine.specs.declared.machine.Machine.{Machine}
use Rattle.tp_schedule.specs.Spots.{Spot, slot_order, by_begin, ticks_of}
use Rattle.tp_schedule.specs.declared.parts.Plan.{Plan}
use Rattle.tp_choices.proofs.Lists.{All-map_from}
use Rattle.tp_constraints.specs.Gaps.{KeepsGap, KeepsGaps, IsPoint, low_at, cap_at, line_gaps}
use Rattle.tp_constraints.specs.Hops.{Hop, IsHop, hop, no_choices, duration_hops, all_chain_hops, plans_hops}
use Rattle.tp_constraints.specs.Hops.HopKind.{line}
use Rattle.tp_constraints.specs.Laws.{plans_gaps, no_own}
use Rattle.tp_constraints.specs.Numbers.{table_of, gap_by, spot_at, spot_in, IsTable, IsEdgeOf}
use Rattle.tp_constraints.proofs.BoardNets.{load_net}
use Rattle.tp_constraints.proofs.HopGaps.{plans-hop-gaps}
use Rattle.tp_constraints.proofs.NeighbourHops.{load_hops}
use Rattle.tp_constraints.proofs.Lists.{index-map, get-there, contains-get}
use Rattle.tp_constraints.proofs.PointTable.{table_law}
use Rattle.tp_constraints.proofs.ScheduleGaps.{gaps_law}
use Rattle.tp_constraints.proofs.SayFacts.{exact_says}
use Rattle.tp_timelines.specs.Orders.{Orders, order_on, total}
use Rattle.tp_schedule.specs.declared.parts.Ask.{Ask}
use Rattle.tp_placing.specs.Causes.{ArePlain, IsNamedHop, IsSafe, hop_by, most_causes, step_causes}
use Rattle.tp_placing.specs.declared.causes.EdgeCause.{EdgeCause}
use Rattle.tp_placing.specs.declared.parts.Held.{Held}
use Rattle.tp_placing.specs.Inside.{most_edges}
use Rattle.tp_placing.specs.Loaded.{CanLoad, IsLoaded, all_edges}
use Rattle.tp_placing.specs.LoadedNet.{AreIds, chains_causes, chains_edges, firsts_from, holds_on, lines_edges, plans_edges, with_plans}
use Rattle.tp_placing.specs.LoadedHolds.{AreInOrder, IsHeldWithin, held_plans, is_on, ticks_in}
use Rattle.tp_placing.specs.LoadedBoard.{AreFirsts, AreSlots, HasSmallOffsets, loaded_edges}
use Rattle.tp_base.specs.Grows.{IsKnown}
use Rattle.tp_placing.proofs.LoadCauses.{AreCausesFrom, causes-behind, plain-more}
use Rattle.tp_placing.proofs.LoadHops.{AreHops, gaps-by, hops-append, durations-hops, timelines-hops, durations-count, timelines-count}
use Rattle.tp_placing.proofs.SlotResources.{IsOn, order-on}
use Rattle.tp_placing.proofs.LoadSlots.{slot_by, sorted-slots, plans-slots, ids-slots}
use Rattle.tp_placing.proofs.LoadOrders.{IsChain, chains-count, chains-hops, chains-length, holds-All}
use Rattle.tp_placing.proofs.LoadTable.{numbered, ticks-by-number, length-table-of}
use Rattle.tp_placing.proofs.LoadedTicks.{timed, times, few-acts, ticks-count, lows-map, caps-map}
use Rattle.tp_placing.proofs.LoadPoints.{firsts-right}

module _ (machine : Machine) (now : ℕ) (plans : List Plan) (can : CanLoad machine now plans) (net : Net) (is : net ≡ with_plans (now + machine.lead) (now + machine.window) plans empty_net)
    (timelines : Orders) (held : List Held) (put : AreInOrder machine plans timelines held)
    (base : List EdgeCause) (plain : ArePlain base) (based : length base ≡ step_causes) where
  sorted : (r : ℕ) → r < length machine.resources → map (slot_by (table_of plans)) (holds_on held timelines.orders r) ≡ slot_order machine plans r
  sorted r below =
      let by-number = ticks-by-number plans can.loadable.legal.in_order (λ p inside. ((timed machine now plans can) p inside).one_more) in
      ap (map (slot_by (table_of plans))) (put.orders r below)
      ∙ sorted-slots (table_of plans) (ticks_of plans) (ticks_in plans) by-number (filter (is_on r) (held_plans machine 0 plans))
      ∙ ap (by_begin (ticks_of plans)) (plans-slots machine (table_of plans) r 0 plans (numbered plans))

  within : All (IsHeldWithin (length (table_of plans))) held
  within = subst (λ n. All (IsHeldWithin n) held) ((ticks-count machine now plans can) ∙ sym (length-table-of plans)) put.holds.within

  ids : (r : ℕ) → r < length machine.resources → AreIds held (order_on timelines.orders r)
  ids r below = let f = put.resources in put.holds.ids r (omega arith)

  chain : (r : ℕ) → r < length machine.resources → IsChain plans r (holds_on held timelines.orders r) (slot_order machine plans r)
  chain r below = record {
    slots = sorted r below;
    within = holds-All (IsHeldWithin (length (table_of plans))) held (order_on timelines.orders r) (ids r below) within;
    small = holds-All (λ h. HasSmallOffsets h.rule) held (order_on timelines.orders r) (ids r below) put.holds.small;
    on = All-map_from (IsOn r) (slot_by (table_of plans)) (holds_on held timelines.orders r) (subst (All (IsOn r)) (sym (sorted r below)) (order-on machine plans r));
  }

  abbrev causes : List EdgeCause
  causes = base ++ chains_causes (holds_on held timelines.orders) (length machine.resources)

  hops : AreHops plans causes (all_edges machine plans timelines.orders held) (plans_hops machine plans)
  hops =
      let more = plain-more base (chains_causes (holds_on held timelines.orders) (length machine.resources)) plain in
      let chains = all_chain_hops machine (slot_order machine plans) (length machine.resources) in
      let edges = chains_edges machine step_causes (holds_on held timelines.orders) (length machine.resources) in
      let from = subst (λ n. AreCausesFrom causes n (chains_causes (holds_on held timelines.orders) (length machine.resources))) based (causes-behind base (chains_causes (holds_on held timelines.orders) (length machine.resources))) in
      hops-append plans causes (plans_edges machine 0 plans) (lines_edges 0 plans ++ edges) (duration_hops machine plans) (map (hop line) (line_gaps plans) ++ chains)
      (durations-hops plans causes more machine 0 plans (numbered plans))
      (hops-append plans causes (lines_edges 0 plans) edges (map (hop line) (line_gaps plans)) chains
      (timelines-hops plans causes more 0 plans (numbered plans))
      (chains-hops machine plans causes step_causes (holds_on held timelines.orders) (slot_order machine plans) (length machine.resources) (omega arith) from chain))

  gaps : map (gap_by (table_of plans)) (all_edges machine plans timelines.orders held) ≡ plans_gaps machine plans
  gaps = gaps-by plans causes (all_edges machine plans timelines.orders held) hops.can ∙ ap (map (λ (h : Hop). h.gap)) hops.hops ∙ plans-hop-gaps machine plans

  -- how many causes and edges there are
  chains : length (chains_causes (holds_on held timelines.orders) (length machine.resources)) ≤ 65536
  chains =
      let f = put.resources in
      let c = chains-count held timelines.orders (length machine.resources) (omega arith) ids in
      let t = ap total (take_all (length machine.resources) timelines.orders (omega arith)) in
      let h = put.holds.all_held in
      let n = put.count in
      let few = can.few in
      omega arith

  pub causes-fit : step_causes + length (chains_causes (holds_on held timelines.orders) (length machine.resources)) ≤ most_causes
  causes-fit = let c = chains in omega arith

  pub count : length (all_edges machine plans timelines.orders held) ≤ loaded_edges
  count =
      let d = durations-count machine 0 plans (few-acts machine now plans can) in
      let l = timelines-count 0 plans in
      let c = chains in
      let same = chains-length machine step_causes (holds_on held timelines.orders) (length machine.resources) in
      let few = can.few in
      let a = length-append (plans_edges machine 0 plans) (lines_edges 0 plans ++ chains_edges machine step_causes (holds_on held timelines.orders) (length machine.resources)) in
      let b = length-append (lines_edges 0 plans) (chains_edges machine step_causes (holds_on held timelines.orders) (length machine.resources)) in
      omega arith

  lows : net.lows ≡ map (low_at (now + machine.lead) (λ _. false) plans no_own) (table_of plans)
  lows = ap (λ (m : Net). m.lows) is ∙ sym (lows-map machine now plans can)

  caps : net.caps ≡ map (cap_at (now + machine.window) plans) (table_of plans)
  caps = ap (λ (m : Net). m.caps) is ∙ sym (caps-map machine now plans can)

  none-added : net.edges ≡ []
  none-added = ap (λ (m : Net). m.edges) is

  points : length net.lows ≡ length (table_of plans)
  points = ap length lows ∙ length-map (table_of plans) (low_at (now + machine.lead) (λ _. false) plans no_own)

  spots : IsTable (IsPoint plans 0) (table_of plans)
  spots = table_law plans can.loadable.legal.in_order

  -- their own ticks keep the edges
  solution : IsSolution (with_edges net (all_edges machine plans timelines.orders held)) (λ i. ticks_of plans (spot_at (table_of plans) i))
  solution =
      let constraints = (gaps_law machine now (λ _. false) plans (ticks_of plans) can.loadable).0 (times machine now plans can) in
      let kept = subst (KeepsGaps (ticks_of plans)) (sym gaps) constraints.1 in
      let keeps = All-map_from (KeepsGap (ticks_of plans)) (gap_by (table_of plans)) (all_edges machine plans timelines.orders held) kept in
      record {
        above_low = λ i below. (
            let p = points in
            let s = get-there (table_of plans) i (omega arith) in
            let bounds = constraints.0 s.0 (All-contains (IsPoint plans 0) (table_of plans) s.0 spots.only (contains-spot i s.0 s.1)) in
            let low = ap (λ ls. slice_index ls i) lows ∙ index-map (low_at (now + machine.lead) (λ _. false) plans no_own) (table_of plans) i s.0 s.1 in
            let tick = ap (λ o. ticks_of plans (spot_in o)) s.1 in
            let b = bounds.0 in
            omega arith);
        below_cap = λ i below. (
            let p = points in
            let s = get-there (table_of plans) i (omega arith) in
            let bounds = constraints.0 s.0 (All-contains (IsPoint plans 0) (table_of plans) s.0 spots.only (contains-spot i s.0 s.1)) in
            let cap = ap (λ ls. slice_index ls i) caps ∙ index-map (cap_at (now + machine.window) plans) (table_of plans) i s.0 s.1 in
            let tick = ap (λ o. ticks_of plans (spot_in o)) s.1 in
            let b = bounds.1 in
            omega arith);
        keeps = subst (λ es. All (Keeps (λ i. ticks_of plans (spot_at (table_of plans) i))) (es ++ all_edges machine plans timelines.orders held)) (sym none-added) keeps;
      } where
        contains-spot : (i : ℕ) (s : Spot) → slice_get (table_of plans) i ≡ Some s → Contains (table_of plans) s
        contains-spot i s at = contains-get (table_of plans) i s at

  pub edges-known : All (IsKnown (length net.lows)) (all_edges machine plans timelines.orders held)
  edges-known = subst (λ n. All (IsKnown n) (all_edges machine plans timelines.orders held)) (sym points) hops.can

  pub edges-fit : (room : ℕ) → most_edges ≤ room → length net.edges + length (all_edges machine plans timelines.orders held) ≤ room
  edges-fit room enough = let c = count in let e = ap length none-added in omega arith

  pub edges-kept : (x : ℕ → ℕ) × IsSolution (with_edges net (all_edges machine plans timelines.orders held)) x
  edges-kept = (λ i. ticks_of plans (spot_at (table_of plans) i), solution)

  named : (ask : Ask) → All (IsNamedHop machine plans ask no_choices causes) (all_edges machine plans timelines.orders held)
  named ask =
      let right = All-map_from (IsHop machine plans ask no_choices) (hop_by plans causes) (all_edges machine plans timelines.orders held) (subst (All (IsHop machine plans ask no_choices)) (sym hops.hops) (load_hops machine plans ask can.loadable.legal)) in
      λ k d within. record { tag = hops.tags k d within; is_hop = right k d within }

  pub loaded : (n : Net) (firsts : List PointId) (all : List EdgeCause) → n ≡ with_edges net (all_edges machine plans timelines.orders held) → HasLeast n → firsts ≡ firsts_from 0 plans
      → all ≡ base ++ chains_causes (holds_on held timelines.orders) (length machine.resources) → IsLoaded machine now plans n timelines.orders held firsts all
  loaded n firsts all same solved at caused =
      let edges : n.edges ≡ all_edges machine plans timelines.orders held = ap (λ (m : Net). m.edges) same ∙ ap (λ es. es ++ all_edges machine plans timelines.orders held) none-added in
      let mapped : map (gap_by (table_of plans)) n.edges ≡ plans_gaps machine plans = ap (map (gap_by (table_of plans))) edges ∙ gaps in
      let of : All (IsEdgeOf (table_of plans)) n.edges = subst (λ es. All (IsEdgeOf (table_of plans)) es) (sym edges) (All-weaker (IsKnown (length (table_of plans))) (IsEdgeOf (table_of plans)) (λ e c. (c.from, c.to)) (all_edges machine plans timelines.orders held) hops.can) in
      let there : All (Contains (map (gap_by (table_of plans)) n.edges)) (plans_gaps machine plans) = subst (λ gs. All (Contains gs) (plans_gaps machine plans)) (sym mapped) (All-contains_itself (plans_gaps machine plans)) in
      let only : All (Contains (plans_gaps machine plans)) (map (gap_by (table_of plans)) n.edges) = subst (λ gs. All (Contains (plans_gaps machine plans)) gs) (sym mapped) (All-contains_itself (plans_gaps machine plans)) in
      subst (IsLoaded machine now plans n timelines.orders held firsts) (sym caused) (record {
        net = load_net machine now (λ _. false) plans (table_of plans) n can.loadable spots (ap (λ (m : Net). m.lows) same ∙ lows) (ap (λ (m : Net). m.caps) same ∙ caps) of there only;
        says = exact_says machine plans n.edges of there only;
        solved = solved;
        hops = λ ask. subst (All (IsNamedHop machine plans ask no_choices causes)) (sym edges) (named ask);
        safe = subst (All (IsSafe 0)) (sym edges) hops.safe;
        plain = plain-more base (chains_causes (holds_on held timelines.orders) (length machine.resources)) plain;
        orders = λ r below. subst (AreSlots (table_of plans) held (order_on timelines.orders r)) (sorted r below) (ids-slots (table_of plans) held (order_on timelines.orders r) (ids r below) within);
        few_edges = let c = count in let e = ap length edges in omega arith;
        few_holds = let c = put.count in let few = can.few in omega arith;
        all_held = put.holds.all_held;
        small = put.holds.small;
        at_firsts = subst (AreFirsts 0 plans) (sym at) (firsts-right 0 plans);
      })
