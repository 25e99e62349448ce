-- The network of a schedule with a plan more.
use Rattle.std.proofs.Common.{◌≡◌, ℕ, ◌+◌, ◌≤◌, ◌<◌, false, List, [], ◌∷◌, ◌++◌, length, map, sym, arith, Contains, All, AllPairs, ◌∙◌, ap, subst, get_or}
use Rattle.std.specs.Prelude.{slice_get}
use Rattle.std.proofs.lemmas.List.{append-nil, length-append, map-append}
use Rattle.std.proofs.lemmas.List.Concat.{flat_map-append}
use Rattle.std.proofs.lemmas.List.Elements.{All-append, All-cons, All-contains, All-head, All-nil, Contains-append_left, Contains-get_or, Contains-push}
use Rattle.tp_base.specs.Net.{Net}
use Rattle.tp_base.specs.declared.edges.Edge.{Edge}
use Rattle.tp_machine.specs.Modes.{gap_at}
use Rattle.tp_machine.specs.declared.machine.Machine.{Machine}
use Rattle.tp_schedule.specs.Plans.{plan_of}
use Rattle.tp_schedule.specs.Spots.{IsApart, IsRow, Spot, Ticks, slot_order}
use Rattle.tp_schedule.specs.Spots.Spot.{kept, own}
use Rattle.tp_schedule.specs.Times.{EndsBeforeAt}
use Rattle.tp_schedule.specs.declared.parts.Plan.{Plan}
use Rattle.tp_schedule.proofs.CopyFacts.{plan_of-itself}
use Rattle.tp_schedule.proofs.Pairs.{AllPairs-append, AllPairs-cons, AllPairs-nil}
use Rattle.tp_schedule.proofs.SlotOrder.{IsRow-from_AllPairs}
use Rattle.tp_choices.proofs.Lists.{AllPairs-across, slice_get-left}
use Rattle.tp_constraints.specs.Gaps.{Gap, IsPoint, KeepsConstraints, KeepsGap, KeepsGaps, Within, all_chains, cap_at, cap_in, duration_gaps, gap, line_gaps, low_at, low_in, plan_gaps}
use Rattle.tp_constraints.specs.Laws.{IsLoadable, LoadedTimes, no_own}
use Rattle.tp_constraints.specs.Nets.{IsLoadedNet}
use Rattle.tp_constraints.specs.Numbers.{IsEdgeOf, gap_by, points_from, spot_at, spot_in, table_of}
use Rattle.tp_constraints.proofs.DurationGaps.{each-from_flat, flat-from_each}
use Rattle.tp_constraints.proofs.LineGaps.{gaps-from_rise}
use Rattle.tp_constraints.proofs.Lists.{All-split, get-there, map-each}
use Rattle.tp_constraints.proofs.OrderGaps.{chains-all, gaps-from_row}
use Rattle.tp_constraints.proofs.PointTable.{table_law}
use Rattle.tp_constraints.proofs.ScheduleGaps.{gaps_law}
use Rattle.tp_constraints.specs.AddedPlan.{IsLineBefore, PlanNet, with_plan}
use Rattle.tp_constraints.specs.Puts.{AreWithin, Put, put_gaps, with_puts}
use Rattle.tp_constraints.proofs.LineBefore.{ends-by_line, line-by_ends}
use Rattle.tp_constraints.proofs.PlanFacts.{loaded-less}
use Rattle.tp_constraints.proofs.PutFacts.{puts-back, rows-put}

-- ---- the table with the plan's points
pub table-more : (plans : List Plan) (p : Plan) → table_of (with_plan plans p) ≡ table_of plans ++ points_from p.sheet 0 (length p.acts)
table-more plans p = flat_map-append (λ (q : Plan). points_from q.sheet 0 (length q.acts)) plans (p ∷ []) ∙ ap (λ ss. table_of plans ++ ss) (append-nil (points_from p.sheet 0 (length p.acts)))

pub edge-more : (plans : List Plan) (p : Plan) (e : Edge) → IsEdgeOf (table_of plans) e → IsEdgeOf (table_of (with_plan plans p)) e
edge-more plans p e in' =
    let l = ap length (table-more plans p) ∙ length-append (table_of plans) (points_from p.sheet 0 (length p.acts)) in
    let a = in'.0 in
    let b = in'.1 in
    (omega arith, omega arith)

pub spot-more : (plans : List Plan) (p : Plan) (i : ℕ) → i < length (table_of plans) → spot_at (table_of (with_plan plans p)) i ≡ spot_at (table_of plans) i
spot-more plans p i within =
    let s = get-there (table_of plans) i within in
    ap spot_in (ap (λ ss. slice_get ss i) (table-more plans p) ∙ slice_get-left (table_of plans) (points_from p.sheet 0 (length p.acts)) i s.0 s.1 ∙ sym s.1)

pub gap-more : (plans : List Plan) (p : Plan) (e : Edge) → IsEdgeOf (table_of plans) e → gap_by (table_of (with_plan plans p)) e ≡ gap_by (table_of plans) e
gap-more plans p e in' =
    let a = spot-more plans p e.from.0 in'.0 in
    let b = spot-more plans p e.to.0 in'.1 in
    λ i. gap (a i) (b i) e.weight

module _ (machine : Machine) (now : ℕ) (plans : List Plan) (p : Plan) (puts : List Put) (lines : List Gap) (net new : Net) (es : List Edge)
    (before : IsLoadable machine now (λ _. false) plans) (load : IsLoadable machine now (λ _. false) (with_plan plans p)) (is : IsLoadedNet machine now (λ _. false) plans (table_of plans) net)
    (within : AreWithin puts (slot_order machine plans)) (same : (resource : ℕ) → with_puts puts (slot_order machine plans) resource ≡ slot_order machine (with_plan plans p) resource)
    (line : IsLineBefore plans p lines) (edges : new.edges ≡ net.edges ++ es)
    (gaps : map (gap_by (table_of (with_plan plans p))) es ≡ plan_gaps machine p ++ (lines ++ put_gaps machine puts (slot_order machine plans))) where
  abbrev all : List Plan
  all = with_plan plans p

  abbrev table : List Spot
  table = table_of all

  abbrev more : List Gap
  more = plan_gaps machine p ++ (lines ++ put_gaps machine puts (slot_order machine plans))

  all-gaps : map (gap_by table) new.edges ≡ map (gap_by (table_of plans)) net.edges ++ more
  all-gaps =
      let old = map-each (gap_by table) (gap_by (table_of plans)) net.edges (λ k d inside. gap-more plans p (get_or net.edges k d) (is.edges k d inside)) in
      ap (map (gap_by table)) edges ∙ map-append (gap_by table) net.edges es ∙ (λ i. old i ++ gaps i)

  there : (t : Ticks) → LoadedTimes machine now (λ _. false) all t → KeepsConstraints (IsPoint all 0) (low_at (now + machine.lead) (λ _. false) all no_own) (cap_at (now + machine.window) all) (map (gap_by table) new.edges) t
  there t h =
      let k = (gaps_law machine now (λ _. false) all t load).0 h in
      let durations = (All-split (KeepsGap t) (duration_gaps machine all) (line_gaps all ++ all_chains machine (slot_order machine all) (length machine.resources)) k.1).0 in
      let own_durations = All-contains (λ q. KeepsGaps t (plan_gaps machine q)) all p (each-from_flat t (plan_gaps machine) all durations) (Contains-push plans p) in
      let ends : All (λ q. EndsBeforeAt t q p) plans =
      λ n d inside. All-head (EndsBeforeAt t (get_or plans n d)) p [] (AllPairs-across (EndsBeforeAt t) plans (p ∷ []) (get_or plans n d) h.0.rise (Contains-get_or plans n d inside)) in
      let put = (puts-back machine t puts (slot_order machine plans) within (λ r. subst (AllPairs (IsApart (gap_at machine r) t)) (sym (same r)) (h.1 r))).1 in
      let old = ((is.says t).0 (loaded-less machine now plans p load t h)).1 in (
        k.0,
        subst (KeepsGaps t) (sym all-gaps)
            (All-append (KeepsGap t) (map (gap_by (table_of plans)) net.edges) more old
            (All-append (KeepsGap t) (plan_gaps machine p) (lines ++ put_gaps machine puts (slot_order machine plans)) own_durations
            (All-append (KeepsGap t) lines (put_gaps machine puts (slot_order machine plans)) (line-by_ends t plans p lines line ends) put))),
      )

  -- bounds of the points of the others
  same-plan : (q : Plan) → Contains plans q → plan_of q.sheet all ≡ plan_of q.sheet plans
  same-plan q in' = plan_of-itself all q load.legal.in_order (Contains-append_left plans (p ∷ []) q in') ∙ sym (plan_of-itself plans q before.legal.in_order in')

  within-old : (t : Ticks) → Within (IsPoint all 0) (low_at (now + machine.lead) (λ _. false) all no_own) (cap_at (now + machine.window) all) t
      → Within (IsPoint plans 0) (low_at (now + machine.lead) (λ _. false) plans no_own) (cap_at (now + machine.window) plans) t
  within-old t w (kept c i) (q, in', e, le) =
      let k = w (kept c i) (q, Contains-append_left plans (p ∷ []) q in', e, le) in
      let o = subst (λ d. plan_of d all ≡ plan_of d plans) e (same-plan q in') in
      subst (λ o'. (low_in (now + machine.lead) (λ _. false) o' i ≤ t (kept c i)) × (t (kept c i) ≤ cap_in (now + machine.window) o' i)) o k
  within-old t w (own n) inside = absurd (omega (arith, inside))

  back : (t : Ticks) → KeepsConstraints (IsPoint all 0) (low_at (now + machine.lead) (λ _. false) all no_own) (cap_at (now + machine.window) all) (map (gap_by table) new.edges) t → LoadedTimes machine now (λ _. false) all t
  back t k =
      let s = All-split (KeepsGap t) (map (gap_by (table_of plans)) net.edges) more (subst (KeepsGaps t) all-gaps k.1) in
      let a = All-split (KeepsGap t) (plan_gaps machine p) (lines ++ put_gaps machine puts (slot_order machine plans)) s.1 in
      let b = All-split (KeepsGap t) lines (put_gaps machine puts (slot_order machine plans)) a.1 in
      let g : LoadedTimes machine now (λ _. false) plans t = (is.says t).1 (within-old t k.0, s.0) in
      let old = ((gaps_law machine now (λ _. false) plans t before).0 g).1 in
      let durations = (All-split (KeepsGap t) (duration_gaps machine plans) (line_gaps plans ++ all_chains machine (slot_order machine plans) (length machine.resources)) old).0 in
      let each = All-append (λ q. KeepsGaps t (plan_gaps machine q)) plans (p ∷ []) (each-from_flat t (plan_gaps machine) plans durations) (All-cons (λ q. KeepsGaps t (plan_gaps machine q)) p [] a.0 (All-nil (λ q. KeepsGaps t (plan_gaps machine q)))) in
      let ends = ends-by_line t plans p lines line g.0.rise b.0 in
      let rise = AllPairs-append (EndsBeforeAt t) plans (p ∷ []) g.0.rise (AllPairs-cons (EndsBeforeAt t) p [] (All-nil (EndsBeforeAt t p)) (AllPairs-nil (EndsBeforeAt t)))
      (λ n d inside. All-cons (EndsBeforeAt t (get_or plans n d)) p [] (ends n d inside) (All-nil (EndsBeforeAt t (get_or plans n d)))) in
      let rows = rows-put machine t puts (slot_order machine plans) within (λ q. IsRow-from_AllPairs (gap_at machine q) t (slot_order machine plans q) (g.1 q)) b.1 in
      let chains = chains-all machine t (slot_order machine all) (length machine.resources) (λ r. gaps-from_row (gap_at machine r) t (slot_order machine all r) (subst (IsRow (gap_at machine r) t) (same r) (rows r))) in
      (gaps_law machine now (λ _. false) all t load).1 (
        k.0,
        All-append (KeepsGap t) (duration_gaps machine all) (line_gaps all ++ all_chains machine (slot_order machine all) (length machine.resources)) (flat-from_each t (plan_gaps machine) all each)
            (All-append (KeepsGap t) (line_gaps all) (all_chains machine (slot_order machine all) (length machine.resources)) (gaps-from_rise t all rise) chains),
      )

pub plan_net : PlanNet
plan_net machine now plans p puts lines net new es before load is within same line lows caps edges known gaps = record {
  is_table = table_law (with_plan plans p) load.legal.in_order;
  lows = lows;
  caps = caps;
  edges = subst (All (IsEdgeOf (table_of (with_plan plans p)))) (sym edges)
      (All-append (IsEdgeOf (table_of (with_plan plans p))) net.edges es (λ k d inside. edge-more plans p (get_or net.edges k d) (is.edges k d inside)) known);
  says = λ t. (there machine now plans p puts lines net new es before load is within same line edges gaps t, back machine now plans p puts lines net new es before load is within same line edges gaps t);
}
