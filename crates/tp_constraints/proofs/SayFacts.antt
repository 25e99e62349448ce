-- Edges that say the gaps of a schedule, whatever its bounds.
use Rattle.std.proofs.Common.{◌≡◌, ℕ, Bool, true, false, cond, not, ◌&&◌, List, [], ◌∷◌, ◌++◌, length, map, find, refl, sym, All, AllPairs, ◌∙◌, ap, subst, get_or, Some}
use Rattle.std.proofs.lemmas.List.{map-append}
use Rattle.std.proofs.lemmas.List.Elements.{All-append, All-cons, All-head, All-nil, Contains-get_or}
use Rattle.tp_base.specs.declared.edges.Edge.{Edge}
use Rattle.tp_machine.specs.Modes.{gap_at}
use Rattle.tp_machine.specs.declared.machine.Machine.{Machine}
use Rattle.tp_schedule.specs.Spots.{IsRow, Slot, Ticks, slot_order}
use Rattle.tp_schedule.specs.Times.{EndsBeforeAt, KeepsOrders}
use Rattle.tp_schedule.specs.Plans.{is_front}
use Rattle.tp_schedule.specs.declared.parts.Goal.{Goal}
use Rattle.tp_schedule.specs.declared.parts.Goal.TheVariants.{Purge, Tray}
use Rattle.tp_schedule.specs.declared.parts.Plan.{Plan}
use Rattle.tp_schedule.proofs.Pairs.{AllPairs-append, AllPairs-cons, AllPairs-nil}
use Rattle.tp_schedule.proofs.SlotOrder.{IsRow-from_AllPairs}
use Rattle.tp_schedule.specs.Spots.{IsApart}
use Rattle.tp_choices.proofs.Lists.{AllPairs-across}
use Rattle.tp_constraints.specs.Gaps.{Gap, KeepsGap, KeepsGaps, all_chains, duration_gaps, is_in_line, is_same_line, line_gap, line_gaps, plan_gaps}
use Rattle.tp_constraints.specs.Laws.{IsLoadable, plans_gaps}
use Rattle.tp_constraints.specs.Numbers.{IsEdgeOf, gap_by, points_from, table_of}
use Rattle.tp_constraints.proofs.DurationGaps.{each-from_flat, flat-from_each}
use Rattle.tp_constraints.proofs.HeldSlots.{order-on, order-sound}
use Rattle.tp_constraints.proofs.LineGaps.{gaps-from_rise, rise-from_gaps}
use Rattle.tp_constraints.proofs.Lists.{All-split, all-by, map-each}
use Rattle.tp_constraints.proofs.OrderGaps.{apart-from_gaps, chains-all, gaps-from_apart, gaps-from_row}
use Rattle.tp_constraints.proofs.PointTable.{table_law}
use Rattle.tp_constraints.proofs.ScheduleGaps.{apart-all, gaps_law, lasts-from_gaps}
use Rattle.tp_constraints.specs.AddedPlan.{IsLineBefore, with_plan}
use Rattle.tp_constraints.specs.Moments.{ExactSays, PlanSays, SayGaps, SaysLoaded, ShapeSays, shape_of}
use Rattle.tp_constraints.specs.Puts.{AreWithin, Put, put_gaps, with_puts}
use Rattle.tp_constraints.proofs.LineBefore.{ends-by_line, line-by_ends}
use Rattle.tp_constraints.proofs.PlanFacts.{AllPairs-left, orders-less}
use Rattle.tp_constraints.proofs.PlanNets.{edge-more, gap-more}
use Rattle.tp_constraints.proofs.PutFacts.{puts-back, rows-put}

pub exact_says : ExactSays
exact_says machine plans edges known needed only = record {
  known = known;
  says = λ t. (λ k. all-by (KeepsGap t) (map (gap_by (table_of plans)) edges) (plans_gaps machine plans) only k, λ k. all-by (KeepsGap t) (plans_gaps machine plans) (map (gap_by (table_of plans)) edges) needed k);
}

pub says_loaded : SaysLoaded
says_loaded machine now plans net load say lows caps = record {
  is_table = table_law plans load.legal.in_order;
  lows = lows;
  caps = caps;
  edges = say.known;
  says = λ t. let g = gaps_law machine now (λ _. false) plans t load in (
    λ h. let k = g.0 h in (k.0, (say.says t).0 k.1),
    λ k. g.1 (k.0, (say.says t).1 k.1),
  );
}

-- ---- the three kinds of gaps of a schedule
module _ (machine : Machine) (now : ℕ) (plans : List Plan) (t : Ticks) (load : IsLoadable machine now (λ _. false) plans) where
  pub record KeepsKinds : Type 0 where
    pub durations : All (λ q. KeepsGaps t (plan_gaps machine q)) plans
    pub rise : AllPairs (EndsBeforeAt t) plans
    pub orders : KeepsOrders machine plans t

  pub kinds-from : KeepsGaps t (plans_gaps machine plans) → KeepsKinds
  kinds-from k =
      let a = All-split (KeepsGap t) (duration_gaps machine plans) (line_gaps plans ++ all_chains machine (slot_order machine plans) (length machine.resources)) k in
      let b = All-split (KeepsGap t) (line_gaps plans) (all_chains machine (slot_order machine plans) (length machine.resources)) a.1 in
      let lasts = lasts-from_gaps machine now (λ _. false) plans t load a.0 in
      record {
        durations = each-from_flat t (plan_gaps machine) plans a.0;
        rise = rise-from_gaps t plans b.0;
        orders = λ r. apart-from_gaps (gap_at machine r) t (slot_order machine plans r) (order-sound machine t r plans lasts)
            (apart-all machine now (λ _. false) plans t load (slot_order machine plans) (λ q. order-on machine q plans) b.1 r);
      }

  pub kinds-to : KeepsKinds → KeepsGaps t (plans_gaps machine plans)
  kinds-to k =
      All-append (KeepsGap t) (duration_gaps machine plans) (line_gaps plans ++ all_chains machine (slot_order machine plans) (length machine.resources)) (flat-from_each t (plan_gaps machine) plans k.durations)
      (All-append (KeepsGap t) (line_gaps plans) (all_chains machine (slot_order machine plans) (length machine.resources)) (gaps-from_rise t plans k.rise)
      (chains-all machine t (slot_order machine plans) (length machine.resources) (λ r. gaps-from_apart (gap_at machine r) t (slot_order machine plans r) (k.orders r))))

module _ (machine : Machine) (now : ℕ) (plans : List Plan) (p : Plan) (puts : List Put) (lines : List Gap) (edges es : List Edge)
    (before : IsLoadable machine now (λ _. false) plans) (load : IsLoadable machine now (λ _. false) (with_plan plans p)) (say : SayGaps machine plans edges)
    (within : AreWithin puts (slot_order machine plans)) (same : (resource : ℕ) → with_puts puts (slot_order machine plans) resource ≡ slot_order machine (with_plan plans p) resource)
    (line : IsLineBefore plans p lines)
    (gaps : map (gap_by (table_of (with_plan plans p))) es ≡ plan_gaps machine p ++ (lines ++ put_gaps machine puts (slot_order machine plans))) where
  abbrev all : List Plan
  all = with_plan plans p

  abbrev more : List Gap
  more = plan_gaps machine p ++ (lines ++ put_gaps machine puts (slot_order machine plans))

  all-gaps : map (gap_by (table_of all)) (edges ++ es) ≡ map (gap_by (table_of plans)) edges ++ more
  all-gaps =
      let old = map-each (gap_by (table_of all)) (gap_by (table_of plans)) edges (λ k d inside. gap-more plans p (get_or edges k d) (say.known k d inside)) in
      map-append (gap_by (table_of all)) edges es ∙ (λ i. old i ++ gaps i)

  there : (t : Ticks) → KeepsGaps t (plans_gaps machine all) → KeepsGaps t (map (gap_by (table_of all)) (edges ++ es))
  there t k =
      let kinds = kinds-from machine now all t load k in
      let parts = All-split (λ q. KeepsGaps t (plan_gaps machine q)) plans (p ∷ []) kinds.durations in
      let own_durations = All-head (λ q. KeepsGaps t (plan_gaps machine q)) p [] parts.1 in
      let ends : All (λ q. EndsBeforeAt t q p) plans =
      λ n d inside. All-head (EndsBeforeAt t (get_or plans n d)) p [] (AllPairs-across (EndsBeforeAt t) plans (p ∷ []) (get_or plans n d) kinds.rise (Contains-get_or plans n d inside)) in
      let put = (puts-back machine t puts (slot_order machine plans) within (λ r. subst (AllPairs (IsApart (gap_at machine r) t)) (sym (same r)) (kinds.orders r))).1 in
      let old = (say.says t).0 (kinds-to machine now plans t before (record { durations = parts.0; rise = AllPairs-left (EndsBeforeAt t) plans (p ∷ []) kinds.rise; orders = orders-less machine now plans p load t kinds.orders })) in
      subst (KeepsGaps t) (sym all-gaps)
      (All-append (KeepsGap t) (map (gap_by (table_of plans)) edges) more old
      (All-append (KeepsGap t) (plan_gaps machine p) (lines ++ put_gaps machine puts (slot_order machine plans)) own_durations
      (All-append (KeepsGap t) lines (put_gaps machine puts (slot_order machine plans)) (line-by_ends t plans p lines line ends) put)))

  back : (t : Ticks) → KeepsGaps t (map (gap_by (table_of all)) (edges ++ es)) → KeepsGaps t (plans_gaps machine all)
  back t k =
      let s = All-split (KeepsGap t) (map (gap_by (table_of plans)) edges) more (subst (KeepsGaps t) all-gaps k) in
      let a = All-split (KeepsGap t) (plan_gaps machine p) (lines ++ put_gaps machine puts (slot_order machine plans)) s.1 in
      let b = All-split (KeepsGap t) lines (put_gaps machine puts (slot_order machine plans)) a.1 in
      let kinds = kinds-from machine now plans t before ((say.says t).1 s.0) in
      let ends = ends-by_line t plans p lines line kinds.rise b.0 in
      let rows = rows-put machine t puts (slot_order machine plans) within (λ q. IsRow-from_AllPairs (gap_at machine q) t (slot_order machine plans q) (kinds.orders q)) b.1 in
      All-append (KeepsGap t) (duration_gaps machine all) (line_gaps all ++ all_chains machine (slot_order machine all) (length machine.resources))
      (flat-from_each t (plan_gaps machine) all (All-append (λ q. KeepsGaps t (plan_gaps machine q)) plans (p ∷ []) kinds.durations (All-cons (λ q. KeepsGaps t (plan_gaps machine q)) p [] a.0 (All-nil (λ q. KeepsGaps t (plan_gaps machine q))))))
      (All-append (KeepsGap t) (line_gaps all) (all_chains machine (slot_order machine all) (length machine.resources))
      (gaps-from_rise t all (AllPairs-append (EndsBeforeAt t) plans (p ∷ []) kinds.rise (AllPairs-cons (EndsBeforeAt t) p [] (All-nil (EndsBeforeAt t p)) (AllPairs-nil (EndsBeforeAt t)))
      (λ n d inside. All-cons (EndsBeforeAt t (get_or plans n d)) p [] (ends n d inside) (All-nil (EndsBeforeAt t (get_or plans n d))))))
      (chains-all machine t (slot_order machine all) (length machine.resources) (λ r. gaps-from_row (gap_at machine r) t (slot_order machine all r) (subst (IsRow (gap_at machine r) t) (same r) (rows r)))))

pub plan_says : PlanSays
plan_says machine now plans p puts lines edges es before load say within same line known gaps = record {
  known = All-append (IsEdgeOf (table_of (with_plan plans p))) edges es (λ k d inside. edge-more plans p (get_or edges k d) (say.known k d inside)) known;
  says = λ t. (there machine now plans p puts lines edges es before load say within same line gaps t, back machine now plans p puts lines edges es before load say within same line gaps t);
}

-- ---- what does not mind points and releases
table-shape : (plans : List Plan) → table_of (map shape_of plans) ≡ table_of plans
table-shape [] = refl
table-shape (p ∷ plans) = ap (λ ss. points_from p.sheet 0 (length p.acts) ++ ss) (table-shape plans)

durations-shape : (machine : Machine) (plans : List Plan) → duration_gaps machine (map shape_of plans) ≡ duration_gaps machine plans
durations-shape machine [] = refl
durations-shape machine (p ∷ plans) = ap (λ gs. plan_gaps machine p ++ gs) (durations-shape machine plans)

in-line-shape : (g : Goal) (q : Plan) → is_in_line g (shape_of q) ≡ is_in_line g q
in-line-shape Purge q = refl
in-line-shape (Tray t) q = refl

same-line-shape : (p q : Plan) → is_same_line (shape_of p) (shape_of q) ≡ is_same_line p q
same-line-shape p q = ap (λ b. not (is_front p.kind) && b) (in-line-shape p.goal q)

line-shape : (p : Plan) (plans : List Plan) → line_gap (shape_of p) (find (is_same_line (shape_of p)) (map shape_of plans)) ≡ line_gap p (find (is_same_line p) plans)
line-shape p [] = refl
line-shape p (q ∷ plans) =
    ap (λ b. line_gap (shape_of p) (cond b (Some (shape_of q)) (find (is_same_line (shape_of p)) (map shape_of plans)))) (same-line-shape p q)
    ∙ go (is_same_line p q) (line-shape p plans) where
      go : (b : Bool) → line_gap (shape_of p) (find (is_same_line (shape_of p)) (map shape_of plans)) ≡ line_gap p (find (is_same_line p) plans)
          → line_gap (shape_of p) (cond b (Some (shape_of q)) (find (is_same_line (shape_of p)) (map shape_of plans))) ≡ line_gap p (cond b (Some q) (find (is_same_line p) plans))
      go true rest = refl
      go false rest = rest

lines-shape : (plans : List Plan) → line_gaps (map shape_of plans) ≡ line_gaps plans
lines-shape [] = refl
lines-shape (p ∷ plans) = let a = line-shape p plans in let b = lines-shape plans in λ i. a i ++ b i

chains-same : (machine : Machine) (orders others : ℕ → List Slot) → ((r : ℕ) → orders r ≡ others r) → (n : ℕ) → all_chains machine orders n ≡ all_chains machine others n
chains-same machine orders others same n = ap (λ (f : ℕ → List Slot). all_chains machine f n) (λ i r. same r i)

pub shape_says : ShapeSays
shape_says machine plans plans' edges same orders say =
    let table : table_of plans' ≡ table_of plans = sym (table-shape plans') ∙ ap table_of same ∙ table-shape plans in
    let durations = sym (durations-shape machine plans') ∙ ap (duration_gaps machine) same ∙ durations-shape machine plans in
    let lines = sym (lines-shape plans') ∙ ap line_gaps same ∙ lines-shape plans in
    let chains = chains-same machine (slot_order machine plans') (slot_order machine plans) orders (length machine.resources) in
    let gaps : plans_gaps machine plans' ≡ plans_gaps machine plans = (λ i. durations i ++ (lines i ++ chains i)) in
    record {
      known = subst (λ ss. All (IsEdgeOf ss) edges) (sym table) say.known;
      says = λ t. (
        λ k. subst (λ ss. KeepsGaps t (map (gap_by ss) edges)) (sym table) ((say.says t).0 (subst (KeepsGaps t) gaps k)),
        λ k. subst (KeepsGaps t) (sym gaps) ((say.says t).1 (subst (λ ss. KeepsGaps t (map (gap_by ss) edges)) table k)),
      );
    }
