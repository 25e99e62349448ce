-- The solutions of a network read as ticks.
use Rattle.std.proofs.Common.{◌≡◌, ℕ, ◌+◌, ◌≤◌, ◌<◌, Bool, List, [], ◌∷◌, length, refl, arith, All, ◌∙◌, ap, map, Some}
use Rattle.std.specs.Prelude.{slice_get, slice_index}
use Rattle.std.proofs.lemmas.List.Elements.{All-nil, All-cons, All-head, All-tail, All-contains}
use Rattle.tp_base.specs.declared.edges.Edge.{Edge}
use Rattle.tp_base.specs.Net.{Net, IsSolution, IsLeast, IsEarliest, Keeps as KeepsEdge}
use Rattle.tp_schedule.specs.Spots.{Spot, Ticks}
use Rattle.tp_constraints.specs.Gaps.{KeepsGap, KeepsGaps, IsPoint, low_at, cap_at, KeepsConstraints}
use Rattle.tp_constraints.specs.Numbers.{number, spot_at, ticks_by, gap_by, IsEdgeOf, IsNetFor}
use Rattle.tp_machine.specs.declared.machine.Machine.{Machine}
use Rattle.tp_schedule.specs.declared.parts.Plan.{Plan}
use Rattle.tp_constraints.specs.Suffixes.{SuffixTimes, IsSuffixPoint, suffix_low, suffix_cap}
use Rattle.tp_constraints.specs.Nets.{BoardSolutions, LoadedSolutions, BoardLate, BoardLeast, IsLoadedNet}
use Rattle.tp_constraints.specs.Laws.{LoadedTimes, no_own}
use Rattle.std.proofs.lemmas.Option.{slice_get_within}
use Rattle.tp_constraints.proofs.Lists.{get-there, contains-get, get-contains, index-map}
use Rattle.tp_constraints.proofs.PointNumbers.{number-at}
use Rattle.std.proofs.lemmas.List.{length-map}

module _ (known : Spot → Type 0) (low cap : Spot → ℕ) (times : Ticks → Type 0) (table : List Spot) (net : Net) (is : IsNetFor known low cap times table net) where
  -- ticks that a solution gives at the points of the table
  abbrev Reads : (ℕ → ℕ) → Ticks → Type 0
  Reads x t = (i : ℕ) (s : Spot) → slice_get table i ≡ Some s → t s ≡ x i

  reads-number : (x : ℕ → ℕ) → Reads x (ticks_by table x)
  reads-number x i s e = ap x (number-at table is.is_table.differ i s e)

  same-length : length net.lows ≡ length table
  same-length = ap length is.lows ∙ length-map table low

  edge-keeps : (x : ℕ → ℕ) (t : Ticks) → Reads x t → (e : Edge) → IsEdgeOf table e → KeepsEdge x e → KeepsGap t (gap_by table e)
  edge-keeps x t reads e in' keeps =
      let a = get-there table e.from.0 in'.0 in
      let b = get-there table e.to.0 in'.1 in
      rw (a.1, b.1, reads e.from.0 a.0 a.1, reads e.to.0 b.0 b.1) keeps

  edge-back : (x : ℕ → ℕ) (t : Ticks) → Reads x t → (e : Edge) → IsEdgeOf table e → KeepsGap t (gap_by table e) → KeepsEdge x e
  edge-back x t reads e in' keeps =
      let a = get-there table e.from.0 in'.0 in
      let b = get-there table e.to.0 in'.1 in
      rw (a.1, b.1, reads e.from.0 a.0 a.1, reads e.to.0 b.0 b.1) at keeps

  edges-keep : (x : ℕ → ℕ) (t : Ticks) → Reads x t → (es : List Edge) → All (IsEdgeOf table) es → All (KeepsEdge x) es → KeepsGaps t (map (gap_by table) es)
  edges-keep x t reads [] in' keeps = All-nil (KeepsGap t)
  edges-keep x t reads (e ∷ es) in' keeps =
      All-cons (KeepsGap t) (gap_by table e) (map (gap_by table) es) (edge-keeps x t reads e (All-head (IsEdgeOf table) e es in') (All-head (KeepsEdge x) e es keeps)) (edges-keep x t reads es (All-tail (IsEdgeOf table) e es in') (All-tail (KeepsEdge x) e es keeps))

  edges-back : (x : ℕ → ℕ) (t : Ticks) → Reads x t → (es : List Edge) → All (IsEdgeOf table) es → KeepsGaps t (map (gap_by table) es) → All (KeepsEdge x) es
  edges-back x t reads [] in' keeps = All-nil (KeepsEdge x)
  edges-back x t reads (e ∷ es) in' keeps =
      All-cons (KeepsEdge x) e es (edge-back x t reads e (All-head (IsEdgeOf table) e es in') (All-head (KeepsGap t) (gap_by table e) (map (gap_by table) es) keeps)) (edges-back x t reads es (All-tail (IsEdgeOf table) e es in') (All-tail (KeepsGap t) (gap_by table e) (map (gap_by table) es) keeps))

  keeps-from_solution : (x : ℕ → ℕ) (t : Ticks) → Reads x t → IsSolution net x → times t
  keeps-from_solution x t reads sol = (is.says t).1 (
    λ s in'.
        let g = get-contains table s (is.is_table.all s in') in
        let below : g.0 < length net.lows = omega (arith, same-length, slice_get_within table g.0 s g.1) in
        let a : slice_index net.lows g.0 ≡ low s = ap (λ l. slice_index l g.0) is.lows ∙ index-map low table g.0 s g.1 in
        let b : slice_index net.caps g.0 ≡ cap s = ap (λ l. slice_index l g.0) is.caps ∙ index-map cap table g.0 s g.1 in
        rw (reads g.0 s g.1, ← a, ← b) (sol.above_low g.0 below, sol.below_cap g.0 below),
    edges-keep x t reads net.edges is.edges sol.keeps,
  )

  solution-from_keeps : (x : ℕ → ℕ) (t : Ticks) → Reads x t → times t → IsSolution net x
  solution-from_keeps x t reads ok =
      let keeps : KeepsConstraints known low cap (map (gap_by table) net.edges) t = (is.says t).0 ok in
      let bound : (i : ℕ) → i < length net.lows → (slice_index net.lows i ≤ x i) × (x i ≤ slice_index net.caps i) = (λ i within.
      let g = get-there table i (omega (arith, same-length, within)) in
      let a : slice_index net.lows i ≡ low g.0 = ap (λ l. slice_index l i) is.lows ∙ index-map low table i g.0 g.1 in
      let b : slice_index net.caps i ≡ cap g.0 = ap (λ l. slice_index l i) is.caps ∙ index-map cap table i g.0 g.1 in
      rw (a, b, ← reads i g.0 g.1) (keeps.0 g.0 (All-contains known table g.0 is.is_table.only (contains-get table i g.0 g.1)))) in
      record {
        above_low = λ i within. (bound i within).0;
        below_cap = λ i within. (bound i within).1;
        keeps = edges-back x t reads net.edges is.edges keeps.1;
      }

  -- ticks as times
  reads-back : (t : Ticks) → Reads (λ i. t (spot_at table i)) t
  reads-back t i s e = ap t (rw e refl)

  pub solutions : (x : ℕ → ℕ) → (IsSolution net x → times (ticks_by table x)) × (times (ticks_by table x) → IsSolution net x)
  solutions x = (keeps-from_solution x (ticks_by table x) (reads-number x), solution-from_keeps x (ticks_by table x) (reads-number x))

  number-below : (s : Spot) → known s → (number table s < length net.lows) × (spot_at table (number table s) ≡ s)
  number-below s in' =
      let g = get-contains table s (is.is_table.all s in') in
      let n = number-at table is.is_table.differ g.0 s g.1 in
      (omega (arith, n, same-length, slice_get_within table g.0 s g.1), rw (n, g.1) refl)

  pub least : (x : ℕ → ℕ) → IsLeast net x → (t : Ticks) → times t → (s : Spot) → known s → ticks_by table x s ≤ t s
  least x l t keeps s in' =
      let n = number-below s in' in
      let below : x (number table s) ≤ t (spot_at table (number table s)) = l.least (λ i. t (spot_at table i)) (solution-from_keeps (λ i. t (spot_at table i)) t (reads-back t) keeps) (number table s) n.0 in
      rw n.1 at below

  pub earliest : (x : ℕ → ℕ) → IsLeast net x → (s : Spot) (tick : ℕ) → known s → IsEarliest net (number table s) tick → tick ≡ ticks_by table x s
  earliest x l s tick in' e =
      let n = number-below s in' in
      let a = l.least e.0 e.1.solution (number table s) n.0 in
      let b = e.1.least x l.solution (number table s) n.0 in
      omega (arith, e.2)

  pub times-solve : (t : Ticks) → times t → IsSolution net (λ i. t (spot_at table i))
  times-solve t ok = solution-from_keeps (λ i. t (spot_at table i)) t (reads-back t) ok

pub board_solutions : BoardSolutions
board_solutions machine plans ask s table net is x = solutions (IsSuffixPoint plans s) (suffix_low machine plans ask s) (suffix_cap machine plans ask) (SuffixTimes machine plans ask s) table net is x

pub loaded_solutions : LoadedSolutions
loaded_solutions machine now exempt plans table net is x = solutions (IsPoint plans 0) (low_at (now + machine.lead) exempt plans no_own) (cap_at (now + machine.window) plans) (LoadedTimes machine now exempt plans) table net is x

pub board_late : BoardLate
board_late machine plans ask s table net is = (
  λ none t ok. none (λ i. t (spot_at table i)) (times-solve (IsSuffixPoint plans s) (suffix_low machine plans ask s) (suffix_cap machine plans ask) (SuffixTimes machine plans ask s) table net is t ok),
  λ none x sol. none (ticks_by table x) ((board_solutions machine plans ask s table net is x).0 sol),
)

pub board_least : BoardLeast
board_least machine plans ask s table net is x l p in' = (
  λ t ok. least (IsSuffixPoint plans s) (suffix_low machine plans ask s) (suffix_cap machine plans ask) (SuffixTimes machine plans ask s) table net is x l t ok p in',
  λ tick e. earliest (IsSuffixPoint plans s) (suffix_low machine plans ask s) (suffix_cap machine plans ask) (SuffixTimes machine plans ask s) table net is x l p tick in' e,
)

pub loaded_least : (machine : Machine) (now : ℕ) (exempt : Plan → Bool) (plans : List Plan) (table : List Spot) (net : Net) → IsLoadedNet machine now exempt plans table net
    → (x : ℕ → ℕ) → IsLeast net x → (t : Ticks) → LoadedTimes machine now exempt plans t → (p : Spot) → IsPoint plans 0 p → ticks_by table x p ≤ t p
loaded_least machine now exempt plans table net is x l t ok p in' =
    least (IsPoint plans 0) (low_at (now + machine.lead) exempt plans no_own) (cap_at (now + machine.window) plans) (LoadedTimes machine now exempt plans) table net is x l t ok p in'
