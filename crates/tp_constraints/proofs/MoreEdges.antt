-- A network with more edges, or with one own point more.
use Rattle.std.proofs.Common.{◌≡◌, ◌≢◌, ◌⊎◌, inl, inr, ℕ, suc, ◌≤◌, List, [], ◌∷◌, ◌++◌, length, map, refl, sym, arith, All, ◌∙◌, ap, subst, get_or, Some}
use Rattle.std.specs.Prelude.{◌↔◌}
use Rattle.std.proofs.lemmas.List.{length-append, map-append}
use Rattle.std.proofs.lemmas.List.Elements.{All-nil, All-cons, All-head, All-tail, All-append}
use Rattle.tp_base.specs.declared.edges.Edge.{Edge}
use Rattle.tp_base.specs.Net.{Net, with_point, with_edges}
use Rattle.tp_schedule.specs.declared.parts.Plan.{Plan}
use Rattle.tp_schedule.specs.Spots.{Spot, Ticks}
use Rattle.tp_schedule.specs.Spots.Spot.{kept, own}
use Rattle.tp_constraints.specs.Gaps.{KeepsGap, KeepsGaps, IsPoint}
use Rattle.tp_constraints.specs.Numbers.{gap_by, IsTable, IsEdgeOf, IsNetFor}
use Rattle.std.proofs.lemmas.Bool.{cases_lt}
use Rattle.tp_choices.proofs.Lists.{slice_get-left, slice_get-right}
use Rattle.std.proofs.lemmas.List.Quantifiers.{all_pairs_push}
use Rattle.tp_constraints.proofs.Lists.{All-split, get-there, contains-get, get-contains, map-each}

-- more edges
pub edges-step : (known : Spot → Type 0) (low cap : Spot → ℕ) (times times' : Ticks → Type 0) (table : List Spot) (net : Net) (es : List Edge) → IsNetFor known low cap times table net
    → All (IsEdgeOf table) es → ((t : Ticks) → times' t ↔ (times t × KeepsGaps t (map (gap_by table) es))) → IsNetFor known low cap times' table (with_edges net es)
edges-step known low cap times times' table net es is in' more = record {
  is_table = is.is_table;
  lows = is.lows;
  caps = is.caps;
  edges = All-append (IsEdgeOf table) net.edges es is.edges in';
  says = λ t. (
    λ h. let m = (more t).0 h in let k = (is.says t).0 m.0 in
        (k.0, subst (KeepsGaps t) (sym (map-append (gap_by table) net.edges es)) (All-append (KeepsGap t) (map (gap_by table) net.edges) (map (gap_by table) es) k.1 m.1)),
    λ k. let s = All-split (KeepsGap t) (map (gap_by table) net.edges) (map (gap_by table) es) (subst (KeepsGaps t) (map-append (gap_by table) net.edges es) k.1) in
        (more t).1 ((is.says t).1 (k.0, s.0), s.1),
  );
}

-- one own point more
known-more : (plans : List Plan) (count : ℕ) (s : Spot) → IsPoint plans count s → IsPoint plans (suc count) s
known-more plans count (kept c i) h = h
known-more plans count (own n) h = omega arith

known-less : (plans : List Plan) (count : ℕ) (s : Spot) → IsPoint plans (suc count) s → IsPoint plans count s ⊎ (s ≡ own count)
known-less plans count (kept c i) h = inl h
known-less plans count (own n) h = elim (cases_lt n count) [
  | inl l ↦ inl l
  | inr e ↦ let same : n ≡ count = omega arith in inr (ap own same)
]

table-step : (plans : List Plan) (count : ℕ) (table : List Spot) → IsTable (IsPoint plans count) table → IsTable (IsPoint plans (suc count)) (table ++ own count ∷ [])
table-step plans count table is = record {
  differ = all_pairs_push (λ a b. a ≢ b) table (own count) is.differ (λ k d within e. let h : IsPoint plans count (own count) = subst (IsPoint plans count) e (is.only k d within) in omega (arith, h));
  only = All-append (IsPoint plans (suc count)) table (own count ∷ []) (λ k d within. known-more plans count (get_or table k d) (is.only k d within)) (All-cons (IsPoint plans (suc count)) (own count) [] (omega arith) (All-nil (IsPoint plans (suc count))));
  all = λ s h. elim (known-less plans count s h) [
    | inl old ↦ let g = get-contains table s (is.all s old) in contains-get (table ++ own count ∷ []) g.0 s (slice_get-left table (own count ∷ []) g.0 s g.1)
    | inr e ↦ contains-get (table ++ own count ∷ []) (length table) s (slice_get-right table (own count ∷ []) (length table) 0 s (omega arith) (ap Some (sym e)))
  ];
}

pub gap-same : (table more : List Spot) (e : Edge) → IsEdgeOf table e → gap_by (table ++ more) e ≡ gap_by table e
gap-same table more e in' =
    let a = get-there table e.from.0 in'.0 in
    let b = get-there table e.to.0 in'.1 in
    let a' = slice_get-left table more e.from.0 a.0 a.1 in
    let b' = slice_get-left table more e.to.0 b.0 b.1 in
    rw (a.1, b.1, a', b') refl

pub gaps-same : (table more : List Spot) (es : List Edge) → All (IsEdgeOf table) es → map (gap_by (table ++ more)) es ≡ map (gap_by table) es
gaps-same table more [] all = refl
gaps-same table more (e ∷ es) all =
    let a = gap-same table more e (All-head (IsEdgeOf table) e es all) in
    let b = gaps-same table more es (All-tail (IsEdgeOf table) e es all) in
    λ i. a i ∷ b i

pub point-step : (plans : List Plan) (count : ℕ) (low low' cap : Spot → ℕ) (times times' : Ticks → Type 0) (table : List Spot) (net : Net) (l c : ℕ) → IsNetFor (IsPoint plans count) low cap times table net
    → ((s : Spot) → IsPoint plans count s → low' s ≡ low s) → low' (own count) ≡ l → cap (own count) ≡ c
    → ((t : Ticks) → times' t ↔ (times t × (l ≤ t (own count)) × (t (own count) ≤ c)))
    → IsNetFor (IsPoint plans (suc count)) low' cap times' (table ++ own count ∷ []) (with_point net l c)
point-step plans count low low' cap times times' table net l c is agree low-is cap-is more = record {
  is_table = table-step plans count table is.is_table;
  lows =
      let a : map low table ≡ map low' table = map-each low low' table (λ k d within. sym (agree (get_or table k d) (is.is_table.only k d within))) in
      ap (λ ls. ls ++ l ∷ []) (is.lows ∙ a) ∙ ap (λ v. map low' table ++ v ∷ []) (sym low-is) ∙ sym (map-append low' table (own count ∷ []));
  caps = ap (λ ls. ls ++ c ∷ []) is.caps ∙ ap (λ v. map cap table ++ v ∷ []) (sym cap-is) ∙ sym (map-append cap table (own count ∷ []));
  edges = λ k d within. let e = is.edges k d within in (omega (arith, e.0, length-append table (own count ∷ [])), omega (arith, e.1, length-append table (own count ∷ [])));
  says = λ t. (
    λ h. let m = (more t).0 h in let k = (is.says t).0 m.0 in (
      λ s known. elim (known-less plans count s known) [
        | inl old ↦ let a = agree s old in rw a (k.0 s old)
        | inr e ↦ rw (e, low-is, cap-is) (m.1, m.2)
      ],
      subst (KeepsGaps t) (sym (gaps-same table (own count ∷ []) net.edges is.edges)) k.1,
    ),
    λ k.
        let last : (l ≤ t (own count)) × (t (own count) ≤ c) = rw (low-is, cap-is) at (k.0 (own count) (omega arith)) in
        (more t).1 ((is.says t).1 (λ s old. rw (agree s old) at (k.0 s (known-more plans count s old)), subst (KeepsGaps t) (gaps-same table (own count ∷ []) net.edges is.edges) k.1), last.0, last.1),
  );
}
