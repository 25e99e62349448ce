-- Edges that end at different points are hops that pass no point twice.
use Rattle.std.proofs.Common.{◌≡◌, ◌≢◌, ◌⊎◌, inl, inr, ℕ, zero, suc, ◌+◌, ◌-◌, ◌<◌, ◌≤◌, List, [], ◌∷◌, ◌++◌, length, map, refl, sym, ◌∙◌, ap, subst, arith, All, AllPairs, Some, get_or}
use Rattle.std.specs.Prelude.{ℤ, slice_get, slice_index}
use Rattle.std.proofs.lemmas.List.{append-nil, length-append, length-map}
use Rattle.std.proofs.lemmas.List.Elements.{All-head, All-tail}
use Rattle.tp_base.specs.declared.edges.Edge.{Edge}
use Rattle.tp_base.specs.Refute.{AreApart, Leads, ends_of}
use Rattle.tp_bounds.specs.declared.hops.Hop.{Hop as TreeHop}
use Rattle.tp_bounds.specs.declared.hops.TreePoint.{TreePoint}
use Rattle.tp_machine.specs.declared.machine.Machine.{Machine}
use Rattle.tp_schedule.specs.Spots.{Spot}
use Rattle.tp_schedule.specs.declared.parts.Ask.{Ask}
use Rattle.tp_schedule.specs.declared.parts.Plan.{Plan}
use Rattle.tp_constraints.specs.Gaps.{Gap}
use Rattle.tp_constraints.proofs.Lists.{get-there}
use Rattle.tp_constraints.proofs.PointNumbers.{number-at}
use Rattle.tp_placing.specs.Causes.{numbered}
use Rattle.tp_placing.specs.LoadedBoard.{table_with}
use Rattle.tp_placing.specs.declared.causes.EdgeCause.{EdgeCause}
use Rattle.tp_placing.proofs.CauseFacts.{numbered-in}
use Rattle.tp_bound_laws.specs.Chains.{gap_of, spot_of}
use Rattle.tp_bound_laws.specs.Once.{AreDifferent, chain_once, loop_once, passed, passed_on}
use Rattle.tp_bound_laws.specs.Places.{Stand}
use Rattle.tp_bound_make.specs.TellableReasons.{IsTold, tell, told_then, told_until}
use Rattle.tp_bound_make.proofs.FollowedEdges.{IsAllowed}

-- ---- different numbers
index-left : (xs ys : List ℕ) (i : ℕ) → i < length xs → slice_index (xs ++ ys) i ≡ slice_index xs i
index-left [] ys i h = absurd (omega (arith, h))
index-left (x ∷ xs) ys zero h = refl
index-left (x ∷ xs) ys (suc i) h = index-left xs ys i (omega (arith, h))

index-right : (xs ys : List ℕ) (i n : ℕ) → n ≡ length xs + i → slice_index (xs ++ ys) n ≡ slice_index ys i
index-right [] ys i n e = let same : n ≡ i = omega (arith, e) in ap (slice_index ys) same
index-right (x ∷ xs) ys i zero e = absurd (omega (arith, e))
index-right (x ∷ xs) ys i (suc n) e = index-right xs ys i n (omega (arith, e))

-- the first of different numbers are different
pub apart-front : (xs ys : List ℕ) → AreApart (xs ++ ys) → AreApart xs
apart-front xs ys apart i j below within same =
    let n = length-append xs ys in
    apart i j below (omega (arith, n, within)) (index-left xs ys i (omega (arith, below, within)) ∙ same ∙ sym (index-left xs ys j within))

below-or-not : (a b : ℕ) → (a < b) ⊎ (b ≤ a)
below-or-not zero zero = inr (omega arith)
below-or-not zero (suc b) = inl (omega arith)
below-or-not (suc a) zero = inr (omega arith)
below-or-not (suc a) (suc b) = elim (below-or-not a b) [ inl h ↦ inl (omega (arith, h)) | inr h ↦ inr (omega (arith, h)) ]

-- they stay so where the first ones come last
pub apart-turned : (xs ys : List ℕ) → AreApart (xs ++ ys) → AreApart (ys ++ xs)
apart-turned xs ys apart i j below within same = pick (below-or-not i (length ys)) (below-or-not j (length ys)) where
  size : length (xs ++ ys) ≡ length xs + length ys
  size = length-append xs ys

  turned : length (ys ++ xs) ≡ length ys + length xs
  turned = length-append ys xs

  at-left : (k : ℕ) → k < length ys → slice_index (ys ++ xs) k ≡ slice_index (xs ++ ys) (length xs + k)
  at-left k h = index-left ys xs k h ∙ sym (index-right xs ys k (length xs + k) refl)

  at-right : (k d : ℕ) → k ≡ length ys + d → d < length xs → slice_index (ys ++ xs) k ≡ slice_index (xs ++ ys) d
  at-right k d e h = index-right ys xs d k e ∙ sym (index-left xs ys d h)

  pick : (i < length ys) ⊎ (length ys ≤ i) → (j < length ys) ⊎ (length ys ≤ j) → ⊥
  pick (inl a) (inl b) = apart (length xs + i) (length xs + j) (omega (arith, below)) (omega (arith, size, b)) (sym (at-left i a) ∙ same ∙ at-left j b)
  pick (inl a) (inr b) =
      let d : ℕ = j - length ys in
      let e : j ≡ length ys + d = omega (arith, b) in
      let h : d < length xs = omega (arith, e, turned, within) in
      apart d (length xs + i) (omega (arith, h)) (omega (arith, size, a)) (sym (at-right j d e h) ∙ sym same ∙ at-left i a)
  pick (inr a) (inl b) = absurd (omega (arith, a, b, below))
  pick (inr a) (inr b) =
      let d : ℕ = i - length ys in
      let k : ℕ = j - length ys in
      let e : i ≡ length ys + d = omega (arith, a) in
      let u : j ≡ length ys + k = omega (arith, b) in
      let h : k < length xs = omega (arith, u, turned, within) in
      let less : d < k = omega (arith, e, u, below) in
      apart d k less (omega (arith, size, h)) (sym (at-right i d e (omega (arith, less, h))) ∙ same ∙ at-right j k u h)

pub ends-append : (xs ys : List Edge) → ends_of (xs ++ ys) ≡ ends_of xs ++ ends_of ys
ends-append [] ys = refl
ends-append (e ∷ xs) ys = ap (λ ns. e.to.0 ∷ ns) (ends-append xs ys)

ends-at : (n : ℕ) (es : List Edge) → All (λ e. e.to.0 < n) es → (i : ℕ) → i < length (ends_of es) → slice_index (ends_of es) i < n
ends-at n [] all i h = absurd (omega (arith, h))
ends-at n (e ∷ es) all zero h = All-head (λ (e : Edge). e.to.0 < n) e es all
ends-at n (e ∷ es) all (suc i) h = ends-at n es (All-tail (λ (e : Edge). e.to.0 < n) e es all) i (omega (arith, h))

pub leads-join : (xs ys : List Edge) (a m z : ℕ) → Leads a xs m → Leads m ys z → Leads a (xs ++ ys) z
leads-join [] ys a m z one two = subst (λ q. Leads q ys z) (sym one) two
leads-join (e ∷ xs) ys a m z one two = (one.0, leads-join xs ys e.to.0 m z one.1 two)

-- ---- different points
at-map : (plans : List Plan) (ns : List ℕ) (i : ℕ) (d : Spot) → i < length ns → get_or (map (λ n. numbered plans n) ns) i d ≡ numbered plans (slice_index ns i)
at-map plans [] i d h = absurd (omega (arith, h))
at-map plans (n ∷ ns) zero d h = refl
at-map plans (n ∷ ns) (suc i) d h = at-map plans ns i d (omega (arith, h))

pub points-differ : (plans : List Plan) (count : ℕ) (ns : List ℕ) → AllPairs (λ a b. a ≢ b) (table_with plans count) → AreApart ns → ((i : ℕ) → i < length ns → slice_index ns i < length (table_with plans count))
    → AreDifferent (map (λ n. numbered plans n) ns)
points-differ plans count ns differ apart known i j d below within same =
    let n = length-map ns (λ n. numbered plans n) in
    let first : i < length ns = omega (arith, n, below, within) in
    let last : j < length ns = omega (arith, n, within) in
    let a = get-there (table_with plans count) (slice_index ns i) (known i first) in
    let b = get-there (table_with plans count) (slice_index ns j) (known j last) in
    let p = numbered-in plans count (slice_index ns i) a.0 a.1 in
    let q = numbered-in plans count (slice_index ns j) b.0 b.1 in
    let one : b.0 ≡ a.0 = sym q ∙ sym (at-map plans ns j d last) ∙ sym same ∙ at-map plans ns i d first ∙ p in
    apart i j below last (sym (number-at (table_with plans count) differ (slice_index ns i) a.0 a.1) ∙ number-at (table_with plans count) differ (slice_index ns j) a.0 (b.1 ∙ ap (λ k. Some k) one))

module _ (machine : Machine) (plans : List Plan) (ask : Ask) (limit : ℤ) (s : Stand) (causes : List EdgeCause) where
  pub told-append : (xs ys : List Edge) → All (IsTold (tell machine plans causes)) xs → told_until (tell machine plans causes) (xs ++ ys) ≡ told_until (tell machine plans causes) xs ++ told_until (tell machine plans causes) ys
  told-append [] ys told = refl
  told-append (e ∷ xs) ys told =
      let h = All-head (IsTold (tell machine plans causes)) e xs told in
      ap (λ o. told_then o (told_until (tell machine plans causes) (xs ++ ys))) h.1
      ∙ ap (λ hops. h.0 ∷ hops) (told-append xs ys (All-tail (IsTold (tell machine plans causes)) e xs told))
      ∙ ap (λ o. told_then o (told_until (tell machine plans causes) xs) ++ told_until (tell machine plans causes) ys) (sym h.1)

  -- named edges pass their ends, up to one without a name
  pub passed-told : (es rest : List Edge) (a z : ℕ) → All (IsAllowed machine plans ask limit s causes) es → All (IsTold (tell machine plans causes)) es → Leads a es z → told_until (tell machine plans causes) rest ≡ []
      → passed machine plans ask limit s (numbered plans a) (told_until (tell machine plans causes) (es ++ rest)) ≡ map (λ n. numbered plans n) (ends_of es)
  passed-told [] rest a z allowed told leads none = ap (passed machine plans ask limit s (numbered plans a)) none
  passed-told (e ∷ es) rest a z allowed told leads none =
      let h = All-head (IsTold (tell machine plans causes)) e es told in
      let next = λ (g : Gap). passed machine plans ask limit s g.to (told_until (tell machine plans causes) (es ++ rest)) in
      ap (λ o. passed machine plans ask limit s (numbered plans a) (told_then o (told_until (tell machine plans causes) (es ++ rest)))) h.1
      ∙ ap (λ q. passed_on machine plans ask limit s next (gap_of machine plans ask limit s (numbered plans q) h.0)) (sym leads.0)
      ∙ ap (passed_on machine plans ask limit s next) (All-head (IsAllowed machine plans ask limit s causes) e es allowed h.0 h.1)
      ∙ ap (λ ps. numbered plans e.to.0 ∷ ps) (passed-told es rest e.to.0 z (All-tail (IsAllowed machine plans ask limit s causes) e es allowed) (All-tail (IsTold (tell machine plans causes)) e es told) leads.1 none)

  module _ (differ : AllPairs (λ a b. a ≢ b) (table_with plans (suc (length s.branch.x.choices)))) where
    -- edges from one point of the table to others
    pub record AreEdges (a z : ℕ) (es : List Edge) : Type 0 where
      pub known : All (λ e. e.to.0 < length (table_with plans (suc (length s.branch.x.choices)))) es
      pub allowed : All (IsAllowed machine plans ask limit s causes) es
      pub told : All (IsTold (tell machine plans causes)) es
      pub leads : Leads a es z

    pub chain-passes : (name : TreePoint) (first z : ℕ) (es rest all : List Edge) → all ≡ es ++ rest → AreEdges first z es → told_until (tell machine plans causes) rest ≡ [] → AreApart (first ∷ ends_of es)
        → first < length (table_with plans (suc (length s.branch.x.choices))) → spot_of plans (length s.branch.x.choices) name ≡ Some (numbered plans first)
        → chain_once machine plans ask limit s (spot_of plans (length s.branch.x.choices) name) (told_until (tell machine plans causes) all)
    chain-passes name first z es rest all parts edges none apart below found =
        subst (λ o. chain_once machine plans ask limit s o (told_until (tell machine plans causes) all)) (sym found)
        (subst (λ ds. AreDifferent (numbered plans first ∷ passed machine plans ask limit s (numbered plans first) (told_until (tell machine plans causes) ds))) (sym parts)
        (subst (λ ps. AreDifferent (numbered plans first ∷ ps)) (sym (passed-told es rest first z edges.allowed edges.told edges.leads none))
        (points-differ plans (suc (length s.branch.x.choices)) (first ∷ ends_of es) differ apart at))) where
          at : (i : ℕ) → i < length (first ∷ ends_of es) → slice_index (first ∷ ends_of es) i < length (table_with plans (suc (length s.branch.x.choices)))
          at zero h = below
          at (suc i) h = ends-at (length (table_with plans (suc (length s.branch.x.choices)))) es edges.known i (omega (arith, h))

    pub loop-passes : (name : TreePoint) (first z : ℕ) (es : List Edge) → AreEdges first z es → AreApart (ends_of es) → spot_of plans (length s.branch.x.choices) name ≡ Some (numbered plans first)
        → loop_once machine plans ask limit s (spot_of plans (length s.branch.x.choices) name) (told_until (tell machine plans causes) es)
    loop-passes name first z es edges apart found =
        subst (λ o. loop_once machine plans ask limit s o (told_until (tell machine plans causes) es)) (sym found)
        (subst (λ ds. AreDifferent (passed machine plans ask limit s (numbered plans first) (told_until (tell machine plans causes) ds))) (append-nil es)
        (subst AreDifferent (sym (passed-told es [] first z edges.allowed edges.told edges.leads refl))
        (points-differ plans (suc (length s.branch.x.choices)) (ends_of es) differ apart (ends-at (length (table_with plans (suc (length s.branch.x.choices)))) es edges.known))))
