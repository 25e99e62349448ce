-- The plans next to an asked copy in its line: what keeps apart from them keeps apart from all of the line.
use Rattle.std.proofs.Common.{◌≡◌, zero, suc, ◌<◌, Bool, true, false, ◌&&◌, cond, List, [], ◌∷◌, ◌++◌, refl, inl, inr, sym, subst, arith, Option, Some, None, All, AllPairs, Contains, get_or, pos}
use Rattle.std.specs.Prelude.{◌+ℤ◌, ◌≤ℤ◌}
use Rattle.std.proofs.lemmas.Int.{ints}
use Rattle.std.proofs.lemmas.List.Elements.{All-append, All-cons, All-contains, All-head, All-nil, Contains-get_or}
use Rattle.tp_schedule.specs.Plans.{is_before}
use Rattle.tp_schedule.specs.Spots.{Ticks}
use Rattle.tp_schedule.specs.Spots.Spot.{own}
use Rattle.tp_schedule.specs.Times.{EndsBeforeAt}
use Rattle.tp_schedule.specs.declared.parts.Ask.{Ask}
use Rattle.tp_schedule.specs.declared.parts.Goal.{Goal}
use Rattle.tp_schedule.specs.declared.parts.Goal.TheVariants.{Purge, Tray}
use Rattle.tp_schedule.specs.declared.parts.Plan.{Plan}
use Rattle.tp_schedule.proofs.CopyFacts.{before-asym}
use Rattle.tp_schedule.proofs.Membership.{Contains-cons_cases, Contains-here, Contains-later, flat_map-to}
use Rattle.tp_constraints.specs.Gaps.{Gap, KeepsGap, KeepsGaps, end_spot, gap, is_in_line}
use Rattle.tp_constraints.specs.Suffixes.{end_gap, end_gaps}
use Rattle.tp_constraints.proofs.DurationGaps.{flat-from_each}
use Rattle.tp_constraints.proofs.Lists.{All-split}
use Rattle.tp_placing.specs.Edges.{first_of, is_ahead, is_behind}

-- the last and the first of some plans
abbrev pub plan_if : Bool → Plan → Option Plan
plan_if wanted p = cond wanted (Some p) None

abbrev pub last_plan : (Plan → Bool) → List Plan → Option Plan
last_plan wanted [] = None
last_plan wanted (p ∷ plans) = first_of (last_plan wanted plans) (plan_if (wanted p) p)

abbrev pub first_plan : (Plan → Bool) → List Plan → Option Plan
first_plan wanted [] = None
first_plan wanted (p ∷ plans) = first_of (plan_if (wanted p) p) (first_plan wanted plans)

-- the gaps to them
abbrev pub gap_to : Option Plan → List Gap
gap_to None = []
gap_to (Some p) = gap (end_spot p) (own 0) (pos 1) ∷ []

abbrev pub gap_from : Option Plan → List Gap
gap_from None = []
gap_from (Some p) = gap (own 0) (end_spot p) (pos 1) ∷ []

abbrev pub near_gaps : Ask → List Plan → List Gap
near_gaps ask plans = gap_to (last_plan (is_ahead ask) plans) ++ gap_from (first_plan (is_behind ask) plans)

pairs-head : {X : Type 0} (R : X → X → Type 0) (x : X) (xs : List X) → AllPairs R (x ∷ xs) → All (R x) xs
pairs-head R x xs h j d within = h zero (suc j) d (omega arith) (omega arith)

pairs-tail : {X : Type 0} (R : X → X → Type 0) (x : X) (xs : List X) → AllPairs R (x ∷ xs) → AllPairs R xs
pairs-tail R x xs h i j d less within = h (suc i) (suc j) d (omega arith) (omega arith)

-- a plan that was found is one of the list, and wanted; where none was found, none is wanted
module _ (wanted : Plan → Bool) where
  abbrev pub Found : List Plan → Option Plan → Type 0
  Found plans None = (p : Plan) → Contains plans p → wanted p ≡ false
  Found plans (Some p) = Contains plans p × (wanted p ≡ true)

  one-found : (p : Plan) (b : Bool) → wanted p ≡ b → Found (p ∷ []) (plan_if b p)
  one-found p true is = (Contains-here p [], is)
  one-found p false is = λ q in'. elim (Contains-cons_cases p [] q in') [
    | inl e ↦ subst (λ r. wanted r ≡ false) e is
    | inr later ↦ absurd (omega (arith, later.1))
  ]

  both-last : (p : Plan) (plans : List Plan) (o r : Option Plan) → Found plans o → Found (p ∷ []) r → Found (p ∷ plans) (first_of o r)
  both-last p plans (Some q) r a b = (Contains-later p plans q a.0, a.1)
  both-last p plans None (Some q) a b = elim (Contains-cons_cases p [] q b.0) [
    | inl e ↦ (subst (Contains (p ∷ plans)) e (Contains-here p plans), b.1)
    | inr later ↦ absurd (omega (arith, later.1))
  ]
  both-last p plans None None a b = λ q in'. elim (Contains-cons_cases p plans q in') [
    | inl e ↦ subst (λ r. wanted r ≡ false) e (b p (Contains-here p []))
    | inr later ↦ a q later
  ]

  both-first : (p : Plan) (plans : List Plan) (o r : Option Plan) → Found plans o → Found (p ∷ []) r → Found (p ∷ plans) (first_of r o)
  both-first p plans o (Some q) a b = elim (Contains-cons_cases p [] q b.0) [
    | inl e ↦ (subst (Contains (p ∷ plans)) e (Contains-here p plans), b.1)
    | inr later ↦ absurd (omega (arith, later.1))
  ]
  both-first p plans (Some q) None a b = (Contains-later p plans q a.0, a.1)
  both-first p plans None None a b = both-last p plans None None a b

  pub last-found : (plans : List Plan) → Found plans (last_plan wanted plans)
  last-found [] = λ p in'. absurd (omega (arith, in'.1))
  last-found (p ∷ plans) = both-last p plans (last_plan wanted plans) (plan_if (wanted p) p) (last-found plans) (one-found p (wanted p) refl)

  pub first-found : (plans : List Plan) → Found plans (first_plan wanted plans)
  first-found [] = λ p in'. absurd (omega (arith, in'.1))
  first-found (p ∷ plans) = both-first p plans (first_plan wanted plans) (plan_if (wanted p) p) (first-found plans) (one-found p (wanted p) refl)

parts : (a b : Bool) → (a && b) ≡ true → (a ≡ true) × (b ≡ true)
parts true true e = (refl, refl)
parts true false e = absurd cc
parts false b e = absurd cc

in-one-line : (goal : Goal) (t : Ticks) (p q : Plan) → is_in_line goal p ≡ true → is_in_line goal q ≡ true → EndsBeforeAt t p q → t (end_spot p) < t (end_spot q)
in-one-line Purge t p q a b ends = absurd cc
in-one-line (Tray tray) t p q a b ends = ends tray.0 a b

-- ticks that keep the gaps to the nearest plans, and let the ends of each line rise, keep the gaps to all of the line
module _ (ask : Ask) (t : Ticks) where
  abbrev before : Plan → Gap
  before p = gap (end_spot p) (own 0) (pos 1)

  abbrev after : Plan → Gap
  after p = gap (own 0) (end_spot p) (pos 1)

  less-before : (p : Plan) → KeepsGaps t (before p ∷ []) → t (end_spot p) < t (own 0)
  less-before p keeps = let h : (pos (t (end_spot p)) +ℤ pos 1) ≤ℤ pos (t (own 0)) = All-head (KeepsGap t) (before p) [] keeps in omega (arith, ints)

  less-after : (p : Plan) → KeepsGaps t (after p ∷ []) → t (own 0) < t (end_spot p)
  less-after p keeps = let h : (pos (t (own 0)) +ℤ pos 1) ≤ℤ pos (t (end_spot p)) = All-head (KeepsGap t) (after p) [] keeps in omega (arith, ints)

  reach-last : (plans : List Plan) → AllPairs (EndsBeforeAt t) plans → KeepsGaps t (gap_to (last_plan (is_ahead ask) plans)) → (p : Plan) → Contains plans p → is_ahead ask p ≡ true → t (end_spot p) < t (own 0)
  reach-last [] rise keeps p in' ahead = absurd (omega (arith, in'.1))
  reach-last (q ∷ plans) rise keeps p in' ahead = go (last_plan (is_ahead ask) plans) refl keeps (λ k later. reach-last plans (pairs-tail (EndsBeforeAt t) q plans rise) k p later ahead) where
    mine : q ≡ p → is_ahead ask q ≡ true
    mine same = subst (λ r. is_ahead ask r ≡ true) (sym same) ahead

    go : (o : Option Plan) → last_plan (is_ahead ask) plans ≡ o → KeepsGaps t (gap_to (first_of o (plan_if (is_ahead ask q) q)))
        → (KeepsGaps t (gap_to (last_plan (is_ahead ask) plans)) → Contains plans p → t (end_spot p) < t (own 0)) → t (end_spot p) < t (own 0)
    go (Some b) e k rest = elim (Contains-cons_cases q plans p in') [
      | inl same ↦
          let found = subst (Found (is_ahead ask) plans) e (last-found (is_ahead ask) plans) in
          let ends = All-contains (EndsBeforeAt t q) plans b (pairs-head (EndsBeforeAt t) q plans rise) found.0 in
          let less = in-one-line ask.goal t q b (parts _ _ (mine same)).0 (parts _ _ found.1).0 ends in
          let near = less-before b k in
          let mid : t (end_spot q) < t (own 0) = omega (arith, less, near) in
          subst (λ r. t (end_spot r) < t (own 0)) same mid
      | inr later ↦ rest (subst (λ o. KeepsGaps t (gap_to o)) (sym e) k) later
    ]
    go None e k rest = elim (Contains-cons_cases q plans p in') [
      | inl same ↦ subst (λ r. t (end_spot r) < t (own 0)) same (less-before q (subst (λ b. KeepsGaps t (gap_to (plan_if b q))) (mine same) k))
      | inr later ↦ absurd (let none = subst (Found (is_ahead ask) plans) e (last-found (is_ahead ask) plans) p later in cc)
    ]

  reach-first : (plans : List Plan) → AllPairs (EndsBeforeAt t) plans → KeepsGaps t (gap_from (first_plan (is_behind ask) plans)) → (p : Plan) → Contains plans p → is_behind ask p ≡ true → t (own 0) < t (end_spot p)
  reach-first [] rise keeps p in' behind = absurd (omega (arith, in'.1))
  reach-first (q ∷ plans) rise keeps p in' behind = go (is_behind ask q) refl keeps (λ k later. reach-first plans (pairs-tail (EndsBeforeAt t) q plans rise) k p later behind) where
    go : (b : Bool) → is_behind ask q ≡ b → KeepsGaps t (gap_from (first_of (plan_if b q) (first_plan (is_behind ask) plans)))
        → (KeepsGaps t (gap_from (first_plan (is_behind ask) plans)) → Contains plans p → t (own 0) < t (end_spot p)) → t (own 0) < t (end_spot p)
    go true e k rest = elim (Contains-cons_cases q plans p in') [
      | inl same ↦ subst (λ r. t (own 0) < t (end_spot r)) same (less-after q k)
      | inr later ↦
          let ends = All-contains (EndsBeforeAt t q) plans p (pairs-head (EndsBeforeAt t) q plans rise) later in
          let less = in-one-line ask.goal t q p (parts _ _ e).0 (parts _ _ behind).0 ends in
          let near = less-after q k in
          omega (arith, less, near)
    ]
    go false e k rest = elim (Contains-cons_cases q plans p in') [
      | inl same ↦ absurd (let mine = subst (λ r. is_behind ask r ≡ true) (sym same) behind in cc)
      | inr later ↦ rest k later
    ]

  pub near-all : (plans : List Plan) → AllPairs (EndsBeforeAt t) plans → KeepsGaps t (near_gaps ask plans) → KeepsGaps t (end_gaps ask plans)
  near-all plans rise keeps = flat-from_each t (end_gap ask) plans (λ k d within. one (get_or plans k d) (Contains-get_or plans k d within)) where
    near : KeepsGaps t (gap_to (last_plan (is_ahead ask) plans)) × KeepsGaps t (gap_from (first_plan (is_behind ask) plans))
    near = All-split (KeepsGap t) (gap_to (last_plan (is_ahead ask) plans)) (gap_from (first_plan (is_behind ask) plans)) keeps

    one : (p : Plan) → Contains plans p → KeepsGaps t (end_gap ask p)
    one p in' = go (is_in_line ask.goal p) (is_before p.sheet ask.sheet) (is_before ask.sheet p.sheet) refl refl refl where
      go : (a b c : Bool) → is_in_line ask.goal p ≡ a → is_before p.sheet ask.sheet ≡ b → is_before ask.sheet p.sheet ≡ c → KeepsGaps t (cond a (cond b (before p ∷ []) (cond c (after p ∷ []) [])) [])
      go false b c x y z = All-nil (KeepsGap t)
      go true true c x y z =
          let h = reach-last plans rise near.0 p in' (λ i. x i && y i) in
          All-cons (KeepsGap t) (before p) [] (omega (arith, ints)) (All-nil (KeepsGap t))
      go true false true x y z =
          let h = reach-first plans rise near.1 p in' (λ i. x i && z i) in
          All-cons (KeepsGap t) (after p) [] (omega (arith, ints)) (All-nil (KeepsGap t))
      go true false false x y z = All-nil (KeepsGap t)

-- they are some of the gaps of the line
module _ (ask : Ask) (plans : List Plan) where
  ahead-in : (p : Plan) → Contains plans p → is_ahead ask p ≡ true → Contains (end_gaps ask plans) (gap (end_spot p) (own 0) (pos 1))
  ahead-in p in' is = flat_map-to (end_gap ask) plans p (gap (end_spot p) (own 0) (pos 1)) in' (go (is_in_line ask.goal p) (is_before p.sheet ask.sheet) (is_before ask.sheet p.sheet) (parts _ _ is).0 (parts _ _ is).1) where
    go : (a b c : Bool) → a ≡ true → b ≡ true
        → Contains (cond a (cond b (gap (end_spot p) (own 0) (pos 1) ∷ []) (cond c (gap (own 0) (end_spot p) (pos 1) ∷ []) [])) []) (gap (end_spot p) (own 0) (pos 1))
    go true true c x y = Contains-here (gap (end_spot p) (own 0) (pos 1)) []
    go true false c x y = absurd cc
    go false b c x y = absurd cc

  behind-in : (p : Plan) → Contains plans p → is_behind ask p ≡ true → Contains (end_gaps ask plans) (gap (own 0) (end_spot p) (pos 1))
  behind-in p in' is =
      let not = before-asym ask.sheet p.sheet (parts _ _ is).1 in
      flat_map-to (end_gap ask) plans p (gap (own 0) (end_spot p) (pos 1)) in' (go (is_in_line ask.goal p) (is_before p.sheet ask.sheet) (is_before ask.sheet p.sheet) (parts _ _ is).0 not (parts _ _ is).1) where
        go : (a b c : Bool) → a ≡ true → b ≡ false → c ≡ true
            → Contains (cond a (cond b (gap (end_spot p) (own 0) (pos 1) ∷ []) (cond c (gap (own 0) (end_spot p) (pos 1) ∷ []) [])) []) (gap (own 0) (end_spot p) (pos 1))
        go true false true x y z = Contains-here (gap (own 0) (end_spot p) (pos 1)) []
        go true false false x y z = absurd cc
        go true true c x y z = absurd cc
        go false b c x y z = absurd cc

  pub near-in : All (Contains (end_gaps ask plans)) (near_gaps ask plans)
  near-in =
      All-append (Contains (end_gaps ask plans)) (gap_to (last_plan (is_ahead ask) plans)) (gap_from (first_plan (is_behind ask) plans))
      (to (last_plan (is_ahead ask) plans) (last-found (is_ahead ask) plans)) (from (first_plan (is_behind ask) plans) (first-found (is_behind ask) plans)) where
        to : (o : Option Plan) → Found (is_ahead ask) plans o → All (Contains (end_gaps ask plans)) (gap_to o)
        to None found = All-nil (Contains (end_gaps ask plans))
        to (Some p) found = All-cons (Contains (end_gaps ask plans)) (gap (end_spot p) (own 0) (pos 1)) [] (ahead-in p found.0 found.1) (All-nil (Contains (end_gaps ask plans)))

        from : (o : Option Plan) → Found (is_behind ask) plans o → All (Contains (end_gaps ask plans)) (gap_from o)
        from None found = All-nil (Contains (end_gaps ask plans))
        from (Some p) found = All-cons (Contains (end_gaps ask plans)) (gap (own 0) (end_spot p) (pos 1)) [] (behind-in p found.0 found.1) (All-nil (Contains (end_gaps ask plans)))
