-- Numbers are linked by their locations, the last one first.
use Rattle.std.proofs.Common.{◌≡◌, ◌≢◌, inl, inr, ℕ, zero, suc, ◌+◌, ◌-◌, ◌<◌, ◌≤◌, Bool, true, false, cond, eqb, List, [], ◌∷◌, length, map, replicate, slice_get, Option, Some, None, refl, sym, ◌∙◌, ap, subst, arith}
use Rattle.std.specs.Prelude.{slice_set, slice_index_or, IfSome}
use Rattle.std.specs.List.{position_from}
use Rattle.std.proofs.Math.Seq.{drop-length}
use Rattle.std.proofs.lemmas.Bool.{cases_Bool, eqb-true, eq-eqb, ne_eqb}
use Rattle.std.proofs.lemmas.Option.{same_Some}
use Rattle.std.proofs.lemmas.List.{get_or-set_same, get_or-set_other}
use Rattle.tp_bound_check.specs.Links.{AreBelow, AreLinked, IsNextAt, next_at}
use Rattle.tp_bound_check.proofs.RowSteps.{drop-one}

-- ---- what stands at a number
pub within : {X : Type 0} (xs : List X) (k : ℕ) (x : X) → slice_get xs k ≡ Some x → k < length xs
within [] k x at = absurd cc
within (y ∷ ys) zero x at = omega arith
within (y ∷ ys) (suc k) x at = (let below = within ys k x at in omega arith)

pub some-at : {X : Type 0} (xs : List X) (k : ℕ) → k < length xs → (x : X) × (slice_get xs k ≡ Some x)
some-at [] k below = absurd (omega arith)
some-at (x ∷ xs) zero below = (x, refl)
some-at (x ∷ xs) (suc k) below = some-at xs k (omega arith)

pub at-map : {X Y : Type 0} (f : X → Y) (xs : List X) (k : ℕ) (x : X) → slice_get xs k ≡ Some x → slice_get (map f xs) k ≡ Some (f x)
at-map f [] k x at = absurd cc
at-map f (y ∷ ys) zero x at = (let e : y ≡ x = cc in ap (λ z. Some (f z)) e)
at-map f (y ∷ ys) (suc k) x at = at-map f ys k x at

-- what holds of all that stands somewhere holds of its locations
pub below-map : {X : Type 0} (f : X → ℕ) (xs : List X) (count : ℕ) → ((k : ℕ) (x : X) → slice_get xs k ≡ Some x → f x < count) → AreBelow count (map f xs)
below-map f [] count all k loc at = absurd cc
below-map f (x ∷ xs) count all zero loc at = (let e : f x ≡ loc = same_Some (f x) loc at in subst (λ n. n < count) e (all 0 x refl))
below-map f (x ∷ xs) count all (suc k) loc at = below-map f xs count (λ j y there. all (suc j) y there) k loc at

-- ---- from one number on
pub next-here : (locs : List ℕ) (loc at p : ℕ) → slice_get locs at ≡ Some p → next_at loc at locs ≡ cond (eqb p loc) (Some at) (next_at loc (at + 1) locs)
next-here locs loc at p is = ap (position_from (λ q. eqb q loc) at) (drop-one locs at p is)

pub next-none : (locs : List ℕ) (loc : ℕ) → next_at loc (length locs) locs ≡ None
next-none locs loc = ap (position_from (λ q. eqb q loc) (length locs)) (drop-length locs)

pub next-is : (locs : List ℕ) (loc low m : ℕ) (o : Option ℕ) → low + m ≡ length locs → o ≡ next_at loc low locs → IfSome o (λ n. (low ≤ n) × (slice_get locs n ≡ Some loc))
next-is locs loc low zero None all e = tt
next-is locs loc low zero (Some n) all e =
    let end : low ≡ length locs = omega (arith, all) in
    let P : ℕ → Type 0 = λ k. Some n ≡ next_at loc k locs in
    let none : Some n ≡ None = subst P end e ∙ next-none locs loc in
    absurd cc
next-is locs loc low (suc m) o all e =
    let p = some-at locs low (omega (arith, all)) in
    go (eqb p.0 loc) p.0 refl p.1 (e ∙ next-here locs loc low p.0 p.1) (next-is locs loc (low + 1) m o (omega (arith, all)))
  where
    later : (o : Option ℕ) → IfSome o (λ n. (low + 1 ≤ n) × (slice_get locs n ≡ Some loc)) → IfSome o (λ n. (low ≤ n) × (slice_get locs n ≡ Some loc))
    later None h = tt
    later (Some n) h = (let l = h.0 in omega arith, h.1)

    go : (b : Bool) (q : ℕ) → eqb q loc ≡ b → slice_get locs low ≡ Some q → o ≡ cond b (Some low) (next_at loc (low + 1) locs) → (o ≡ next_at loc (low + 1) locs → IfSome o (λ n. (low + 1 ≤ n) × (slice_get locs n ≡ Some loc)))
        → IfSome o (λ n. (low ≤ n) × (slice_get locs n ≡ Some loc))
    go true q t is same rest = subst (λ x. IfSome x (λ n. (low ≤ n) × (slice_get locs n ≡ Some loc))) (sym same) (omega arith, is ∙ ap (λ n. Some n) (eqb-true q loc t))
    go false q t is same rest = later o (rest same)

-- what was looked up is the next one
pub is-next : (locs : List ℕ) (loc low : ℕ) (o : Option ℕ) → low ≤ length locs → o ≡ next_at loc low locs → IsNextAt loc low locs o
is-next locs loc low o le e = record { is = e; there = next-is locs loc low (length locs - low) o (omega (arith, le)) e }

-- ---- the links
no_number : (n k : ℕ) → slice_index_or {A = Option ℕ} (replicate n None) k None ≡ None
no_number zero k = refl
no_number (suc n) zero = refl
no_number (suc n) (suc k) = no_number n k

pub linked-none : (locs : List ℕ) (firsts nexts : List (Option ℕ)) (n : ℕ) → firsts ≡ replicate n None → AreLinked locs firsts nexts (length locs)
linked-none locs firsts nexts n empty = record {
  first = λ loc. ap (λ f. slice_index_or f loc None) empty ∙ no_number n loc ∙ sym (next-none locs loc);
  next = λ k loc low at. (let below = within locs k loc at in absurd (omega arith));
}

-- one number more, before those that are linked
pub linked-more : (locs : List ℕ) (firsts nexts : List (Option ℕ)) (at p : ℕ) → slice_get locs at ≡ Some p → p < length firsts → at < length nexts
    → AreLinked locs firsts nexts (at + 1) → AreLinked locs (slice_set firsts p (Some at)) (slice_set nexts at (slice_index_or firsts p None)) at
linked-more locs firsts nexts at p is known inside links = record { first = first_of; next = next_of } where
  same : eqb p p ≡ true
  same = eq-eqb p p refl

  first_of : (loc : ℕ) → slice_index_or (slice_set firsts p (Some at)) loc None ≡ next_at loc at locs
  first_of loc = elim (cases_Bool (eqb loc p)) [
    | inl here ↦
        let e = eqb-true loc p here in
        let own : next_at p at locs ≡ Some at = next-here locs p at p is ∙ ap (λ b. cond b (Some at) (next_at p (at + 1) locs)) same in
        subst (λ n. slice_index_or (slice_set firsts p (Some at)) n None ≡ next_at n at locs) (sym e) (get_or-set_same firsts p (Some at) None known ∙ sym own)
    | inr other ↦
        let differs : loc ≢ p = λ e. (let t : eqb loc p ≡ true = eq-eqb loc p e in absurd cc) in
        let no : eqb p loc ≡ false = ne_eqb p loc (λ e. differs (sym e)) in
        get_or-set_other firsts p loc (Some at) None differs ∙ links.first loc ∙ sym (next-here locs loc at p is ∙ ap (λ b. cond b (Some at) (next_at loc (at + 1) locs)) no)
  ]

  next_of : (k loc : ℕ) → at ≤ k → slice_get locs k ≡ Some loc → slice_index_or (slice_set nexts at (slice_index_or firsts p None)) k None ≡ next_at loc (k + 1) locs
  next_of k loc low there = elim (cases_Bool (eqb k at)) [
    | inl here ↦
        let e = eqb-true k at here in
        let q : loc ≡ p = same_Some loc p (sym there ∙ ap (slice_get locs) e ∙ is) in
        let put : slice_index_or (slice_set nexts at (slice_index_or firsts p None)) at None ≡ next_at p (at + 1) locs = get_or-set_same nexts at (slice_index_or firsts p None) None inside ∙ links.first p in
        subst (λ r. slice_index_or (slice_set nexts at (slice_index_or firsts p None)) k None ≡ next_at r (k + 1) locs) (sym q)
        (subst (λ j. slice_index_or (slice_set nexts at (slice_index_or firsts p None)) j None ≡ next_at p (j + 1) locs) (sym e) put)
    | inr other ↦
        let differs : k ≢ at = λ e. (let t : eqb k at ≡ true = eq-eqb k at e in absurd cc) in
        get_or-set_other nexts at k (slice_index_or firsts p None) None differs ∙ links.next k loc (omega (arith, low, differs)) there
  ]

-- ---- going along the numbers of a location
-- the numbers that are still ahead
abbrev pub ahead : ℕ → Option ℕ → ℕ
ahead count None = 0
ahead count (Some n) = suc (count - n)

pub ahead-smaller : (locs : List ℕ) (loc count n : ℕ) (o : Option ℕ) → n < count → IsNextAt loc (n + 1) locs o → ahead count o < suc (count - n)
ahead-smaller locs loc count n None below next = omega arith
ahead-smaller locs loc count n (Some m) below next = (let above = next.there.0 in omega arith)

-- what stands at the next number
pub there-is : (locs : List ℕ) (loc low : ℕ) (o : Option ℕ) → IsNextAt loc low locs o → IfSome o (λ n. slice_get locs n ≡ Some loc)
there-is locs loc low None next = tt
there-is locs loc low (Some n) next = next.there.1

pub none-there : {X : Type 0} (o : Option X) → ((x : X) → o ≢ Some x) → o ≡ None
none-there None not = refl
none-there (Some x) not = absurd (not x refl)

-- the next number behind one
pub next-of : (locs others : List ℕ) (n loc : ℕ) (o : Option ℕ) → locs ≡ others → ((p : ℕ) → slice_get locs n ≡ Some p → IsNextAt p (n + 1) locs o) → slice_get others n ≡ Some loc → IsNextAt loc (n + 1) others o
next-of locs others n loc o same next at = let P : List ℕ → Type 0 = λ ps. (p : ℕ) → slice_get ps n ≡ Some p → IsNextAt p (n + 1) ps o in subst P same next loc at
