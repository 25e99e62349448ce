-- The plan at a place is changed, or goes.
use Rattle.std.proofs.Common.{◌≡◌, ℕ, zero, suc, ◌+◌, ◌<◌, ◌≤◌, Bool, true, false, cond, not, List, [], ◌∷◌, ◌++◌, length, take, drop, set, slice_get, Some, refl, sym, ap, ◌∙◌, All, AllPairs, IsSomeAnd, arith, subst}
use Rattle.std.proofs.lemmas.List.{length-take}
use Rattle.std.proofs.lemmas.List.Elements.{All-head, All-tail}
use Rattle.std.proofs.lemmas.Option.{get_or_from_slice_get, slice_get_within}
use Rattle.tp_base.proofs.SliceFacts.{All-at}
use Rattle.tp_schedule.specs.Plans.{IsEarlier, change_plan, is_same_copy, plan_of, without}
use Rattle.tp_schedule.specs.declared.parts.Plan.{Plan}
use Rattle.tp_schedule.proofs.CopyFacts.{same_copy-refl, before-not_same, before-not_same', plan_of-itself}
use Rattle.tp_schedule.proofs.Pairs.{AllPairs-head, AllPairs-tail}

same-not : {X : Type 0} (b : Bool) (x y : X) → b ≡ false → cond b x y ≡ y
same-not true x y e = absurd cc
same-not false x y e = refl

same-is : {X : Type 0} (b : Bool) (x y : X) → b ≡ true → cond b x y ≡ x
same-is true x y e = refl
same-is false x y e = absurd cc

before-at : (q : Plan) (plans : List Plan) (i : ℕ) (p : Plan) → AllPairs IsEarlier (q ∷ plans) → slice_get plans i ≡ Some p → is_same_copy q.sheet p.sheet ≡ false
before-at q plans i p in_order at = before-not_same q.sheet p.sheet (All-at (IsEarlier q) plans i p (AllPairs-head IsEarlier q plans in_order) at)

pub change-at : (f : Plan → Plan) (plans : List Plan) (i : ℕ) (p : Plan) → AllPairs IsEarlier plans → slice_get plans i ≡ Some p → change_plan p.sheet f plans ≡ set plans i (f p)
change-at f [] i p in_order at = absurd cc
change-at f (q ∷ plans) zero p in_order at =
    let same : q ≡ p = cc in
    same-is (is_same_copy q.sheet p.sheet) _ _ (ap (λ r. is_same_copy q.sheet r.sheet) (sym same) ∙ same_copy-refl q.sheet) ∙ ap (λ r. f r ∷ plans) same
change-at f (q ∷ plans) (suc i) p in_order at =
    same-not (is_same_copy q.sheet p.sheet) _ _ (before-at q plans i p in_order at)
    ∙ ap (λ ps. q ∷ ps) (change-at f plans i p (AllPairs-tail IsEarlier q plans in_order) at)

without-none : (p : Plan) (plans : List Plan) → All (IsEarlier p) plans → without p.sheet plans ≡ plans
without-none p [] all = refl
without-none p (q ∷ plans) all =
    same-is (not (is_same_copy q.sheet p.sheet)) _ _ (ap not (before-not_same' p.sheet q.sheet (All-head (IsEarlier p) q plans all)))
    ∙ ap (λ ps. q ∷ ps) (without-none p plans (All-tail (IsEarlier p) q plans all))

pub without-at : (plans : List Plan) (i : ℕ) (p : Plan) → AllPairs IsEarlier plans → slice_get plans i ≡ Some p → without p.sheet plans ≡ take i plans ++ drop (i + 1) plans
without-at [] i p in_order at = absurd cc
without-at (q ∷ plans) zero p in_order at =
    let same : q ≡ p = cc in
    same-not (not (is_same_copy q.sheet p.sheet)) _ _ (ap not (ap (λ r. is_same_copy q.sheet r.sheet) (sym same) ∙ same_copy-refl q.sheet))
    ∙ ap (λ r. without r.sheet plans) (sym same) ∙ without-none q plans (AllPairs-head IsEarlier q plans in_order)
without-at (q ∷ plans) (suc i) p in_order at =
    let next : suc (i + 1) ≡ suc i + 1 = omega arith in
    same-is (not (is_same_copy q.sheet p.sheet)) _ _ (ap not (before-at q plans i p in_order at))
    ∙ ap (λ ps. q ∷ ps) (without-at plans i p (AllPairs-tail IsEarlier q plans in_order) at)
    ∙ ap (λ j. q ∷ (take i plans ++ drop j (q ∷ plans))) next

pub planned-at : (plans : List Plan) (i : ℕ) (p : Plan) → AllPairs IsEarlier plans → slice_get plans i ≡ Some p → plan_of p.sheet plans ≡ Some p
planned-at plans i p in_order at = plan_of-itself plans p in_order (i, slice_get_within plans i p at, get_or_from_slice_get plans i p p at)

-- what stands before the place and from it on
pub drop-set : {X : Type 0} (xs : List X) (i : ℕ) (x y : X) → slice_get xs i ≡ Some x → drop i (set xs i y) ≡ y ∷ drop (i + 1) xs
drop-set [] i x y at = absurd cc
drop-set (z ∷ xs) zero x y at = refl
drop-set (z ∷ xs) (suc i) x y at = let next : suc (i + 1) ≡ suc i + 1 = omega arith in drop-set xs i x y at ∙ ap (λ j. y ∷ drop j (z ∷ xs)) next

-- what the same beginning says of a place
pub same-before : {X : Type 0} (xs ys : List X) (n i : ℕ) (x : X) → take n xs ≡ take n ys → i < n → slice_get xs i ≡ Some x → slice_get ys i ≡ Some x
same-before xs ys zero i x e low at = absurd (omega arith)
same-before [] ys (suc n) i x e low at = absurd cc
same-before (z ∷ xs) [] (suc n) i x e low at = absurd cc
same-before (z ∷ xs) (w ∷ ys) (suc n) zero x e low at = let heads : z ≡ w = cc in ap Some (sym heads) ∙ at
same-before (z ∷ xs) (w ∷ ys) (suc n) (suc i) x e low at = let tails : take n xs ≡ take n ys = cc in same-before xs ys n i x tails (omega arith) at

pub take-less : {X : Type 0} (xs ys : List X) (n i : ℕ) → take n xs ≡ take n ys → i ≤ n → take i xs ≡ take i ys
take-less xs ys n zero e low = refl
take-less xs ys zero (suc i) e low = absurd (omega arith)
take-less [] [] (suc n) (suc i) e low = refl
take-less [] (w ∷ ys) (suc n) (suc i) e low = absurd cc
take-less (z ∷ xs) [] (suc n) (suc i) e low = absurd cc
take-less (z ∷ xs) (w ∷ ys) (suc n) (suc i) e low =
    let heads : z ≡ w = cc in
    let tails : take n xs ≡ take n ys = cc in
    (λ k. heads k ∷ take-less xs ys n i tails (omega arith) k)

pub drop_from : {X : Type 0} (xs : List X) (i : ℕ) (x : X) → slice_get xs i ≡ Some x → drop i xs ≡ x ∷ drop (i + 1) xs
drop_from [] i x at = absurd cc
drop_from (z ∷ xs) zero x at = let same : z ≡ x = cc in ap (λ y. y ∷ xs) same
drop_from (z ∷ xs) (suc i) x at = let next : suc (i + 1) ≡ suc i + 1 = omega arith in drop_from xs i x at ∙ ap (λ j. x ∷ drop j (z ∷ xs)) next

-- what is said of the element at a place
pub at-place : {X : Type 0} (P : X → Type 0) (xs : List X) (i : ℕ) (x : X) → slice_get xs i ≡ Some x → P x → IsSomeAnd (slice_get xs i) P
at-place P xs i x at h = subst (λ o. IsSomeAnd o P) (sym at) h

pub of-place : {X : Type 0} (P : X → Type 0) (xs : List X) (i : ℕ) (x : X) → slice_get xs i ≡ Some x → IsSomeAnd (slice_get xs i) P → P x
of-place P xs i x at h = subst (λ o. IsSomeAnd o P) at h

pub get-set : {X : Type 0} (xs : List X) (i : ℕ) (x y : X) → slice_get xs i ≡ Some x → slice_get (set xs i y) i ≡ Some y
get-set [] i x y at = absurd cc
get-set (z ∷ xs) zero x y at = refl
get-set (z ∷ xs) (suc i) x y at = get-set xs i x y at

pub set-set : {X : Type 0} (xs : List X) (i : ℕ) (x y : X) → set (set xs i x) i y ≡ set xs i y
set-set [] i x y = refl
set-set (z ∷ xs) zero x y = refl
set-set (z ∷ xs) (suc i) x y = ap (λ zs. z ∷ zs) (set-set xs i x y)

pub long-enough : {X : Type 0} (xs ys : List X) (n : ℕ) → take n xs ≡ take n ys → n ≤ length ys → n ≤ length xs
long-enough xs ys n e low = omega (arith, ap length e, length-take n xs, length-take n ys)
