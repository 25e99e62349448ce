-- Where a binary search ends among plans, or other items, that stand in the order of their copies.
use Rattle.std.proofs.Common.{◌≡◌, ℕ, ◌==◌, ◌&&◌, ◌≤◌, ◌<◌, Bool, true, false, not, inl, inr, List, [], ◌∷◌, length, get_or, position, Some, None, AllPairs, IsTrue, refl, arith}
use Rattle.std.specs.List.{position_or_len}
use Rattle.std.specs.List.Sorted.{IsPartitionPoint, IsPartitionedBy}
use Rattle.std.proofs.lemmas.Bool.{cases_lt, not-false, not-true}
use Rattle.std.proofs.lemmas.Bool.Decides.{nat_tests}
use Rattle.std.proofs.lemmas.List.Sums.{position_or_len_is}
use Rattle.tp_schedule.specs.Plans.{IsEarlier, is_before, is_same_copy}
use Rattle.tp_schedule.specs.declared.parts.Plan.{Plan}
use Rattle.tp_schedule.specs.declared.parts.SheetId.{SheetId}
use Rattle.tp_schedule.proofs.CopyFacts.{before-trans, before-not_same, before-not_same'}

-- the fields one by one
pub same_copy-fields : (a b : SheetId) → ((a.job == b.job) && ((a.number == b.number) && (a.copy == b.copy))) ≡ is_same_copy a b
same_copy-fields a b = grind (arith, nat_tests)

behind-other : (a b : SheetId) → is_before a b ≡ false → is_same_copy a b ≡ false → is_before b a ≡ true
behind-other a b p q = grind (arith, nat_tests)

not_before-earlier : (copy a b : SheetId) → is_before a b ≡ true → is_before copy b ≡ false → is_before copy a ≡ false
not_before-earlier copy a b before not_behind = go (is_before copy a) refl where
  go : (v : Bool) → is_before copy a ≡ v → v ≡ false
  go true e = let both : is_before copy b ≡ true = before-trans copy a b e before in absurd (cc)
  go false e = refl

-- of items that stand in the order of their copies, none that is behind the copy stands before one that is not
pub behind-partitioned : {X : Type 0} (copy : SheetId) (sheet : X → SheetId) (xs : List X) → AllPairs (λ x y. IsTrue (is_before (sheet x) (sheet y))) xs → IsPartitionedBy (λ x. not (is_before copy (sheet x))) xs
behind-partitioned copy sheet xs in_order i j d le lt passes = elim (cases_lt i j) [
  | inl below ↦ rw (not_before-earlier copy (sheet (get_or xs i d)) (sheet (get_or xs j d)) (in_order i j d below lt) (not-true (is_before copy (sheet (get_or xs j d))) passes)) refl
  | inr above ↦ let same : i ≡ j = omega arith in rw same passes
]

-- no plan that is not before the copy stands before one that is
pub before-partitioned : (copy : SheetId) (plans : List Plan) → AllPairs IsEarlier plans → IsPartitionedBy (λ p. is_before p.sheet copy) plans
before-partitioned copy plans in_order i j d le lt passes = elim (cases_lt i j) [
  | inl below ↦ before-trans (get_or plans i d).sheet (get_or plans j d).sheet copy (in_order i j d below lt) passes
  | inr above ↦ let same : i ≡ j = omega arith in rw same passes
]

-- the search ends at the first item behind the copy
pub place-behind : {X : Type 0} (copy : SheetId) (sheet : X → SheetId) (xs : List X) (i : ℕ) → i ≤ length xs → IsPartitionPoint (λ x. not (is_before copy (sheet x)) ≡ true) (λ x. not (is_before copy (sheet x)) ≡ false) xs i → position_or_len (λ x. is_before copy (sheet x)) xs ≡ i
place-behind copy sheet [] i within point = omega arith
place-behind copy sheet (x ∷ xs) i within point =
    position_or_len_is (λ y. is_before copy (sheet y)) (x ∷ xs) i x within
    (λ k below. not-true (is_before copy (sheet (get_or (x ∷ xs) k x))) (point.0 k x (omega arith) below))
    (λ below. not-false (is_before copy (sheet (get_or (x ∷ xs) i x))) (point.1 i x (omega arith) below))

-- where a search ends that looks for the first plan not before the copy
abbrev pub IsPlaceBefore : SheetId → List Plan → ℕ → Type 0
IsPlaceBefore copy plans i = IsPartitionPoint (λ p. is_before p.sheet copy ≡ true) (λ p. is_before p.sheet copy ≡ false) plans i

-- where the copy's plan stands there, it is the first one of the copy
pub place-there : (copy : SheetId) (plans : List Plan) (i : ℕ) (d : Plan) → i < length plans → IsPlaceBefore copy plans i → is_same_copy (get_or plans i d).sheet copy ≡ true → position (λ p. is_same_copy p.sheet copy) plans ≡ Some i
place-there copy plans i d within point same =
    let is = position_or_len_is (λ p. is_same_copy p.sheet copy) plans i d (omega arith) (λ k below. before-not_same (get_or plans k d).sheet copy (point.0 k d (omega arith) below)) (λ below. same) in
    grind (arith, nat_tests)

-- where another plan stands there, or none, the copy has no plan
pub no-place : (copy : SheetId) (plans : List Plan) (i : ℕ) (d : Plan) → AllPairs IsEarlier plans → IsPlaceBefore copy plans i → (i < length plans → is_same_copy (get_or plans i d).sheet copy ≡ false) → position (λ p. is_same_copy p.sheet copy) plans ≡ None
no-place copy plans i d in_order point other =
    let is = position_or_len_is (λ p. is_same_copy p.sheet copy) plans (length plans) d (omega arith) differs (λ below. absurd (omega (arith, below))) in
    grind (arith, nat_tests)
  where
    behind : (k : ℕ) → i ≤ k → k < length plans → is_before copy (get_or plans k d).sheet ≡ true
    behind k from within = elim (cases_lt i k) [
      | inl below ↦ before-trans copy (get_or plans i d).sheet (get_or plans k d).sheet (behind-other (get_or plans i d).sheet copy (point.1 i d (omega arith) (omega arith)) (other (omega arith))) (in_order i k d below within)
      | inr above ↦ let same : i ≡ k = omega arith in rw (← same) (behind-other (get_or plans i d).sheet copy (point.1 i d (omega arith) (omega arith)) (other (omega arith)))
    ]

    differs : (k : ℕ) → k < length plans → is_same_copy (get_or plans k d).sheet copy ≡ false
    differs k within = elim (cases_lt k i) [
      | inl below ↦ before-not_same (get_or plans k d).sheet copy (point.0 k d (omega arith) below)
      | inr above ↦ before-not_same' copy (get_or plans k d).sheet (behind k (omega arith) within)
    ]

-- where the search ends behind all plans, the copy has none
pub no-place-behind : (copy : SheetId) (plans : List Plan) (i : ℕ) → AllPairs IsEarlier plans → IsPlaceBefore copy plans i → length plans ≤ i → position (λ p. is_same_copy p.sheet copy) plans ≡ None
no-place-behind copy [] i in_order point behind = refl
no-place-behind copy (p ∷ plans) i in_order point behind = no-place copy (p ∷ plans) i p in_order point (λ below. absurd (omega (arith, below, behind)))
