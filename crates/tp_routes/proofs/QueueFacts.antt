-- Numbers that wait: taking one out and putting it in again leaves different numbers, so the queue never outgrows the states.
use Rattle.std.proofs.Common.{◌≡◌, inl, inr, ℕ, zero, suc, ◌<◌, ◌≤◌, Bool, true, false, not, ◌||◌, eqb, List, [], ◌∷◌, length, insert, refl, sym, subst, ◌∙◌, arith}
use Rattle.std.specs.List.{list_any, IsDistinct, AllByRecursion}
use Rattle.std.proofs.lemmas.Bool.{cases_Bool, eqb-true, eq-eqb, ne_eqb}
use Rattle.std.proofs.lemmas.Map.Keys.{IsDistinct-head, IsDistinct-tail, IsDistinct-cons}
use Rattle.std.proofs.lemmas.List.Sums.{length-filter, count_by-le-length}
use Rattle.std.proofs.lemmas.Map.Steps.{length-le_from_distinct_below}
use Rattle.tp_routes.specs.FilledRooms.{Waits, IsQueue, without_number}

none_from_apart : (k : ℕ) (xs : List ℕ) → AllByRecursion (λ y. eqb k y ≡ false) xs → list_any (eqb k) xs ≡ false
none_from_apart k [] h = refl
none_from_apart k (x ∷ xs) h = rw (h.0, none_from_apart k xs h.1) refl

apart_from_none : (k : ℕ) (xs : List ℕ) → list_any (eqb k) xs ≡ false → AllByRecursion (λ y. eqb k y ≡ false) xs
apart_from_none k [] h = tt
apart_from_none k (x ∷ xs) h = (grind arith, apart_from_none k xs (grind arith))

flipped : (a b : ℕ) → eqb a b ≡ eqb b a
flipped a b = elim (cases_Bool (eqb b a)) [
  | inl e ↦ eq-eqb a b (sym (eqb-true b a e)) ∙ sym e
  | inr e ↦ ne_eqb a b (λ same. (let k : eqb b a ≡ true = eq-eqb b a (sym same) in absurd cc)) ∙ sym e
]

out_waits : (t : ℕ) (xs : List ℕ) → list_any (eqb t) (without_number t xs) ≡ false
out_waits t [] = refl
out_waits t (x ∷ xs) = elim (cases_Bool (eqb x t)) [
  | inl e ↦ rw e (out_waits t xs)
  | inr e ↦ rw (e, flipped t x, e, out_waits t xs) refl
]

out_from : (t n : ℕ) (xs : List ℕ) → Waits (without_number t xs) n → Waits xs n
out_from t n [] h = h
out_from t n (x ∷ xs) h = elim (cases_Bool (eqb x t)) [
  | inl e ↦ (let k : Waits xs n = out_from t n xs (rw e at h) in grind arith)
  | inr e ↦
      let k : (eqb n x || list_any (eqb n) (without_number t xs)) ≡ true = rw e at h in
      elim (cases_Bool (eqb n x)) [
        | inl same ↦ rw same refl
        | inr other ↦ (let l : Waits xs n = out_from t n xs (rw other at k) in rw (other, l) refl)
      ]
]

out_keeps : (t n : ℕ) (xs : List ℕ) → eqb n t ≡ false → Waits xs n → Waits (without_number t xs) n
out_keeps t n [] differs h = h
out_keeps t n (x ∷ xs) differs h = elim (cases_Bool (eqb x t)) [
  | inl e ↦
      let other : eqb n x ≡ false = ne_eqb n x (λ same. (let k : eqb n t ≡ true = eq-eqb n t (same ∙ eqb-true x t e) in absurd cc)) in
      let l : Waits xs n = rw other at h in
      rw e (out_keeps t n xs differs l)
  | inr e ↦ rw e (elim (cases_Bool (eqb n x)) [
    | inl same ↦ rw same refl
    | inr other ↦ (let l : Waits xs n = rw other at h in rw (other, out_keeps t n xs differs l) refl)
  ])
]

out_distinct : (t : ℕ) (xs : List ℕ) → IsDistinct eqb xs → IsDistinct eqb (without_number t xs)
out_distinct t [] h = h
out_distinct t (x ∷ xs) h = elim (cases_Bool (eqb x t)) [
  | inl e ↦ rw e (out_distinct t xs (IsDistinct-tail eqb x xs h))
  | inr e ↦ rw e (IsDistinct-cons eqb x (without_number t xs) (apart_from_none x (without_number t xs) (still_none x xs (none_from_apart x xs (IsDistinct-head eqb x xs h)))) (out_distinct t xs (IsDistinct-tail eqb x xs h)))
]
  where
    still_none : (k : ℕ) (ys : List ℕ) → list_any (eqb k) ys ≡ false → list_any (eqb k) (without_number t ys) ≡ false
    still_none k ys none = elim (cases_Bool (list_any (eqb k) (without_number t ys))) [
      | inl some ↦ (let l = out_from t k ys some in absurd cc)
      | inr fine ↦ fine
    ]

-- the queue with a number put in
in_any : (t n at : ℕ) (xs : List ℕ) → list_any (eqb n) (insert xs at t) ≡ (eqb n t || list_any (eqb n) xs)
in_any t n zero xs = refl
in_any t n (suc at) [] = refl
in_any t n (suc at) (x ∷ xs) = rw (in_any t n at xs) (swapped (eqb n x) (eqb n t) (list_any (eqb n) xs))
  where
    swapped : (a b c : Bool) → (a || (b || c)) ≡ (b || (a || c))
    swapped true true c = refl
    swapped true false c = refl
    swapped false b c = refl

in_distinct : (t at : ℕ) (xs : List ℕ) → IsDistinct eqb xs → list_any (eqb t) xs ≡ false → IsDistinct eqb (insert xs at t)
in_distinct t zero xs h none = IsDistinct-cons eqb t xs (apart_from_none t xs none) h
in_distinct t (suc at) [] h none = IsDistinct-cons eqb t [] tt h
in_distinct t (suc at) (x ∷ xs) h none =
    let other : eqb t x ≡ false = grind arith in
    let later : list_any (eqb t) xs ≡ false = grind arith in
    let head : list_any (eqb x) (insert xs at t) ≡ false = in_any t x at xs ∙ rw (flipped x t, other, none_from_apart x xs (IsDistinct-head eqb x xs h)) refl in
    IsDistinct-cons eqb x (insert xs at t) (apart_from_none x (insert xs at t) head) (in_distinct t at xs (IsDistinct-tail eqb x xs h) later)

pub put_again : (t at states : ℕ) (xs : List ℕ) → IsQueue xs states → t < states → IsQueue (insert (without_number t xs) at t) states
put_again t at states xs queue known = record {
  different = in_distinct t at (without_number t xs) (out_distinct t xs queue.different) (out_waits t xs);
  known = λ n waits. known_of n (in_any t n at (without_number t xs)) waits;
}
  where
    known_of : (n : ℕ) → list_any (eqb n) (insert (without_number t xs) at t) ≡ (eqb n t || list_any (eqb n) (without_number t xs)) → Waits (insert (without_number t xs) at t) n → n < states
    known_of n is waits = elim (cases_Bool (eqb n t)) [
      | inl same ↦ (let e = eqb-true n t same in subst (λ m. m < states) (sym e) known)
      | inr other ↦ queue.known n (out_from t n xs (sym (is ∙ rw other refl) ∙ waits))
    ]

pub waits_again : (t n at : ℕ) (xs : List ℕ) → Waits xs n → Waits (insert (without_number t xs) at t) n
waits_again t n at xs waits = in_any t n at (without_number t xs) ∙ elim (cases_Bool (eqb n t)) [
  | inl same ↦ rw same refl
  | inr other ↦ rw (other, out_keeps t n xs other waits) refl
]

pub waits_now : (t at : ℕ) (xs : List ℕ) → Waits (insert (without_number t xs) at t) t
waits_now t at xs = in_any t t at (without_number t xs) ∙ rw (eq-eqb t t refl) refl

-- there is room for the number
pub has_room : (t states : ℕ) (xs : List ℕ) → IsQueue xs states → t < states → length (without_number t xs) < states
has_room t states xs queue known =
    let ys = without_number t xs in
    let different : IsDistinct eqb (t ∷ ys) = IsDistinct-cons eqb t ys (apart_from_none t ys (out_waits t xs)) (out_distinct t xs queue.different) in
    let most : length (t ∷ ys) ≤ states = length-le_from_distinct_below (t ∷ ys) states different (λ q waits. below q waits) in
    omega arith
  where
    below : (q : ℕ) → list_any (eqb q) (t ∷ without_number t xs) ≡ true → q < states
    below q waits = elim (cases_Bool (eqb q t)) [
      | inl same ↦ (let e = eqb-true q t same in subst (λ m. m < states) (sym e) known)
      | inr other ↦ queue.known q (out_from t q xs (rw other at waits))
    ]

pub shorter : (t : ℕ) (xs : List ℕ) → length (without_number t xs) ≤ length xs
shorter t xs = omega (arith, length-filter (λ x. not (eqb x t)) xs, count_by-le-length (λ x. not (eqb x t)) xs)
