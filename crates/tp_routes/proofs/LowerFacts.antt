-- What a lower sum leaves of a table that is being filled.
use Rattle.std.proofs.Common.{◌≡◌, ◌⊎◌, inl, inr, ℕ, ◌+◌, ◌*◌, ◌<◌, ◌≤◌, true, false, eqb, List, length, Option, Some, None, refl, sym, ap, subst, ◌∙◌, arith}
use Rattle.std.specs.Prelude.{sum_by, slice_set}
use Rattle.std.proofs.lemmas.Bool.{cases_Bool, eqb-true, eq-eqb, ltb-true, ltb-false}
use Rattle.std.proofs.lemmas.Option.{same_Some}
use Rattle.std.proofs.lemmas.List.{get_or-set_same, get_or-set_other, length-set}
use Rattle.std.proofs.lemmas.List.Sums.{sum_by-set}
use Rattle.tp_machine.specs.declared.parts.State.{State}
use Rattle.tp_machine.specs.declared.machine.Machine.{Machine}
use Rattle.tp_schedule.specs.declared.parts.Ask.{Ask}
use Rattle.tp_routes.specs.Numbers.{number_of, state_at}
use Rattle.tp_routes.specs.Tables.{sum_at}
use Rattle.tp_routes.specs.FilledRooms.{is_lower, lowered, IsQueue, IsSum, filled, one_if_some, worth, left_to_fill, IsFilling, Lowers}
use Rattle.tp_routes.proofs.NumberFacts.{state_of_number}

-- at this number the table has at most the sum
pub lowered-here : (sums : List (Option ℕ)) (n x : ℕ) → n < length sums → (v : ℕ) × (sum_at (lowered sums n x) n ≡ Some v) × (v ≤ x)
lowered-here sums n x within = elim (cases_Bool (is_lower x (sum_at sums n))) [
  | inl lower ↦ rw lower (x, get_or-set_same sums n (Some x) None within, omega arith)
  | inr same ↦ rw same (stands (sum_at sums n) refl same)
]
  where
    stands : (o : Option ℕ) → sum_at sums n ≡ o → is_lower x o ≡ false → (v : ℕ) × (sum_at sums n ≡ Some v) × (v ≤ x)
    stands None is fails = absurd cc
    stands (Some v) is fails = (v, is, ltb-false x v fails)

-- a number that had a sum has at most that
pub lowered-falls : (sums : List (Option ℕ)) (n x m v : ℕ) → n < length sums → sum_at sums m ≡ Some v → (w : ℕ) × (sum_at (lowered sums n x) m ≡ Some w) × (w ≤ v)
lowered-falls sums n x m v within is = elim (cases_Bool (is_lower x (sum_at sums n))) [
  | inr same ↦ rw same (v, is, omega arith)
  | inl lower ↦ rw lower (elim (cases_Bool (eqb m n)) [
    | inl here ↦
        let e = eqb-true m n here in
        let old : sum_at sums n ≡ Some v = ap (sum_at sums) (sym e) ∙ is in
        let less : is_lower x (Some v) ≡ true = rw old at lower in
        let below : x < v = ltb-true x v less in
        (x, ap (λ k. sum_at (slice_set sums n (Some x)) k) e ∙ get_or-set_same sums n (Some x) None within, omega arith)
    | inr other ↦ (v, get_or-set_other sums n m (Some x) None (λ e. (let k : eqb m n ≡ true = eq-eqb m n e in absurd cc)) ∙ is, omega arith)
  ])
]

-- what stands at a number stood there, or was put there
pub lowered-from : (sums : List (Option ℕ)) (n x m v : ℕ) → n < length sums → sum_at (lowered sums n x) m ≡ Some v
    → (sum_at sums m ≡ Some v) ⊎ ((m ≡ n) × (v ≡ x) × (is_lower x (sum_at sums n) ≡ true))
lowered-from sums n x m v within is = elim (cases_Bool (is_lower x (sum_at sums n))) [
  | inr same ↦ inl (rw same at is)
  | inl lower ↦
      let put : sum_at (slice_set sums n (Some x)) m ≡ Some v = rw lower at is in
      elim (cases_Bool (eqb m n)) [
        | inl here ↦
            let e = eqb-true m n here in
            let now : Some x ≡ Some v = sym (get_or-set_same sums n (Some x) None within) ∙ ap (λ k. sum_at (slice_set sums n (Some x)) k) (sym e) ∙ put in
            inr (e, sym (same_Some x v now), lower)
        | inr other ↦ inl (sym (get_or-set_other sums n m (Some x) None (λ e. (let k : eqb m n ≡ true = eq-eqb m n e in absurd cc))) ∙ put)
      ]
]

pub length-lowered : (sums : List (Option ℕ)) (n x : ℕ) → length (lowered sums n x) ≡ length sums
length-lowered sums n x = elim (cases_Bool (is_lower x (sum_at sums n))) [
  | inl lower ↦ rw lower (length-set sums n (Some x))
  | inr same ↦ rw same refl
]

-- the number of states with a sum never falls, and a new one counts
filled-lowered : (sums : List (Option ℕ)) (n x : ℕ) → n < length sums
    → (filled sums ≤ filled (lowered sums n x)) × (sum_at sums n ≡ None → filled (lowered sums n x) ≡ filled sums + 1)
filled-lowered sums n x within = elim (cases_Bool (is_lower x (sum_at sums n))) [
  | inr same ↦ rw same (omega arith, λ none. (let k : is_lower x (sum_at sums n) ≡ true = rw none refl in absurd cc))
  | inl lower ↦ rw lower (
      let count = sum_by-set one_if_some sums n (Some x) None within in
      (at_most (sum_at sums n) refl count, λ none. (let k : sum_by one_if_some (slice_set sums n (Some x)) + 0 ≡ sum_by one_if_some sums + 1 = rw none at count in omega arith)))
]
  where
    at_most : (o : Option ℕ) → sum_at sums n ≡ o → sum_by one_if_some (slice_set sums n (Some x)) + one_if_some (sum_at sums n) ≡ sum_by one_if_some sums + 1 → sum_by one_if_some sums ≤ sum_by one_if_some (slice_set sums n (Some x))
    at_most None is count = (let k : sum_by one_if_some (slice_set sums n (Some x)) + 0 ≡ sum_by one_if_some sums + 1 = rw is at count in omega arith)
    at_most (Some v) is count = (let k : sum_by one_if_some (slice_set sums n (Some x)) + 1 ≡ sum_by one_if_some sums + 1 = rw is at count in omega arith)

pub Lowers-lowered : (sums : List (Option ℕ)) (n x : ℕ) → n < length sums → Lowers sums (lowered sums n x)
Lowers-lowered sums n x within = record {
  same = length-lowered sums n x;
  falls = λ s sum (v, is, most). (let k = lowered-falls sums n x (number_of s) v within is in (k.0, k.1, omega (arith, k.2, most)));
}

-- the table goes on being filled
pub filling-lowered : (machine : Machine) (ask : Ask) (sums : List (Option ℕ)) (waiting waiting' : List ℕ) (s : State) (x : ℕ)
    → IsFilling machine ask sums waiting → number_of s < length sums → IsSum machine ask s x → x ≤ 4096 * (filled sums + 1) → IsQueue waiting' (length (lowered sums (number_of s) x))
    → IsFilling machine ask (lowered sums (number_of s) x) waiting'
filling-lowered machine ask sums waiting waiting' s x filling within is_sum small queue = record {
  states = length-lowered sums (number_of s) x ∙ filling.states;
  queue = queue;
  reached = λ n v known is. reached_at n v (subst (λ k. n < k) (length-lowered sums (number_of s) x) known) (lowered-from sums (number_of s) x n v within is);
  small = λ n v known is. small_at n v (subst (λ k. n < k) (length-lowered sums (number_of s) x) known) (lowered-from sums (number_of s) x n v within is);
}
  where
    put_sum : (n v : ℕ) → n ≡ number_of s → v ≡ x → IsSum machine ask (state_at n) v
    put_sum n v at same =
        let there : state_at n ≡ s = ap state_at at ∙ state_of_number s in
        subst (λ w. IsSum machine ask (state_at n) w) (sym same) (subst (λ q. IsSum machine ask q x) (sym there) is_sum)

    reached_at : (n v : ℕ) → n < length sums → (sum_at sums n ≡ Some v) ⊎ ((n ≡ number_of s) × (v ≡ x) × (is_lower x (sum_at sums (number_of s)) ≡ true)) → IsSum machine ask (state_at n) v
    reached_at n v known (inl old) = filling.reached n v known old
    reached_at n v known (inr (at, same, lower)) = put_sum n v at same

    put_small : (o : Option ℕ) → sum_at sums (number_of s) ≡ o → is_lower x o ≡ true → x ≤ 4096 * filled (lowered sums (number_of s) x)
    put_small None is lower = (let k = (filled-lowered sums (number_of s) x within).1 is in omega (arith, k, small))
    put_small (Some v) is lower =
        let below = ltb-true x v lower in
        let old = filling.small (number_of s) v within is in
        let grown = (filled-lowered sums (number_of s) x within).0 in
        omega arith

    small_at : (n v : ℕ) → n < length sums → (sum_at sums n ≡ Some v) ⊎ ((n ≡ number_of s) × (v ≡ x) × (is_lower x (sum_at sums (number_of s)) ≡ true)) → v ≤ 4096 * filled (lowered sums (number_of s) x)
    small_at n v known (inl old) =
        let was = filling.small n v known old in
        let grown = (filled-lowered sums (number_of s) x within).0 in
        omega arith
    small_at n v known (inr (at, same, lower)) = (let k = put_small (sum_at sums (number_of s)) refl lower in omega arith)

-- a lower sum leaves less to fill, also with one number more that waits
pub nearer-lowered : (sums : List (Option ℕ)) (waiting waiting' : List ℕ) (n x : ℕ) → n < length sums → x < 4294967296 → length waiting' ≤ length waiting + 1
    → (is_lower x (sum_at sums n) ≡ false → waiting' ≡ waiting) → left_to_fill (lowered sums n x) waiting' ≤ left_to_fill sums waiting
nearer-lowered sums waiting waiting' n x within fits longer same = elim (cases_Bool (is_lower x (sum_at sums n))) [
  | inr stays ↦ (let k = ap length (same stays) in rw stays (omega arith))
  | inl lower ↦ rw lower (
      let total = sum_by-set worth sums n (Some x) None within in
      let less = below (sum_at sums n) lower in
      omega arith)
]
  where
    below : (o : Option ℕ) → is_lower x o ≡ true → x < worth o
    below None h = fits
    below (Some v) h = ltb-true x v h
