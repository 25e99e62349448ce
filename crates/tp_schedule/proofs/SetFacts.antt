-- Sets of locations: what stands in a set with one location more.
use Rattle.std.proofs.Common.{◌≡◌, ◌≢◌, inl, inr, ℕ, zero, suc, ◌/◌, ◌%◌, ◌^◌, ◌<◌, ◌≤◌, ◌==◌, ◌||◌, Bool, true, false, eqb, max, refl, sym, ap, subst, ◌∙◌, arith}
use Rattle.std.specs.Prelude.{bit_or}
use Rattle.std.specs.Int.{bit_at}
use Rattle.std.proofs.lemmas.Bool.{cases_Bool, eqb-true, eq-eqb}
use Rattle.std.proofs.lemmas.Bool.Decides.{nat_tests}
use Rattle.std.proofs.lemmas.Nat.Bits.{bit_at_or, bit_at-pow_same, bit_at-pow_other, bit_at-lt, bit_at-zero}
use Rattle.tp_machine.specs.declared.parts.LocId.{LocId}
use Rattle.tp_schedule.specs.LocationSets.{has, with, word_with}
use Rattle.tp_schedule.specs.declared.parts.Empties.{Empties}

or-false : (b : Bool) → (b || false) ≡ b
or-false true = refl
or-false false = refl

or-true : (b : Bool) → (b || true) ≡ true
or-true true = refl
or-true false = refl

with-bit : (n m bits : ℕ) → bit_at (bit_or bits (2 ^ n)) m == 1 ≡ ((bit_at bits m == 1) || (m == n))
with-bit n m bits = elim (cases_Bool (eqb m n)) [
  | inl same ↦
      let is : m ≡ n = grind (arith, nat_tests) in
      let one : bit_at (2 ^ n) m ≡ 1 = subst (λ k. bit_at (2 ^ n) k ≡ 1) (sym is) (bit_at-pow_same n) in
      let both : bit_at (bit_or bits (2 ^ n)) m ≡ 1 = bit_at_or bits (2 ^ n) m ∙ ap (max (bit_at bits m)) one ∙ (let low = bit_at-lt bits m in omega arith) in
      rw (both, same) (sym (or-true (bit_at bits m == 1)))
  | inr other ↦
      let differ : m ≢ n = λ e. (let k : eqb m n ≡ true = grind (arith, nat_tests) in absurd cc) in
      let none : bit_at (2 ^ n) m ≡ 0 = bit_at-pow_other n m differ in
      let both : bit_at (bit_or bits (2 ^ n)) m ≡ bit_at bits m = bit_at_or bits (2 ^ n) m ∙ ap (max (bit_at bits m)) none ∙ omega arith in
      rw (both, other) (sym (or-false (bit_at bits m == 1)))
]

-- a word with the location's bit
word-bit : (n m bits : ℕ) → bit_at (word_with (record { 0 = n }) (m / 64) bits) (m % 64) == 1 ≡ ((bit_at bits (m % 64) == 1) || (m == n))
word-bit n m bits = elim (cases_Bool (eqb (n / 64) (m / 64))) [
  | inl same ↦
      let word : n / 64 ≡ m / 64 = grind (arith, nat_tests) in
      let tests : eqb (m % 64) (n % 64) ≡ eqb m n = same-place m n word in
      rw (same, with-bit (n % 64) (m % 64) bits, tests) refl
  | inr other ↦
      let no : eqb m n ≡ false = other-word m n other in
      rw (other, no) (sym (or-false (bit_at bits (m % 64) == 1)))
]
  where
    same-place : (m n : ℕ) → n / 64 ≡ m / 64 → eqb (m % 64) (n % 64) ≡ eqb m n
    same-place m n word = elim (cases_Bool (eqb m n)) [
      | inl h ↦ let is : m ≡ n = grind (arith, nat_tests) in rw (is) (grind (arith, nat_tests))
      | inr h ↦ grind (arith, nat_tests)
    ]

    other-word : (m n : ℕ) → eqb (n / 64) (m / 64) ≡ false → eqb m n ≡ false
    other-word m n other = elim (cases_Bool (eqb m n)) [
      | inl h ↦ let k = eq-eqb (n / 64) (m / 64) (ap (λ x. x / 64) (sym (eqb-true m n h))) in absurd cc
      | inr h ↦ h
    ]

pub has-with : (set : Empties) (loc other : LocId) → loc.0 < 256 → has (with set loc) other ≡ (has set other || (other.0 == loc.0))
has-with set loc other within = go (other.0 / 64) refl
  where
    at-word : (q : ℕ) → other.0 / 64 ≡ q → (bits : ℕ) → bit_at (word_with loc q bits) (other.0 % 64) == 1 ≡ ((bit_at bits (other.0 % 64) == 1) || (other.0 == loc.0))
    at-word q e bits = subst (λ k. bit_at (word_with loc k bits) (other.0 % 64) == 1 ≡ ((bit_at bits (other.0 % 64) == 1) || (other.0 == loc.0))) e (word-bit loc.0 other.0 bits)

    beyond : (q : ℕ) → other.0 / 64 ≡ q → 4 ≤ q → eqb other.0 loc.0 ≡ false
    beyond q e far = let differ : other.0 ≢ loc.0 = λ same. absurd (omega arith) in grind (arith, nat_tests)

    go : (q : ℕ) → other.0 / 64 ≡ q → has (with set loc) other ≡ (has set other || (other.0 == loc.0))
    go zero e = rw e (at-word 0 e set.w0)
    go (suc zero) e = rw e (at-word 1 e set.w1)
    go (suc (suc zero)) e = rw e (at-word 2 e set.w2)
    go (suc (suc (suc zero))) e = rw e (at-word 3 e set.w3)
    go (suc (suc (suc (suc q)))) e =
        let far = beyond (suc (suc (suc (suc q)))) e (omega arith) in
        rw (e, bit_at-zero (other.0 % 64), far) refl
