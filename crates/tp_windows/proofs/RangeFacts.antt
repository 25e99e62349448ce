-- Times between ranges.
use Rattle.std.proofs.Common.{◌≡◌, ℕ, ◌≤◌, Bool, true, false, inl, inr, List, [], ◌∷◌, ◌++◌, length, refl, subst, sym, arith, IsTrue}
use Rattle.std.proofs.lemmas.Bool.{cases_lt}
use Rattle.std.proofs.lemmas.List.{get_or_append_left, get_or_push, length_push}
use Rattle.tp_windows.specs.Arrays.{IsBetween}

pub between_push : (y : ℕ → ℕ) (lows highs : List ℕ) (n low high : ℕ) → length lows ≡ n → length highs ≡ n → IsBetween y lows highs → low ≤ y n → y n ≤ high → IsBetween y (lows ++ low ∷ []) (highs ++ high ∷ [])
between_push y lows highs n low high same-low same-high between above below i less = elim (cases_lt i n) [
  | inl within ↦
      let b = between i (omega arith) in (
        subst (λ k. k ≤ y i) (sym (get_or_append_left lows (low ∷ []) 0 i (omega arith))) b.0,
        subst (λ k. y i ≤ k) (sym (get_or_append_left highs (high ∷ []) 0 i (omega arith))) b.1,
      )
  | inr past ↦
      let long = length_push lows low in
      let is : i ≡ n = omega (arith, less, long, past) in (
        subst (λ k. k ≤ y i) (sym (get_or_push lows low 0 i (omega arith))) (subst (λ k. low ≤ y k) (sym is) above),
        subst (λ k. y i ≤ k) (sym (get_or_push highs high 0 i (omega arith))) (subst (λ k. y k ≤ high) (sym is) below),
      )
]

pub true_unless : (b : Bool) → (b ≡ false → ⊥) → IsTrue b
true_unless true not = refl
true_unless false not = absurd (not refl)
