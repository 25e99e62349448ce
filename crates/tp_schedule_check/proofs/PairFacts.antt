-- A symmetric relation of pairs does not hang on the order of a list.
use Rattle.std.proofs.Common.{◌≡◌, ℕ, ◌<◌, Bool, true, false, cond, eqb, List, length, get_or, refl, sym, subst, arith, AllPairs, inl, inr, swap}
use Rattle.std.specs.Prelude.{IsPermutation}
use Rattle.std.proofs.lemmas.Bool.{cases_lt}
use Rattle.std.proofs.lemmas.Bool.Decides.{nat_tests}
use Rattle.std.proofs.lemmas.List.Edits.{Swapped, length-swap, swapped_from_swap}
use Rattle.std.proofs.lemmas.List.Sorted.{IsPermutation-keeps}

-- the place that comes to a place when two are swapped
abbrev moved : ℕ → ℕ → ℕ → ℕ
moved a b i = cond (eqb i a) b (cond (eqb i b) a i)

moved-within : (a b i n : ℕ) → a < n → b < n → i < n → moved a b i < n
moved-within a b i n p q r = grind (arith, nat_tests)

moved-apart : (a b i j : ℕ) → (i ≡ j → ⊥) → moved a b i ≡ moved a b j → ⊥
moved-apart a b i j apart same = apart (grind (arith, nat_tests))

-- the relation at each two places
abbrev Each : {X : Type 0} → (X → X → Type 0) → List X → Type 0
Each {X} R xs = (i j : ℕ) (d : X) → (i ≡ j → ⊥) → i < length xs → j < length xs → R (get_or xs i d) (get_or xs j d)

module _ {X : Type 0} (R : X → X → Type 0) (back : (x y : X) → R x y → R y x) where
  each-from : (xs : List X) → AllPairs R xs → Each R xs
  each-from xs pairs i j d apart one other = elim (cases_lt i j) [
    | inl less ↦ pairs i j d less other
    | inr more ↦ let less : j < i = omega (arith, apart) in back (get_or xs j d) (get_or xs i d) (pairs j i d less one)
  ]

  swapped-at : (xs : List X) (a b i : ℕ) (d : X) → a < length xs → b < length xs → get_or (swap xs a b) i d ≡ get_or xs (moved a b i) d
  swapped-at xs a b i d p q = go (eqb i a) refl (eqb i b) refl where
    by : Swapped (λ i. get_or xs i d) (λ i. get_or (swap xs a b) i d) a b
    by = swapped_from_swap xs (swap xs a b) a b d p q refl

    go : (s : Bool) → eqb i a ≡ s → (t : Bool) → eqb i b ≡ t → get_or (swap xs a b) i d ≡ get_or xs (cond s b (cond t a i)) d
    go true e t f = let same : i ≡ a = grind (arith, nat_tests) in subst (λ k. get_or (swap xs a b) k d ≡ get_or xs b d) (sym same) by.0
    go false e true f = let same : i ≡ b = grind (arith, nat_tests) in subst (λ k. get_or (swap xs a b) k d ≡ get_or xs a d) (sym same) by.1
    go false e false f = by.2 i (λ h. absurd (grind (arith, nat_tests))) (λ h. absurd (grind (arith, nat_tests)))

  each-swapped : (xs : List X) (a b : ℕ) → a < length xs → b < length xs → Each R xs → Each R (swap xs a b)
  each-swapped xs a b p q each i j d apart one other =
      let n = length-swap xs a b in
      let one' : i < length xs = omega arith in
      let other' : j < length xs = omega arith in
      subst (λ x. R x (get_or (swap xs a b) j d)) (sym (swapped-at xs a b i d p q))
      (subst (R (get_or xs (moved a b i) d)) (sym (swapped-at xs a b j d p q))
      (each (moved a b i) (moved a b j) d (moved-apart a b i j apart) (moved-within a b i (length xs) p q one') (moved-within a b j (length xs) p q other')))

  pub pairs-permuted : (xs ys : List X) → IsPermutation xs ys → AllPairs R xs → AllPairs R ys
  pairs-permuted xs ys same pairs i j d before within =
      IsPermutation-keeps xs (Each R) (each-from xs pairs) (λ l a b p q each. each-swapped l a b p q each) ys same i j d (λ e. absurd (omega arith)) (omega arith) within
