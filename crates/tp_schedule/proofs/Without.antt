-- A list less the element at a place.
use Rattle.std.proofs.Common.{◌≡◌, ◌⊎◌, inl, inr, ℕ, zero, suc, ◌<◌, List, [], ◌∷◌, length, get_or, refl, sym, ap, subst, ◌∙◌, arith, Contains}
use Rattle.tp_schedule.proofs.Membership.{Contains-cons_cases, Contains-here, Contains-later}

pub without : {X : Type 0} → List X → ℕ → List X
without [] n = []
without (x ∷ xs) zero = xs
without (x ∷ xs) (suc n) = x ∷ without xs n

pub length-without : {X : Type 0} (xs : List X) (n : ℕ) → n < length xs → suc (length (without xs n)) ≡ length xs
unfolding without
length-without [] n within = absurd (omega arith)
length-without (x ∷ xs) zero within = refl
length-without (x ∷ xs) (suc n) within = ap suc (length-without xs n (omega arith))

-- it has the other elements
pub stays-in : {X : Type 0} (xs : List X) (n : ℕ) (x y : X) → n < length xs → get_or xs n x ≡ x → Contains xs y → (x ≡ y) ⊎ Contains (without xs n) y
unfolding without
stays-in [] n x y within at in' = absurd (omega arith)
stays-in (z ∷ zs) zero x y within at in' = elim (Contains-cons_cases z zs y in') [ inl is ↦ inl (sym at ∙ is) | inr later ↦ inr later ]
stays-in (z ∷ zs) (suc n) x y within at in' = elim (Contains-cons_cases z zs y in') [
  | inl is ↦ inr (subst (Contains (z ∷ without zs n)) is (Contains-here z (without zs n)))
  | inr later ↦ elim (stays-in zs n x y (omega arith) at later) [ inl same ↦ inl same | inr still ↦ inr (Contains-later z (without zs n) y still) ]
]

-- and no more
pub was-in : {X : Type 0} (xs : List X) (n : ℕ) (y : X) → Contains (without xs n) y → Contains xs y
unfolding without
was-in [] n y in' = in'
was-in (z ∷ zs) zero y in' = Contains-later z zs y in'
was-in (z ∷ zs) (suc n) y in' = elim (Contains-cons_cases z (without zs n) y in') [
  | inl is ↦ subst (Contains (z ∷ zs)) is (Contains-here z zs)
  | inr later ↦ Contains-later z zs y (was-in zs n y later)
]
