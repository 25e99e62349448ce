-- Slices that are compared.
use Rattle.std.proofs.Common.{◌≡◌, ◌∙◌, ℕ, ◌==◌, Bool, true, false, not, List, ap, eqb-true, refl, sym, arith}
use Rattle.std.specs.Bool.{Decides}
use Rattle.std.specs.Cmp.Lexicographic.{pointwise}
use Rattle.std.specs.Prelude.{nat_eq}
use Rattle.std.proofs.lemmas.Bool.Decides.{Decides-eqb, nat_tests}
use Rattle.std.proofs.lemmas.Slice.Eq.{slice_eq-Decides}
use Rattle.tp_machine.specs.declared.parts.ActId.{ActId}

act-Decides : (a b : ActId) → Decides (a.0 == b.0) (a ≡ b)
act-Decides a b = (λ e. (let same = eqb-true a.0 b.0 e in λ i. record { 0 = same i }), λ e. (let same = ap (λ (x : ActId). x.0) e in grind (arith, nat_tests)))

pub same-acts : (xs ys : List ActId) (r : Bool) → r ≡ not (pointwise (λ (a b : ActId). a.0 == b.0) xs ys) → r ≡ false → xs ≡ ys
same-acts xs ys r e f = go (pointwise (λ (a b : ActId). a.0 == b.0) xs ys) refl (sym e ∙ f) where
  go : (b : Bool) → pointwise (λ (a b : ActId). a.0 == b.0) xs ys ≡ b → not b ≡ false → xs ≡ ys
  go true same h = (slice_eq-Decides act-Decides xs ys (pointwise (λ (a b : ActId). a.0 == b.0) xs ys) refl).0 same
  go false same h = absurd cc

pub same-points : (xs ys : List ℕ) (r : Bool) → r ≡ pointwise nat_eq xs ys → r ≡ true → xs ≡ ys
same-points xs ys r e f = (slice_eq-Decides Decides-eqb xs ys r e).0 f
