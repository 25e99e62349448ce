-- Elements of lists by their numbers, and gaps on both sides of an inequality.
use Rattle.std.proofs.Common.{inl, inr, IsTrue, ◌≤◌, ◌≡◌, ℕ, zero, suc, ◌<◌, List, [], ◌∷◌, length, slice_index_or, refl, arith, slice_get, Some, pos, negsuc, subst, sym, All, take, drop, to_z, of_z, w64}
use Rattle.std.specs.Prelude.{ℤ, ◌+ℤ◌, ◌≤ℤ◌}
use Rattle.std.proofs.lemmas.Bool.{cases_lt}
use Rattle.std.proofs.lemmas.Int.{ints, to_z-of_z}
use lib.Signed.{lt_z, ◌<ℤ◌}
use mir.Val.{SFits}
use Rattle.std.proofs.lemmas.List.Elements.{All-tail, All-take}
use Rattle.tp_machine.specs.Modes.{gap_at}
use Rattle.tp_machine.specs.ModuleUse.{begin_of, end_of}
use Rattle.tp_machine.specs.declared.machine.Machine.{Machine}
use Rattle.tp_machine.specs.declared.parts.HoldRule.{HoldRule}
use Rattle.tp_windows.specs.Rows.{IsNear, StandsInGap, StandsInRow, row_at}
use Rattle.tp_windows.specs.declared.gaps.KeptHold.{KeptHold}

pub there_in : {X : Type 0} (xs : List X) (i : ℕ) (d : X) → i < length xs → slice_get xs i ≡ Some (slice_index_or xs i d)
there_in [] i d within = absurd (omega (arith, within))
there_in (x ∷ xs) zero d within = refl
there_in (x ∷ xs) (suc i) d within = there_in xs i d (omega (arith, within))

abbrev IsSmall : ℤ → Type 0
IsSmall z = (negsuc 34359738367 ≤ℤ z) × (z ≤ℤ pos 34359738368)

fits : (z : ℤ) → IsSmall z → to_z w64 (of_z w64 z) ≡ z
fits z small = let low = small.0 in let high = small.1 in to_z-of_z w64 z (grind (arith, ints))

pub add-gap : (r a b : ℤ) (n m : ℕ) → IsSmall a → IsSmall r → r ≡ (to_z w64 (of_z w64 a) +ℤ pos n) → n ≡ m → (a +ℤ pos m) ≤ℤ b → to_z w64 (of_z w64 r) ≤ℤ b
add-gap r a b n m small-a small-r sum same le =
    let sum' : r ≡ (a +ℤ pos n) = subst (λ q. r ≡ (q +ℤ pos n)) (fits a small-a) sum in
    subst (λ q. q ≤ℤ b) (sym (fits r small-r)) (subst (λ q. q ≤ℤ b) (sym sum') (subst (λ k. (a +ℤ pos k) ≤ℤ b) (sym same) le))

cancel : (a r : ℤ) (n : ℕ) → (a +ℤ pos n) ≤ℤ (r +ℤ pos n) → a ≤ℤ r
cancel a r n le = omega (arith, ints)

pub take-gap : (r a b : ℤ) (n m : ℕ) → IsSmall b → IsSmall r → (r +ℤ pos n) ≡ to_z w64 (of_z w64 b) → n ≡ m → (a +ℤ pos m) ≤ℤ b → a ≤ℤ to_z w64 (of_z w64 r)
take-gap r a b n m small-b small-r sum same le =
    let sum' : (r +ℤ pos n) ≡ b = subst (λ q. (r +ℤ pos n) ≡ q) (fits b small-b) sum in
    subst (λ q. a ≤ℤ q) (sym (fits r small-r)) (cancel a r n (subst (λ q. (a +ℤ pos n) ≤ℤ q) (sym sum') (subst (λ k. (a +ℤ pos k) ≤ℤ b) (sym same) le)))

pub small-end : (z : ℤ) → negsuc 17179869183 ≤ℤ z → z ≤ℤ pos 17179869184 → IsSmall z
small-end z low high = (omega (arith, ints), omega (arith, ints))

pub small-sum : (z : ℤ) → negsuc 17179869183 ≤ℤ z → z ≤ℤ pos 34359738368 → IsSmall z
small-sum z low high = (omega (arith, ints), high)

pub small-rest : (z : ℤ) → negsuc 34359738367 ≤ℤ z → z ≤ℤ pos 17179869184 → IsSmall z
small-rest z low high = (low, omega (arith, ints))

pub All-rest : {X : Type 0} (P : X → Type 0) (xs : List X) (n : ℕ) → All P xs → All P (take n (drop 1 xs))
All-rest P [] n all = All-take P n [] all
All-rest P (x ∷ xs) n all = All-take P n xs (All-tail P x xs all)

fits-small : (z : ℤ) → IsSmall z → SFits w64 z
fits-small z small = let low = small.0 in let high = small.1 in record { sfits = grind (arith, ints) }

pub is-less : (a b : ℤ) → SFits w64 a → SFits w64 b → IsTrue (lt_z (to_z w64 (of_z w64 a)) (to_z w64 (of_z w64 b))) → a <ℤ b
is-less a b f g test =
    let e = to_z-of_z w64 a f in
    let e' = to_z-of_z w64 b g in
    record { lt = grind (arith, (subst (λ x. IsTrue (lt_z a x)) e' (subst (λ x. IsTrue (lt_z x (to_z w64 (of_z w64 b)))) e test))) }

module _ (gap : ℕ) (rule : HoldRule) (kept : List KeptHold) (start end g j : ℕ) (k : KeptHold) (tick : ℤ) (near : IsNear k) (fits-tick : SFits w64 tick) (there : slice_get kept j ≡ Some k)
    (stands : StandsInRow gap rule kept start end g) where
  -- no gap behind a kept hold that ends behind the latest begin
  pub not-behind : IsTrue (lt_z (to_z w64 (of_z w64 tick)) (to_z w64 (of_z w64 k.end))) → begin_of rule start end ≤ℤ tick → g ≤ j
  not-behind late begins = elim (cases_lt j g) [
    | inl before ↦
        let less = is-less tick k.end fits-tick (fits-small k.end (small-end k.end near.end_low near.end_high)) late in
        let apart = stands.behind j k before there in
        absurd (omega (arith, ints, less, apart, begins))
    | inr past ↦ omega (arith, past)
  ]

  -- no gap before a kept hold that begins before the earliest end
  pub not-before : IsTrue (lt_z (to_z w64 (of_z w64 k.begin)) (to_z w64 (of_z w64 tick))) → tick ≤ℤ end_of rule start end → j < g
  not-before early ends = elim (cases_lt j g) [
    | inl before ↦ before
    | inr past ↦
        let less = is-less k.begin tick (fits-small k.begin (small-end k.begin near.begin_low near.begin_high)) fits-tick early in
        let apart = stands.before j k (omega (arith, past)) there in
        absurd (omega (arith, ints, less, apart, ends))
  ]

at-number : {X : Type 0} (xs : List X) (i : ℕ) (x d : X) → slice_get xs i ≡ Some x → slice_index_or xs i d ≡ x
at-number [] i x d e = absurd cc
at-number (y ∷ ys) zero x d e = cc
at-number (y ∷ ys) (suc i) x d e = at-number ys i x d e

-- the hold stands in the row that was read
pub in-this-row : (machine : Machine) (rows : List (List KeptHold)) (start end : ℕ) (rule : HoldRule) (gap : ℕ) (kept : List KeptHold) → gap ≡ gap_at machine rule.resource.0 → slice_get rows rule.resource.0 ≡ Some kept
    → StandsInGap machine rows start end rule → (g : ℕ) × StandsInRow gap rule kept start end g
in-this-row machine rows start end rule gap kept same there stands = (
  stands.0,
  subst (λ (ks : List KeptHold). StandsInRow gap rule ks start end stands.0) (at-number rows rule.resource.0 kept [] there)
      (subst (λ (n : ℕ). StandsInRow n rule (row_at rows rule.resource.0) start end stands.0) (sym same) stands.1),
)
