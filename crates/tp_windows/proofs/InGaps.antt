-- The numbers of gaps.
use Rattle.std.proofs.Common.{◌≡◌, inl, inr, ℕ, zero, suc, ◌+◌, ◌<◌, ◌≤◌, List, [], ◌∷◌, ◌++◌, length, ap, arith, All, subst, Some, pos, ◌∙◌}
use Rattle.std.specs.Prelude.{slice_get, ◌+ℤ◌, ◌≤ℤ◌}
use Rattle.std.proofs.lemmas.Bool.{cases_lt}
use Rattle.std.proofs.lemmas.Int.{ints}
use Rattle.std.proofs.lemmas.List.{length-append}
use Rattle.std.proofs.lemmas.List.Elements.{All-head, All-tail}
use Rattle.tp_machine.specs.Modes.{gap_between}
use Rattle.tp_machine.specs.ModuleUse.{begin_of, end_of}
use Rattle.tp_schedule.specs.Spots.{Slot, begin_at, end_at}
use Rattle.tp_windows.specs.Spans.{FirstGapLaw, GapLaw, LastGapLaw}

in-front : (P : Slot → Type 0) (xs ys : List Slot) (j : ℕ) (k : Slot) → All P xs → j < length xs → slice_get (xs ++ ys) j ≡ Some k → P k
in-front P [] ys j k all less e = absurd (omega (arith, less))
in-front P (x ∷ xs) ys zero k all less e = let same : x ≡ k = cc in subst P same (All-head P x xs all)
in-front P (x ∷ xs) ys (suc j) k all less e = in-front P xs ys j k (All-tail P x xs all) (omega (arith, less)) e

in-back : (P : Slot → Type 0) (xs ys : List Slot) (j : ℕ) (k : Slot) → All P ys → length xs ≤ j → slice_get (xs ++ ys) j ≡ Some k → P k
in-back P [] [] j k all more e = absurd cc
in-back P [] (y ∷ ys) zero k all more e = let same : y ≡ k = cc in subst P same (All-head P y ys all)
in-back P [] (y ∷ ys) (suc j) k all more e = in-back P [] ys j k (All-tail P y ys all) (omega arith) e
in-back P (x ∷ xs) ys zero k all more e = absurd (omega (arith, more))
in-back P (x ∷ xs) ys (suc j) k all more e = in-back P xs ys j k all (omega (arith, more)) e

pub gap_law : GapLaw
gap_law gap w rule start end order stands =
    let same : length order ≡ length stands.before + length stands.behind = ap length stands.split ∙ length-append stands.before stands.behind in (
      length stands.before,
      record {
        within = omega (arith, same);
        behind = λ j k less e. in-front (λ k. (end_at w.lo k +ℤ pos (gap_between gap k.rule rule)) ≤ℤ begin_of rule start end) stands.before stands.behind j k stands.after less (subst (λ o. slice_get o j ≡ Some k) stands.split e);
        before = λ j k more e. in-back (λ k. (end_of rule start end +ℤ pos (gap_between gap rule k.rule)) ≤ℤ begin_at w.hi k) stands.before stands.behind j k stands.until more (subst (λ o. slice_get o j ≡ Some k) stands.split e);
      },
    )

pub last_gap_law : LastGapLaw
last_gap_law gap w rule start end order g j k stands e late = elim (cases_lt j g) [
  | inl less ↦ absurd (let behind = stands.behind j k less e in omega (arith, ints))
  | inr more ↦ omega (arith, more)
]

pub first_gap_law : FirstGapLaw
first_gap_law gap w rule start end order g j k stands e early = elim (cases_lt j g) [
  | inl less ↦ less
  | inr more ↦ absurd (let before = stands.before j k (omega (arith, more)) e in omega (arith, ints))
]
