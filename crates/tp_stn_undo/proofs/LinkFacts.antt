-- Marks stand at most where the newest does.
use Rattle.std.proofs.Common.{suc, zero, ◌≡◌, ℕ, ◌+◌, ◌<◌, ◌≤◌, List, [], ◌∷◌, length, take, Some, sym, refl, ap, ◌∙◌, arith, inl, inr}
use Rattle.std.proofs.lemmas.Bool.{cases_lt}
use Rattle.std.proofs.lemmas.Option.{same_Some, slice_get_within}
use Rattle.std.specs.List.{slice_get}
use Rattle.tp_stn_undo.specs.declared.marks.LiveMark.{LiveMark}
use Rattle.tp_stn_undo.specs.Marks.{AreStacked}

pub slice_get_kept : {X : Type 0} (n : ℕ) (xs : List X) (k : ℕ) → k < n → slice_get (take n xs) k ≡ slice_get xs k
slice_get_kept zero xs k h = absurd (omega arith)
slice_get_kept (suc n) [] k h = refl
slice_get_kept (suc n) (x ∷ xs) zero h = refl
slice_get_kept (suc n) (x ∷ xs) (suc k) h = slice_get_kept n xs k (omega arith)

-- the marks before or at a place stand at most where the newest does
pub below_last : (marks : List LiveMark) (points edges saved capacity : ℕ) → AreStacked marks points edges saved capacity → (k j : ℕ) (m n : LiveMark) → k + 1 ≡ length marks → slice_get marks k ≡ Some m → slice_get marks j ≡ Some n → n.saved ≤ m.saved
below_last marks points edges saved capacity s k j m n last at bt =
    let w = slice_get_within marks j n bt in
    elim (cases_lt j k) [
      | inl p ↦ s.saved_rise j k n m p bt at
      | inr p ↦ (let e : j ≡ k = omega arith in let r = ap (λ (x : LiveMark). x.saved) (same_Some n m (sym bt ∙ ap (slice_get marks) e ∙ at)) in omega arith)
    ]
