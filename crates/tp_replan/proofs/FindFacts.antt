-- The first one that passes.
use Rattle.std.proofs.Common.{◌≡◌, ℕ, zero, suc, ◌+◌, Bool, true, false, cond, List, [], ◌∷◌, ◌++◌, find, take, slice_get, Option, Some, None, refl, sym, ap, ◌∙◌}
use Rattle.tp_replan.proofs.FateFacts.{take-next}

pub find-here : {X : Type 0} (test : X → Bool) (xs : List X) (i : ℕ) (x : X) → slice_get xs i ≡ Some x → true ≡ test x → find test (take i xs) ≡ None → find test xs ≡ Some x
find-here test [] i x at passes none = absurd cc
find-here test (y ∷ xs) zero x at passes none = let same : y ≡ x = cc in go (test y) (passes ∙ ap test (sym same)) same where
  go : (b : Bool) → true ≡ b → y ≡ x → cond b (Some y) (find test xs) ≡ Some x
  go true e same = ap Some same
  go false e same = absurd cc
find-here test (y ∷ xs) (suc i) x at passes none = go (test y) none (find-here test xs i x at passes) where
  go : (b : Bool) → cond b (Some y) (find test (take i xs)) ≡ None → (find test (take i xs) ≡ None → find test xs ≡ Some x) → cond b (Some y) (find test xs) ≡ Some x
  go true e rest = absurd cc
  go false e rest = rest e

pub find-next : {X : Type 0} (test : X → Bool) (xs : List X) (i : ℕ) (x : X) → slice_get xs i ≡ Some x → false ≡ test x → find test (take i xs) ≡ None → find test (take (i + 1) xs) ≡ None
find-next {X} test xs i x at fails none = ap (find test) (take-next xs i x at) ∙ go (take i xs) none where
  last : (b : Bool) → false ≡ b → cond {A = Option X} b (Some x) None ≡ None
  last true e = absurd cc
  last false e = refl

  step : (b : Bool) (y : X) (o o' : Option X) → cond b (Some y) o ≡ None → (o ≡ None → o' ≡ None) → cond b (Some y) o' ≡ None
  step true y o o' e later = absurd cc
  step false y o o' e later = later e

  go : (ys : List X) → find test ys ≡ None → find test (ys ++ x ∷ []) ≡ None
  go [] e = last (test x) fails
  go (y ∷ ys) e = step (test y) y (find test ys) (find test (ys ++ x ∷ [])) e (go ys)
