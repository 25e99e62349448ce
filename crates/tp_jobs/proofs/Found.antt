-- No element of a list passes a test.
use Rattle.std.proofs.Common.{◌≡◌, ℕ, ◌<◌, suc, Bool, false, List, [], ◌∷◌, length, get_or, find, None, refl, arith}

pub find-none : {X : Type 0} (p : X → Bool) (xs : List X) → ((k : ℕ) (d : X) → k < length xs → p (get_or xs k d) ≡ false) → find p xs ≡ None
find-none p [] before = refl
find-none p (y ∷ ys) before = rw (before 0 y (omega arith)) (find-none p ys (λ k d below. before (suc k) d (omega arith)))
