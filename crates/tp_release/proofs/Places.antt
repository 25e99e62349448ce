-- A list that is gone through from place to place.
use Rattle.std.proofs.Common.{◌≡◌, ℕ, zero, suc, ◌+◌, List, [], ◌∷◌, ◌++◌, length, map, take, drop, set, refl, sym, ap, ◌∙◌, arith, Some}
use Rattle.std.specs.Prelude.{slice_get}
use Rattle.std.proofs.lemmas.List.{take_more}
use Rattle.std.proofs.lemmas.Option.{get_or_from_slice_get, slice_get_within}

pub take-next : {X : Type 0} (xs : List X) (i : ℕ) (x : X) → slice_get xs i ≡ Some x → take (i + 1) xs ≡ take i xs ++ x ∷ []
take-next xs i x is = take_more xs i x (slice_get_within xs i x is) ∙ ap (λ y. take i xs ++ y ∷ []) (get_or_from_slice_get xs i x x is)

-- the first so many elements are changed, and the others stand yet
abbrev pub changed_to : {X : Type 0} → (X → X) → ℕ → List X → List X
changed_to f i xs = map f (take i xs) ++ drop i xs

pub unchanged-at : {X : Type 0} (f : X → X) (xs : List X) (i : ℕ) (x : X) → slice_get (changed_to f i xs) i ≡ Some x → slice_get xs i ≡ Some x
unchanged-at f [] zero x is = is
unchanged-at f [] (suc i) x is = is
unchanged-at f (y ∷ xs) zero x is = is
unchanged-at f (y ∷ xs) (suc i) x is = unchanged-at f xs i x is

pub changed-next : {X : Type 0} (f : X → X) (xs : List X) (i : ℕ) (x : X) → slice_get xs i ≡ Some x → set (changed_to f i xs) i (f x) ≡ changed_to f (i + 1) xs
changed-next f [] i x is = absurd cc
changed-next f (y ∷ xs) zero x is = let same : y ≡ x = cc in ap (λ z. f z ∷ xs) (sym same)
changed-next f (y ∷ xs) (suc i) x is =
    let next : suc (i + 1) ≡ suc i + 1 = omega arith in
    ap (λ zs. f y ∷ zs) (changed-next f xs i x is) ∙ ap (λ n. changed_to f n (y ∷ xs)) next

pub changed-whole : {X : Type 0} (f : X → X) (xs : List X) (n : ℕ) → n ≡ length xs → changed_to f n xs ≡ map f xs
changed-whole f [] zero e = refl
changed-whole f [] (suc n) e = absurd (omega arith)
changed-whole f (x ∷ xs) zero e = absurd (omega arith)
changed-whole f (x ∷ xs) (suc n) e = ap (λ ys. f x ∷ ys) (changed-whole f xs n (omega arith))
