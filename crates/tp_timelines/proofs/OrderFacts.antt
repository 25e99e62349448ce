-- Orders that are emptied, one after another, and vectors with room.
use Rattle.std.proofs.Common.{suc, zero, ◌≡◌, ℕ, ◌≤◌, List, [], ◌∷◌, ◌++◌, length, set, replicate, refl, ap, ◌∙◌, arith}

-- the first so many orders are empty
abbrev pub emptied : ℕ → List (List ℕ) → List (List ℕ)
emptied zero orders = orders
emptied (suc n) [] = []
emptied (suc n) (o ∷ os) = [] ∷ emptied n os

pub emptied-next : (n : ℕ) (orders : List (List ℕ)) → set (emptied n orders) n [] ≡ emptied (suc n) orders
emptied-next zero [] = refl
emptied-next zero (o ∷ os) = refl
emptied-next (suc n) [] = refl
emptied-next (suc n) (o ∷ os) = ap (λ ls. [] ∷ ls) (emptied-next n os)

pub emptied-all : (n : ℕ) (orders : List (List ℕ)) → length orders ≤ n → emptied n orders ≡ replicate (length orders) []
emptied-all zero [] h = refl
emptied-all zero (o ∷ os) h = absurd (omega arith)
emptied-all (suc n) [] h = refl
emptied-all (suc n) (o ∷ os) h = ap (λ ls. [] ∷ ls) (emptied-all n os (omega arith))

pub replicate-push : {X : Type 0} (n : ℕ) (x : X) → replicate n x ++ x ∷ [] ≡ replicate (suc n) x
replicate-push zero x = refl
replicate-push (suc n) x = ap (λ ys. x ∷ ys) (replicate-push n x)
