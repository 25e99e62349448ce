-- From tests over a list to facts of its elements.
use Rattle.std.proofs.Common.{◌≡◌, ℕ, zero, suc, Bool, true, false, List, [], ◌∷◌, Some, slice_get, arith, All, AllPairs}
use Rattle.std.specs.List.{list_all, list_any, Contains}
use Rattle.std.proofs.lemmas.List.Elements.{All-nil, All-cons}

pub list_all-at : {X : Type 0} (p : X → Bool) (xs : List X) (k : ℕ) (x : X) → list_all p xs ≡ true → slice_get xs k ≡ Some x → p x ≡ true
list_all-at p [] k x all at = cc
list_all-at p (y ∷ ys) zero x all at = grind arith
list_all-at p (y ∷ ys) (suc k) x all at = list_all-at p ys k x (grind arith) at

-- a fact that follows from the test at each element
pub All-from_test : {X : Type 0} (p : X → Bool) (P : X → Type 0) → ((x : X) → p x ≡ true → P x) → (xs : List X) → list_all p xs ≡ true → All P xs
All-from_test p P gives [] all = All-nil P
All-from_test p P gives (x ∷ xs) all = All-cons P x xs (gives x (grind arith)) (All-from_test p P gives xs (grind arith))

same_test : {X : Type 0} (p : X → Bool) (x y : X) → y ≡ x → p x ≡ true → p y ≡ true
same_test p x y e passes = cc

-- where no element passes a test that x passes, x is none of them
pub not_contained : {X : Type 0} (p : X → Bool) (xs : List X) (x : X) → p x ≡ true → list_any p xs ≡ false → Contains xs x → ⊥
not_contained p [] x passes none (k, within, at) = absurd (omega arith)
not_contained p (y ∷ ys) x passes none (zero, within, at) = let e : p y ≡ true = same_test p x y at passes in grind arith
not_contained p (y ∷ ys) x passes none (suc k, within, at) = not_contained p ys x passes (grind arith) (k, omega arith, at)

-- where no element passes, each fails
pub All-from_none : {X : Type 0} (p : X → Bool) (P : X → Type 0) → ((x : X) → p x ≡ false → P x) → (xs : List X) → list_any p xs ≡ false → All P xs
All-from_none p P gives [] none = All-nil P
All-from_none p P gives (x ∷ xs) none = All-cons P x xs (gives x (grind arith)) (All-from_none p P gives xs (grind arith))

pub AllPairs-head : {X : Type 0} (R : X → X → Type 0) (x : X) (xs : List X) → AllPairs R (x ∷ xs) → All (R x) xs
AllPairs-head R x xs all k d within = all 0 (suc k) d (omega arith) (omega arith)

pub AllPairs-tail : {X : Type 0} (R : X → X → Type 0) (x : X) (xs : List X) → AllPairs R (x ∷ xs) → AllPairs R xs
AllPairs-tail R x xs all i j d before within = all (suc i) (suc j) d (omega arith) (omega arith)

pub AllPairs-nil : {X : Type 0} (R : X → X → Type 0) → AllPairs R []
AllPairs-nil R i j d before within = absurd (omega arith)

pub AllPairs-cons : {X : Type 0} (R : X → X → Type 0) (x : X) (xs : List X) → All (R x) xs → AllPairs R xs → AllPairs R (x ∷ xs)
AllPairs-cons R x xs one rest i zero d before within = absurd (omega arith)
AllPairs-cons R x xs one rest zero (suc j) d before within = one j d (omega arith)
AllPairs-cons R x xs one rest (suc i) (suc j) d before within = rest i j d (omega arith) (omega arith)
