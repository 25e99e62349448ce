-- Elements of lists, by `slice_get`.
use Rattle.std.proofs.Common.{suc, zero, ◌≡◌, ℕ, ◌+◌, ◌<◌, List, [], ◌∷◌, ◌++◌, length, take, drop, map, set, Some, sym, refl, ap, ◌∙◌, subst, arith, ◌⊎◌, inl, inr}
use Rattle.std.proofs.lemmas.Option.{none-some, same_Some, slice_get_within, get_or_from_slice_get}
use Rattle.std.proofs.lemmas.List.{length-append, take_at, take-take}
use Rattle.std.specs.List.{All, slice_get}

-- functions that agree on the elements
pub map_same : {X Y : Type 0} (f g : X → Y) (xs : List X) → ((k : ℕ) (x : X) → slice_get xs k ≡ Some x → f x ≡ g x) → map f xs ≡ map g xs
map_same f g [] h = refl
map_same {X} {Y} f g (x ∷ xs) h =
    let i = map_same f g xs (λ k y s. h (suc k) y s) in
    ap (λ (y : Y). y ∷ map f xs) (h 0 x refl) ∙ ap (λ (ys : List Y). g x ∷ ys) i

pub slice_get_left : {X : Type 0} (xs ys : List X) (k : ℕ) → k < length xs → slice_get (xs ++ ys) k ≡ slice_get xs k
slice_get_left [] ys k h = absurd (omega arith)
slice_get_left (x ∷ xs) ys zero h = refl
slice_get_left (x ∷ xs) ys (suc k) h = slice_get_left xs ys k (omega arith)

pub slice_get_last : {X : Type 0} (xs : List X) (x : X) → slice_get (xs ++ x ∷ []) (length xs) ≡ Some x
slice_get_last [] x = refl
slice_get_last (y ∷ xs) x = slice_get_last xs x

-- an element of a list with one more is of the list, or the one
pub slice_get_end : {X : Type 0} (xs : List X) (x : X) (k : ℕ) (y : X) → slice_get (xs ++ x ∷ []) k ≡ Some y → (slice_get xs k ≡ Some y) ⊎ ((k ≡ length xs) × (x ≡ y))
slice_get_end [] x zero y h = inr (refl, same_Some x y h)
slice_get_end [] x (suc k) y h = absurd (none-some y h)
slice_get_end (z ∷ xs) x zero y h = inl h
slice_get_end (z ∷ xs) x (suc k) y h = elim (slice_get_end xs x k y h) [ inl p ↦ inl p | inr p ↦ inr (ap suc p.0, p.1) ]

pub slice_get_take : {X : Type 0} (n : ℕ) (xs : List X) (k : ℕ) (x : X) → slice_get (take n xs) k ≡ Some x → (k < n) × (slice_get xs k ≡ Some x)
slice_get_take zero xs k x h = absurd (none-some x h)
slice_get_take (suc n) [] k x h = absurd (none-some x h)
slice_get_take (suc n) (y ∷ xs) zero x h = (omega arith, h)
slice_get_take (suc n) (y ∷ xs) (suc k) x h = let i = slice_get_take n xs k x h in (omega (arith, i.0), i.1)

pub slice_get_drop : {X : Type 0} (n : ℕ) (xs : List X) (k : ℕ) → slice_get (drop n xs) k ≡ slice_get xs (n + k)
slice_get_drop zero xs k = let e : 0 + k ≡ k = omega arith in rw e refl
slice_get_drop (suc n) [] k = refl
slice_get_drop {X} (suc n) (x ∷ xs) k =
    let e : suc (n + k) ≡ suc n + k = omega arith in
    subst (λ i. slice_get (drop n xs) k ≡ slice_get {X = X} (x ∷ xs) i) e (slice_get_drop n xs k)

-- the element at a place within the list
pub found : {X : Type 0} (xs : List X) (k : ℕ) → k < length xs → (x : X) × (slice_get xs k ≡ Some x)
found [] k h = absurd (omega arith)
found (x ∷ xs) zero h = (x, refl)
found (x ∷ xs) (suc k) h = found xs k (omega arith)

pub All-at : {X : Type 0} (P : X → Type 0) (xs : List X) (k : ℕ) (x : X) → All P xs → slice_get xs k ≡ Some x → P x
All-at P xs k x a s = subst P (get_or_from_slice_get xs k x x s) (a k x (slice_get_within xs k x s))

pub take_set : {X : Type 0} (n : ℕ) (xs : List X) (k : ℕ) (x : X) → take n (set xs k x) ≡ set (take n xs) k x
take_set zero xs k x = refl
take_set (suc n) [] k x = refl
take_set (suc n) (y ∷ xs) zero x = refl
take_set (suc n) (y ∷ xs) (suc k) x = ap (λ ys. y ∷ ys) (take_set n xs k x)

-- the front of a list, once its last element is taken off
pub take_popped : {X : Type 0} (all xs ys : List X) (x : X) → ys ≡ xs ++ x ∷ [] → ys ≡ take (length ys) all → xs ≡ take (length xs) all
take_popped all xs ys x e h =
    let l : length ys ≡ length xs + 1 = ap length e ∙ length-append xs (x ∷ []) in
    sym (take_at xs (x ∷ []) (length xs) refl) ∙ ap (take (length xs)) (sym e ∙ h) ∙ take-take (length xs) (length ys) all (omega arith)
