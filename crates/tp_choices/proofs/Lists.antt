-- Lemmas on lists that are of no subject here.
use Rattle.std.proofs.Common.{◌≡◌, ◌⊎◌, inl, inr, ℕ, zero, suc, ◌+◌, ◌<◌, Bool, true, false, cond, List, [], ◌∷◌, ◌++◌, map, insert, length, filter, refl, ap, sym, arith, Contains, All, subst, Some, slice_get, append_assoc, AllPairs}
use Rattle.std.proofs.lemmas.List.Elements.{All-cons, All-head, All-tail, All-nil}
use Rattle.std.specs.Prelude.{IsPermutation}
use Rattle.std.proofs.lemmas.List.Sorted.{IsPermutation-trans, IsPermutation-append_right, IsPermutation-append_left, IsPermutation-append_comm}
pub use Rattle.tp_schedule.proofs.Pairs.{AllPairs-append_right}
use Rattle.tp_schedule.proofs.Pairs.{AllPairs-head, AllPairs-tail, All-append_right}
pub use Rattle.tp_schedule.proofs.PutFacts.{All-insert}
use Rattle.tp_schedule.proofs.Membership.{Contains-cons_cases}
use Rattle.tp_schedule.specs.Spots.{Slot}

pub slice_get-append : {X : Type 0} (xs ys : List X) (i : ℕ) (x : X) → slice_get (xs ++ ys) i ≡ Some x → (slice_get xs i ≡ Some x × (i < length xs)) ⊎ ((j : ℕ) × (i ≡ length xs + j) × (slice_get ys j ≡ Some x))
slice_get-append [] ys i x e = inr (i, omega arith, e)
slice_get-append (z ∷ xs) ys zero x e = inl (e, omega arith)
slice_get-append (z ∷ xs) ys (suc i) x e = elim (slice_get-append xs ys i x e) [
  | inl h ↦ inl (h.0, omega (arith, h.1))
  | inr h ↦ inr (h.0, omega (arith, h.1), h.2)
]

-- without the new holds
pub filter-insert : {X Y : Type 0} (p : Y → Bool) (f : X → Y) (xs : List X) (i : ℕ) (x : X) → p (f x) ≡ false → filter p (map f (insert xs i x)) ≡ filter p (map f xs)
filter-insert p f xs zero x e = rw e refl
filter-insert p f [] (suc i) x e = rw e refl
filter-insert p f (y ∷ xs) (suc i) x e = let rest = filter-insert p f xs i x e in rw rest refl

pub map-same : {X : Type 0} (f : X → X) (xs : List X) → All (λ x. f x ≡ x) xs → map f xs ≡ xs
map-same f [] all = refl
map-same f (x ∷ xs) all = rw (All-head (λ y. f y ≡ y) x xs all) (ap (λ ys. x ∷ ys) (map-same f xs (All-tail (λ y. f y ≡ y) x xs all)))

pub slice_get-left : {X : Type 0} (xs ys : List X) (i : ℕ) (x : X) → slice_get xs i ≡ Some x → slice_get (xs ++ ys) i ≡ Some x
slice_get-left [] ys i x e = absurd (cc)
slice_get-left (z ∷ xs) ys zero x e = e
slice_get-left (z ∷ xs) ys (suc i) x e = slice_get-left xs ys i x e

pub slice_get-right : {X : Type 0} (xs ys : List X) (i j : ℕ) (x : X) → i ≡ length xs + j → slice_get ys j ≡ Some x → slice_get (xs ++ ys) i ≡ Some x
slice_get-right [] ys i j x is e = let same : i ≡ j = omega arith in rw same e
slice_get-right (z ∷ xs) ys zero j x is e = absurd (omega arith)
slice_get-right (z ∷ xs) ys (suc i) j x is e = slice_get-right xs ys i j x (omega arith) e

pub swap_in : (qs zs ps rs : List Slot) → IsPermutation zs (ps ++ rs) → IsPermutation (qs ++ zs) (ps ++ (qs ++ rs))
swap_in qs zs ps rs e =
    IsPermutation-trans (qs ++ zs) (qs ++ (ps ++ rs)) (ps ++ (qs ++ rs)) (IsPermutation-append_right qs zs (ps ++ rs) e)
    (rw (sym (append_assoc qs ps rs), sym (append_assoc ps qs rs)) (IsPermutation-append_left rs (qs ++ ps) (ps ++ qs) (IsPermutation-append_comm qs ps)))

pub filter-all : {X : Type 0} (p : X → Bool) (xs : List X) → All (λ x. p x ≡ true) xs → filter p xs ≡ xs
filter-all p [] all = refl
filter-all p (x ∷ xs) all = rw (All-head (λ y. p y ≡ true) x xs all) (ap (λ ys. x ∷ ys) (filter-all p xs (All-tail (λ y. p y ≡ true) x xs all)))

-- what lies behind an element is related to it
pub AllPairs-across : {X : Type 0} (R : X → X → Type 0) (xs ys : List X) (x : X) → AllPairs R (xs ++ ys) → Contains xs x → All (R x) ys
AllPairs-across R [] ys x all in' = absurd (omega (arith, in'.1))
AllPairs-across R (z ∷ xs) ys x all in' = elim (Contains-cons_cases z xs x in') [
  | inl e ↦ subst (λ w. All (R w) ys) e (All-append_right (R z) xs ys (AllPairs-head R z (xs ++ ys) all))
  | inr later ↦ AllPairs-across R xs ys x (AllPairs-tail R z (xs ++ ys) all) later
]

pub filter-map-length : {X Y : Type 0} (p : Y → Bool) (f : X → Y) (xs : List X) → length (filter p (map f xs)) ≡ length (filter (λ x. p (f x)) xs)
filter-map-length p f [] = refl
filter-map-length p f (x ∷ xs) = go (p (f x)) (filter-map-length p f xs) where
  go : (b : Bool) → length (filter p (map f xs)) ≡ length (filter (λ y. p (f y)) xs) → length (cond b (f x ∷ filter p (map f xs)) (filter p (map f xs))) ≡ length (cond b (x ∷ filter (λ y. p (f y)) xs) (filter (λ y. p (f y)) xs))
  go true e = ap suc e
  go false e = e

pub All-map_from : {X Y : Type 0} (P : Y → Type 0) (f : X → Y) (xs : List X) → All P (map f xs) → All (λ x. P (f x)) xs
All-map_from P f [] all = All-nil (λ x. P (f x))
All-map_from P f (x ∷ xs) all = All-cons (λ y. P (f y)) x xs (All-head P (f x) (map f xs) all) (All-map_from P f xs (All-tail P (f x) (map f xs) all))
