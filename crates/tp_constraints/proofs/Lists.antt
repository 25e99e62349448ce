-- Lemmas on lists that are of no subject here.
use Rattle.std.proofs.Common.{◌≡◌, ℕ, zero, suc, ◌<◌, List, [], ◌∷◌, length, refl, arith, All, Contains, ap, map, Some, ◌++◌, get_or}
use Rattle.std.specs.Prelude.{slice_get, slice_index}
use Rattle.std.proofs.lemmas.List.Elements.{All-nil, All-cons, All-head, All-tail, All-contains}
pub use Rattle.tp_schedule.proofs.Pairs.{AllPairs-append}

-- both parts of a list
pub All-split : {X : Type 0} (P : X → Type 0) (xs ys : List X) → All P (xs ++ ys) → All P xs × All P ys
All-split P [] ys all = (All-nil P, all)
All-split P (x ∷ xs) ys all =
    let r = All-split P xs ys (All-tail P x (xs ++ ys) all) in
    (All-cons P x xs (All-head P x (xs ++ ys) all) r.0, r.1)

-- what holds of a list holds of one whose elements it has
pub all-by : {X : Type 0} (P : X → Type 0) (xs ys : List X) → All (Contains ys) xs → All P ys → All P xs
all-by P xs ys there all k d within = All-contains P ys (get_or xs k d) all (there k d within)

-- elements by their numbers
pub get-there : {X : Type 0} (xs : List X) (i : ℕ) → i < length xs → (x : X) × (slice_get xs i ≡ Some x)
get-there [] i within = absurd (omega (arith, within))
get-there (x ∷ xs) zero within = (x, refl)
get-there (x ∷ xs) (suc i) within = get-there xs i (omega arith)

pub contains-get : {X : Type 0} (xs : List X) (i : ℕ) (x : X) → slice_get xs i ≡ Some x → Contains xs x
contains-get [] i x e = absurd cc
contains-get (y ∷ xs) zero x e = let same : y ≡ x = cc in (0, omega arith, same)
contains-get (y ∷ xs) (suc i) x e = let r = contains-get xs i x e in (suc r.0, omega (arith, r.1), r.2)

pub get-contains : {X : Type 0} (xs : List X) (x : X) → Contains xs x → (i : ℕ) × (slice_get xs i ≡ Some x)
get-contains [] x c = absurd (omega (arith, c.1))
get-contains (y ∷ xs) x (zero, within, is) = (0, ap Some is)
get-contains (y ∷ xs) x (suc k, within, is) = let r = get-contains xs x (k, omega arith, is) in (suc r.0, r.1)

pub index-map : {X : Type 0} (f : X → ℕ) (xs : List X) (i : ℕ) (x : X) → slice_get xs i ≡ Some x → slice_index (map f xs) i ≡ f x
index-map f [] i x e = absurd cc
index-map f (y ∷ xs) zero x e = let same : y ≡ x = cc in ap f same
index-map f (y ∷ xs) (suc i) x e = index-map f xs i x e

-- functions that agree on a list
pub map-each : {X Y : Type 0} (f g : X → Y) (xs : List X) → All (λ x. f x ≡ g x) xs → map f xs ≡ map g xs
map-each f g [] all = refl
map-each f g (x ∷ xs) all = let a = All-head (λ x. f x ≡ g x) x xs all in let b = map-each f g xs (All-tail (λ x. f x ≡ g x) x xs all) in λ i. a i ∷ b i
