-- What holds of each element, of each two, and of one element of a list.
use Rattle.std.proofs.Common.{◌≡◌, Bool, true, false, cond, List, [], ◌∷◌, ◌++◌, map, find, refl, All, AllPairs, Any, Contains, subst, Some}
use Rattle.std.proofs.lemmas.List.Elements.{All-nil, All-cons, All-head, All-tail, All-map}
use Rattle.tp_schedule.proofs.Membership.{Contains-here, Contains-later}
use Rattle.tp_schedule.proofs.Pairs.{AllPairs-nil, AllPairs-cons, AllPairs-head, AllPairs-tail, All-append_right}

pub AllPairs-append_left : {X : Type 0} (R : X → X → Type 0) (xs ys : List X) → AllPairs R (xs ++ ys) → AllPairs R xs
AllPairs-append_left R [] ys pairs = AllPairs-nil R
AllPairs-append_left R (x ∷ xs) ys pairs =
    AllPairs-cons R x xs (left xs (AllPairs-head R x (xs ++ ys) pairs)) (AllPairs-append_left R xs ys (AllPairs-tail R x (xs ++ ys) pairs)) where
      left : (zs : List _) → All (R x) (zs ++ ys) → All (R x) zs
      left [] all = All-nil (R x)
      left (z ∷ zs) all = All-cons (R x) z zs (All-head (R x) z (zs ++ ys) all) (left zs (All-tail (R x) z (zs ++ ys) all))

pub AllPairs-append_across : {X : Type 0} (R : X → X → Type 0) (xs ys : List X) → AllPairs R (xs ++ ys) → All (λ x. All (R x) ys) xs
AllPairs-append_across R [] ys pairs = All-nil (λ x. All (R x) ys)
AllPairs-append_across R (x ∷ xs) ys pairs =
    All-cons (λ x. All (R x) ys) x xs (All-append_right (R x) xs ys (AllPairs-head R x (xs ++ ys) pairs)) (AllPairs-append_across R xs ys (AllPairs-tail R x (xs ++ ys) pairs))

pub AllPairs-map_list : {X Y : Type 0} (R : Y → Y → Type 0) (f : X → Y) (xs : List X) → AllPairs (λ x y. R (f x) (f y)) xs → AllPairs R (map f xs)
AllPairs-map_list R f [] pairs = AllPairs-nil R
AllPairs-map_list R f (x ∷ xs) pairs =
    AllPairs-cons R (f x) (map f xs) (All-map (R (f x)) f xs (AllPairs-head (λ x y. R (f x) (f y)) x xs pairs)) (AllPairs-map_list R f xs (AllPairs-tail (λ x y. R (f x) (f y)) x xs pairs))

pub All-both : {X : Type 0} (P Q R : X → Type 0) → ((x : X) → P x → Q x → R x) → (xs : List X) → All P xs → All Q xs → All R xs
All-both P Q R each [] p q = All-nil R
All-both P Q R each (x ∷ xs) p q = All-cons R x xs (each x (All-head P x xs p) (All-head Q x xs q)) (All-both P Q R each xs (All-tail P x xs p) (All-tail Q x xs q))

pub All-map_to : {X : Type 0} (P : X → Type 0) (f : X → X) → ((x : X) → P x → P (f x)) → (xs : List X) → All P xs → All P (map f xs)
All-map_to P f each [] all = All-nil P
All-map_to P f each (x ∷ xs) all = All-cons P (f x) (map f xs) (each x (All-head P x xs all)) (All-map_to P f each xs (All-tail P x xs all))

pub Any-contains : {X : Type 0} (P : X → Type 0) (xs : List X) → Any P xs → (x : X) × Contains xs x × P x
Any-contains P xs (k, x, within, is, p) = (x, (k, within, is), p)

pub contains-Any : {X : Type 0} (P : X → Type 0) (xs : List X) (x : X) → Contains xs x → P x → Any P xs
contains-Any P xs x (k, within, is) p = (k, x, within, is, p)

-- the first that passes is one of them, and passes
pub find-Some : {X : Type 0} (p : X → Bool) (xs : List X) (x : X) → find p xs ≡ Some x → Contains xs x × (p x ≡ true)
find-Some p [] x e = absurd (cc)
find-Some p (y ∷ xs) x e = go (p y) refl e (find-Some p xs x) where
  go : (b : Bool) → p y ≡ b → cond b (Some y) (find p xs) ≡ Some x → (find p xs ≡ Some x → Contains xs x × (p x ≡ true)) → Contains (y ∷ xs) x × (p x ≡ true)
  go true f e rest = let same : y ≡ x = cc in (subst (Contains (y ∷ xs)) same (Contains-here y xs), subst (λ z. p z ≡ true) same f)
  go false f e rest = let later = rest e in (Contains-later y xs x later.0, later.1)
