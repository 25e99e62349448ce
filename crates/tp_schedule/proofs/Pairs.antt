-- Lists whose elements stand in a relation pair by pair.
use Rattle.std.proofs.Common.{◌≡◌, ◌⊎◌, inl, inr, ℕ, zero, suc, List, [], ◌∷◌, ◌++◌, insert, arith, sym, ◌∙◌, subst, All, AllPairs, map, Contains, get_or}
use Rattle.std.proofs.lemmas.List.Elements.{All-append, All-cons, All-contains, All-head, All-tail, All-nil, Contains-get_or}
pub use Rattle.tp_machine.proofs.Lists.{AllPairs-head, AllPairs-tail, AllPairs-nil, AllPairs-cons}
use Rattle.tp_schedule.proofs.Membership.{Contains-cons_cases}

-- pairs in two lists together
pub AllPairs-append : {X : Type 0} (R : X → X → Type 0) (xs ys : List X) → AllPairs R xs → AllPairs R ys → All (λ x. All (R x) ys) xs → AllPairs R (xs ++ ys)
AllPairs-append R [] ys one other across = other
AllPairs-append R (x ∷ xs) ys one other across =
    AllPairs-cons R x (xs ++ ys)
    (All-append (R x) xs ys (AllPairs-head R x xs one) (All-head (λ z. All (R z) ys) x xs across))
    (AllPairs-append R xs ys (AllPairs-tail R x xs one) other (All-tail (λ z. All (R z) ys) x xs across))

pub All-append_right : {X : Type 0} (P : X → Type 0) (xs ys : List X) → All P (xs ++ ys) → All P ys
All-append_right P [] ys all = all
All-append_right P (x ∷ xs) ys all = All-append_right P xs ys (All-tail P x (xs ++ ys) all)

pub AllPairs-append_right : {X : Type 0} (R : X → X → Type 0) (xs ys : List X) → AllPairs R (xs ++ ys) → AllPairs R ys
AllPairs-append_right R [] ys pairs = pairs
AllPairs-append_right R (x ∷ xs) ys pairs = AllPairs-append_right R xs ys (AllPairs-tail R x (xs ++ ys) pairs)

All-insert_out : {X : Type 0} (P : X → Type 0) (xs : List X) (i : ℕ) (x : X) → All P (insert xs i x) → All P xs
All-insert_out P xs zero x all = All-tail P x xs all
All-insert_out P [] (suc i) x all = All-nil P
All-insert_out P (y ∷ ys) (suc i) x all = All-cons P y ys (All-head P y (insert ys i x) all) (All-insert_out P ys i x (All-tail P y (insert ys i x) all))

-- without the element that was put in
pub AllPairs-insert_out : {X : Type 0} (R : X → X → Type 0) (xs : List X) (i : ℕ) (x : X) → AllPairs R (insert xs i x) → AllPairs R xs
AllPairs-insert_out R xs zero x all = AllPairs-tail R x xs all
AllPairs-insert_out R [] (suc i) x all = AllPairs-nil R
AllPairs-insert_out R (y ∷ ys) (suc i) x all =
    AllPairs-cons R y ys (All-insert_out (R y) ys i x (AllPairs-head R y (insert ys i x) all)) (AllPairs-insert_out R ys i x (AllPairs-tail R y (insert ys i x) all))

-- a relation of the elements, of what they are mapped to
pub AllPairs-map : {X Y : Type 0} (R : X → X → Type 0) (Q : Y → Y → Type 0) (P : X → Type 0) (f : X → Y) (xs : List X) → All P xs → AllPairs R xs → ((x y : X) → P x → P y → R x y → Q (f x) (f y)) → AllPairs Q (map f xs)
AllPairs-map R Q P f [] all pairs each = AllPairs-nil Q
AllPairs-map {X} {Y} R Q P f (x ∷ xs) all pairs each =
    AllPairs-cons Q (f x) (map f xs)
    (go xs (All-tail P x xs all) (AllPairs-head R x xs pairs))
    (AllPairs-map R Q P f xs (All-tail P x xs all) (AllPairs-tail R x xs pairs) each) where
      go : (ys : List X) → All P ys → All (R x) ys → All (Q (f x)) (map f ys)
      go [] p r = All-nil (Q (f x))
      go (y ∷ ys) p r = All-cons (Q (f x)) (f y) (map f ys) (each x y (All-head P x xs all) (All-head P y ys p) (All-head (R x) y ys r)) (go ys (All-tail P y ys p) (All-tail (R x) y ys r))

-- a relation of what the elements are mapped to
pub AllPairs-map_from : {X Y : Type 0} (R : Y → Y → Type 0) (f : X → Y) (xs : List X) → AllPairs R (map f xs) → AllPairs (λ x y. R (f x) (f y)) xs
AllPairs-map_from R f [] pairs = AllPairs-nil (λ x y. R (f x) (f y))
AllPairs-map_from {X} R f (x ∷ xs) pairs =
    AllPairs-cons (λ x y. R (f x) (f y)) x xs (go xs (AllPairs-head R (f x) (map f xs) pairs)) (AllPairs-map_from R f xs (AllPairs-tail R (f x) (map f xs) pairs)) where
      go : (ys : List X) → All (R (f x)) (map f ys) → All (λ y. R (f x) (f y)) ys
      go [] all = All-nil (λ y. R (f x) (f y))
      go (y ∷ ys) all = All-cons (λ y. R (f x) (f y)) y ys (All-head (R (f x)) (f y) (map f ys) all) (go ys (All-tail (R (f x)) (f y) (map f ys) all))

-- two different elements stand in the relation one way or the other
pub AllPairs-either : {X : Type 0} (R : X → X → Type 0) (xs : List X) (x y : X) → AllPairs R xs → Contains xs x → Contains xs y → (x ≡ y → ⊥) → R x y ⊎ R y x
AllPairs-either R [] x y pairs in' in'' differ = absurd (omega (arith, in'.1))
AllPairs-either R (z ∷ xs) x y pairs in' in'' differ = elim (Contains-cons_cases z xs x in') [
  | inl e ↦ elim (Contains-cons_cases z xs y in'') [
    | inl f ↦ absurd (differ (sym e ∙ f))
    | inr later ↦ inl (subst (λ v. R v y) e (All-contains (R z) xs y (AllPairs-head R z xs pairs) later))
  ]
  | inr later ↦ elim (Contains-cons_cases z xs y in'') [
    | inl f ↦ inr (subst (λ v. R v x) f (All-contains (R z) xs x (AllPairs-head R z xs pairs) later))
    | inr later' ↦ AllPairs-either R xs x y (AllPairs-tail R z xs pairs) later later' differ
  ]
]

-- what is known of the pairs, and of their elements
pub AllPairs-each : {X : Type 0} (R Q : X → X → Type 0) (xs : List X) → AllPairs R xs → ((x y : X) → Contains xs x → Contains xs y → R x y → Q x y) → AllPairs Q xs
AllPairs-each R Q xs pairs each i j d before within = each (get_or xs i d) (get_or xs j d) (Contains-get_or xs i d (omega arith)) (Contains-get_or xs j d within) (pairs i j d before within)
