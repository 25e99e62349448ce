-- An element of a list, texts that differ, and what is in a list that was made of others.
use Rattle.std.proofs.Common.{◌≡◌, ◌⊎◌, inl, inr, ℕ, zero, suc, Bool, true, false, not, ◌||◌, List, [], ◌∷◌, ◌++◌, map, Some, slice_get, refl, ap, sym, ◌∙◌, arith, subst}
use Rattle.std.specs.Prelude.{Contains, Any}
use Rattle.std.specs.List.{flat_map, list_all}
use Rattle.std.specs.Str.{bytes_eq}
use Rattle.std.proofs.lemmas.Bool.{and_parts}
use Rattle.std.proofs.lemmas.Slice.Eq.{bytes_eq-Decides}
use Rattle.tp_machine_text.specs.Words.{is_among, are_different}

abbrev pub In : {X : Type 0} → List X → X → Type 0
In [] y = ⊥
In (x ∷ xs) y = (x ≡ y) ⊎ In xs y

pub in_contained : {X : Type 0} (xs : List X) (y : X) → Contains xs y → In xs y
in_contained [] y (k, within, at) = absurd (omega arith)
in_contained (x ∷ xs) y (zero, within, at) = inl at
in_contained (x ∷ xs) y (suc k, within, at) = inr (in_contained xs y (k, omega arith, at))

pub contained_in : {X : Type 0} (xs : List X) (y : X) → In xs y → Contains xs y
contained_in [] y within = elim within [ ]
contained_in (x ∷ xs) y (inl same) = (zero, omega arith, same)
contained_in (x ∷ xs) y (inr rest) = let c = contained_in xs y rest in (suc c.0, omega (arith, c.1), c.2)

pub in_any : {X : Type 0} (P : X → Type 0) (xs : List X) → Any P xs → (x : X) × In xs x × P x
in_any P xs (k, x, within, at, p) = (x, in_contained xs x (k, within, at), p)

pub any_in : {X : Type 0} (P : X → Type 0) (xs : List X) (x : X) → In xs x → P x → Any P xs
any_in P xs x within p = let c = contained_in xs x within in (c.0, x, c.1, c.2, p)

pub in_map : {X Y : Type 0} (f : X → Y) (xs : List X) (x : X) → In xs x → In (map f xs) (f x)
in_map f [] x within = elim within [ ]
in_map f (z ∷ zs) x (inl same) = inl (ap f same)
in_map f (z ∷ zs) x (inr rest) = inr (in_map f zs x rest)

pub in_map_back : {X Y : Type 0} (f : X → Y) (xs : List X) (y : Y) → In (map f xs) y → (x : X) × In xs x × (f x ≡ y)
in_map_back f [] y within = elim within [ ]
in_map_back f (x ∷ xs) y (inl same) = (x, inl refl, same)
in_map_back f (x ∷ xs) y (inr rest) = let b = in_map_back f xs y rest in (b.0, inr b.1, b.2)

pub in_left : {X : Type 0} (xs ys : List X) (x : X) → In xs x → In (xs ++ ys) x
in_left [] ys x within = elim within [ ]
in_left (z ∷ zs) ys x (inl same) = inl same
in_left (z ∷ zs) ys x (inr rest) = inr (in_left zs ys x rest)

pub in_right : {X : Type 0} (xs ys : List X) (x : X) → In ys x → In (xs ++ ys) x
in_right [] ys x within = within
in_right (z ∷ zs) ys x within = inr (in_right zs ys x within)

pub in_either : {X : Type 0} (xs ys : List X) (x : X) → In (xs ++ ys) x → In xs x ⊎ In ys x
in_either [] ys x within = inr within
in_either (z ∷ zs) ys x (inl same) = inl (inl same)
in_either (z ∷ zs) ys x (inr rest) = elim (in_either zs ys x rest) [ inl a ↦ inl (inr a) | inr b ↦ inr b ]

pub in_flat : {X Y : Type 0} (f : X → List Y) (xs : List X) (x : X) (y : Y) → In xs x → In (f x) y → In (flat_map f xs) y
in_flat f [] x y within there = elim within [ ]
in_flat f (z ∷ zs) x y (inl same) within = in_left (f z) (flat_map f zs) y (subst (λ w. In (f w) y) (sym same) within)
in_flat f (z ∷ zs) x y (inr rest) within = in_right (f z) (flat_map f zs) y (in_flat f zs x y rest within)

pub in_flat_back : {X Y : Type 0} (f : X → List Y) (xs : List X) (y : Y) → In (flat_map f xs) y → (x : X) × In xs x × In (f x) y
in_flat_back f [] y within = elim within [ ]
in_flat_back {X} {Y} f (x ∷ xs) y within = elim (in_either (f x) (flat_map f xs) y within) [ inl a ↦ (x, inl refl, a) | inr b ↦ (let c = in_flat_back f xs y b in (c.0, inr c.1, c.2)) ]

pub in_slice : {X : Type 0} (xs : List X) (n : ℕ) (x : X) → slice_get xs n ≡ Some x → In xs x
in_slice [] n x at = cc
in_slice (y ∷ ys) zero x at = inl (cc)
in_slice (y ∷ ys) (suc n) x at = inr (in_slice ys n x at)

pub all_in : {X : Type 0} (p : X → Bool) (xs : List X) (x : X) → list_all p xs ≡ true → In xs x → p x ≡ true
all_in p [] x test within = elim within [ ]
all_in p (y ∷ ys) x test (inl same) = ap p (sym same) ∙ (and_parts (p y) (list_all p ys) test).0
all_in p (y ∷ ys) x test (inr rest) = all_in p ys x (and_parts (p y) (list_all p ys) test).1 rest

-- ---- texts that differ

abbrev pub Apart : List (List ℕ) → Type 0
Apart [] = Unit {0}
Apart (x ∷ xs) = (In xs x → ⊥) × Apart xs

pub among_in : (xs : List (List ℕ)) (x : List ℕ) → is_among xs x ≡ true → In xs x
among_in [] x test = cc
among_in (y ∷ ys) x test = cases (bytes_eq x y) refl test (among_in ys x) where
  cases : (b : Bool) → bytes_eq x y ≡ b → (b || is_among ys x) ≡ true → (is_among ys x ≡ true → In ys x) → In (y ∷ ys) x
  cases true e test rest = inl (sym ((bytes_eq-Decides x y).0 e))
  cases false e test rest = inr (rest test)

pub in_among : (xs : List (List ℕ)) (x : List ℕ) → In xs x → is_among xs x ≡ true
in_among [] x within = elim within [ ]
in_among (y ∷ ys) x (inl same) = let e : bytes_eq x y ≡ true = (bytes_eq-Decides x y).1 (sym same) in rw e
in_among (y ∷ ys) x (inr rest) = let e = in_among ys x rest in grind (arith, e)

pub apart_of : (xs : List (List ℕ)) → are_different xs ≡ true → Apart xs
apart_of [] test = tt
apart_of (x ∷ xs) test =
    let (here, rest) = and_parts (not (is_among xs x)) (are_different xs) test in
    ((λ within. let e : is_among xs x ≡ true = in_among xs x within in cc), apart_of xs rest)
