-- What a list contains, mapped or filtered.
use Rattle.std.proofs.Common.{◌≡◌, ◌⊎◌, inl, inr, zero, suc, Bool, true, false, cond, List, [], ◌∷◌, map, filter, flat_map, refl, sym, arith, Contains, All, subst, get_or}
use Rattle.std.proofs.lemmas.List.Concat.{flat_map-cons}
use Rattle.std.proofs.lemmas.List.Elements.{Contains-append_cases, Contains-append_left, Contains-append_right, Contains-get_or}

pub Contains-cons_cases : {X : Type 0} (x : X) (xs : List X) (y : X) → Contains (x ∷ xs) y → (x ≡ y) ⊎ Contains xs y
Contains-cons_cases x xs y (zero, within, is) = inl is
Contains-cons_cases x xs y (suc k, within, is) = inr (k, omega arith, is)

pub Contains-here : {X : Type 0} (x : X) (xs : List X) → Contains (x ∷ xs) x
Contains-here x xs = (0, omega arith, refl)

pub Contains-later : {X : Type 0} (x : X) (xs : List X) (y : X) → Contains xs y → Contains (x ∷ xs) y
Contains-later x xs y (k, within, is) = (suc k, omega arith, is)

pub All-from_contains : {X : Type 0} (P : X → Type 0) (xs : List X) → ((x : X) → Contains xs x → P x) → All P xs
All-from_contains P xs each k d within = each (get_or xs k d) (Contains-get_or xs k d within)

pub Contains-map_from : {X Y : Type 0} (f : X → Y) (xs : List X) (y : Y) → Contains (map f xs) y → (x : X) × Contains xs x × (y ≡ f x)
Contains-map_from f [] y in' = absurd (omega (arith, in'.1))
Contains-map_from f (x ∷ xs) y in' = elim (Contains-cons_cases (f x) (map f xs) y in') [
  | inl e ↦ (x, Contains-here x xs, sym e)
  | inr later ↦ let rest = Contains-map_from f xs y later in (rest.0, Contains-later x xs rest.0 rest.1, rest.2)
]

pub Contains-map : {X Y : Type 0} (f : X → Y) (xs : List X) (x : X) → Contains xs x → Contains (map f xs) (f x)
Contains-map f [] x in' = absurd (omega (arith, in'.1))
Contains-map f (y ∷ xs) x in' = elim (Contains-cons_cases y xs x in') [
  | inl e ↦ subst (λ z. Contains (f y ∷ map f xs) (f z)) e (Contains-here (f y) (map f xs))
  | inr later ↦ Contains-later (f y) (map f xs) (f x) (Contains-map f xs x later)
]

pub Contains-filter_from : {X : Type 0} (p : X → Bool) (xs : List X) (x : X) → Contains (filter p xs) x → Contains xs x × (p x ≡ true)
Contains-filter_from p [] x in' = absurd (omega (arith, in'.1))
Contains-filter_from {X} p (y ∷ xs) x in' = go (p y) refl in' (Contains-filter_from p xs x) where
  go : (b : Bool) → p y ≡ b → Contains (cond b (y ∷ filter p xs) (filter p xs)) x → (Contains (filter p xs) x → Contains xs x × (p x ≡ true)) → Contains (y ∷ xs) x × (p x ≡ true)
  go true e in'' rest = elim (Contains-cons_cases y (filter p xs) x in'') [
    | inl same ↦ (subst (Contains (y ∷ xs)) same (Contains-here y xs), subst (λ z. p z ≡ true) same e)
    | inr later ↦ let r = rest later in (Contains-later y xs x r.0, r.1)
  ]
  go false e in'' rest = let r = rest in'' in (Contains-later y xs x r.0, r.1)

pub Contains-filter : {X : Type 0} (p : X → Bool) (xs : List X) (x : X) → Contains xs x → p x ≡ true → Contains (filter p xs) x
Contains-filter p [] x in' e = absurd (omega (arith, in'.1))
Contains-filter {X} p (y ∷ xs) x in' e = elim (Contains-cons_cases y xs x in') [
  | inl same ↦ rw (subst (λ z. p z ≡ true) (sym same) e) (subst (Contains (y ∷ filter p xs)) same (Contains-here y (filter p xs)))
  | inr later ↦ go (p y) (Contains-filter p xs x later e)
] where
  go : (b : Bool) → Contains (filter p xs) x → Contains (cond b (y ∷ filter p xs) (filter p xs)) x
  go true rest = Contains-later y (filter p xs) x rest
  go false rest = rest

pub flat_map-from : {X Y : Type 0} (f : X → List Y) (xs : List X) (d : Y) → Contains (flat_map f xs) d → (z : X) × Contains xs z × Contains (f z) d
flat_map-from f [] d in' = absurd (omega (arith, in'.1))
flat_map-from f (z ∷ zs) d in' = elim (Contains-append_cases (f z) (flat_map f zs) d (subst (λ l. Contains l d) (flat_map-cons f z zs) in')) [
  | inl here ↦ (z, Contains-here z zs, here)
  | inr later ↦ let r = flat_map-from f zs d later in (r.0, Contains-later z zs r.0 r.1, r.2)
]

pub flat_map-to : {X Y : Type 0} (f : X → List Y) (xs : List X) (x : X) (d : Y) → Contains xs x → Contains (f x) d → Contains (flat_map f xs) d
flat_map-to f [] x d in' has = absurd (omega (arith, in'.1))
flat_map-to f (z ∷ zs) x d in' has = rw (flat_map-cons f z zs) (elim (Contains-cons_cases z zs x in') [
  | inl e ↦ Contains-append_left (f z) (flat_map f zs) d (subst (λ y. Contains (f y) d) (sym e) has)
  | inr later ↦ Contains-append_right (f z) (flat_map f zs) d (flat_map-to f zs x d later has)
])
