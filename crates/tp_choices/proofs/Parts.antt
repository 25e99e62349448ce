-- Lists by parts: what passes a test, and what does not. Pairs within the parts and across them are all pairs, and lists
-- that rise and have equal parts are equal.
use Rattle.std.proofs.Common.{◌≡◌, ◌⊎◌, inl, inr, Bool, true, false, cond, not, List, [], ◌∷◌, filter, refl, ap, sym, Contains, AllPairs, subst}
use Rattle.std.proofs.lemmas.List.Elements.{All-contains}
use Rattle.tp_schedule.proofs.Membership.{Contains-here, Contains-later, All-from_contains, Contains-filter, Contains-filter_from}
use Rattle.tp_schedule.proofs.Pairs.{AllPairs-head, AllPairs-tail, AllPairs-nil, AllPairs-cons}
use Rattle.tp_schedule.proofs.SlotOrder.{rising_unique}

-- pairs of which both pass stand in the relation, and the others by another relation of all pairs
pub AllPairs-by_part : {X : Type 0} (R Q : X → X → Type 0) (p : X → Bool) (xs : List X) → AllPairs R (filter p xs) → AllPairs Q xs
    → ((x y : X) → Contains xs x → Contains xs y → (p x ≡ false) ⊎ (p y ≡ false) → Q x y → R x y) → AllPairs R xs
AllPairs-by_part R Q p [] part all cross = AllPairs-nil R
AllPairs-by_part {X} R Q p (x ∷ xs) part all cross =
    AllPairs-cons R x xs (All-from_contains (R x) xs (λ y in'. head (p x) refl y in' (p y) refl part))
    (AllPairs-by_part R Q p xs (tail (p x) part) (AllPairs-tail Q x xs all) (λ y z in-y in-z. cross y z (Contains-later x xs y in-y) (Contains-later x xs z in-z))) where
      tail : (b : Bool) → AllPairs R (cond b (x ∷ filter p xs) (filter p xs)) → AllPairs R (filter p xs)
      tail true h = AllPairs-tail R x (filter p xs) h
      tail false h = h

      other : (y : X) → Contains xs y → (p x ≡ false) ⊎ (p y ≡ false) → R x y
      other y in' which = cross x y (Contains-here x xs) (Contains-later x xs y in') which (All-contains (Q x) xs y (AllPairs-head Q x xs all) in')

      head : (b : Bool) → p x ≡ b → (y : X) → Contains xs y → (c : Bool) → p y ≡ c → AllPairs R (cond b (x ∷ filter p xs) (filter p xs)) → R x y
      head true e y in' true f h = All-contains (R x) (filter p xs) y (AllPairs-head R x (filter p xs) h) (Contains-filter p xs y in' f)
      head true e y in' false f h = other y in' (inr f)
      head false e y in' c f h = other y in' (inl e)

-- a relation that does not mind the order holds of all pairs, if of those within both parts and of those across
pub AllPairs-both_parts : {X : Type 0} (R : X → X → Type 0) (p : X → Bool) (xs : List X) → ((x y : X) → R x y → R y x) → AllPairs R (filter p xs) → AllPairs R (filter (λ x. not (p x)) xs)
    → ((x y : X) → Contains xs x → Contains xs y → p x ≡ true → p y ≡ false → R x y) → AllPairs R xs
AllPairs-both_parts R p [] turn some others cross = AllPairs-nil R
AllPairs-both_parts {X} R p (x ∷ xs) turn some others cross =
    AllPairs-cons R x xs (All-from_contains (R x) xs (λ y in'. head (p x) refl y in' (p y) refl some others))
    (AllPairs-both_parts R p xs turn (tail (p x) some) (tail-not (p x) others) (λ y z in-y in-z. cross y z (Contains-later x xs y in-y) (Contains-later x xs z in-z))) where
      tail : (b : Bool) → AllPairs R (cond b (x ∷ filter p xs) (filter p xs)) → AllPairs R (filter p xs)
      tail true h = AllPairs-tail R x (filter p xs) h
      tail false h = h

      tail-not : (b : Bool) → AllPairs R (cond (not b) (x ∷ filter (λ y. not (p y)) xs) (filter (λ y. not (p y)) xs)) → AllPairs R (filter (λ y. not (p y)) xs)
      tail-not true h = h
      tail-not false h = AllPairs-tail R x (filter (λ y. not (p y)) xs) h

      head : (b : Bool) → p x ≡ b → (y : X) → Contains xs y → (c : Bool) → p y ≡ c → AllPairs R (cond b (x ∷ filter p xs) (filter p xs)) → AllPairs R (cond (not b) (x ∷ filter (λ z. not (p z)) xs) (filter (λ z. not (p z)) xs)) → R x y
      head true e y in' true f h k = All-contains (R x) (filter p xs) y (AllPairs-head R x (filter p xs) h) (Contains-filter p xs y in' f)
      head true e y in' false f h k = cross x y (Contains-here x xs) (Contains-later x xs y in') e f
      head false e y in' true f h k = turn y x (cross y x (Contains-later x xs y in') (Contains-here x xs) f e)
      head false e y in' false f h k = All-contains (R x) (filter (λ z. not (p z)) xs) y (AllPairs-head R x (filter (λ z. not (p z)) xs) k) (Contains-filter (λ z. not (p z)) xs y in' (rw f refl))

-- what is in a list is in one of its parts
pub Contains-parts : {X : Type 0} (p : X → Bool) (xs ys : List X) → filter p xs ≡ filter p ys → filter (λ x. not (p x)) xs ≡ filter (λ x. not (p x)) ys → (x : X) → Contains xs x → Contains ys x
Contains-parts {X} p xs ys same same-not x in' = go (p x) refl where
  go : (b : Bool) → p x ≡ b → Contains ys x
  go true e = (Contains-filter_from p ys x (subst (λ zs. Contains zs x) same (Contains-filter p xs x in' e))).0
  go false e = (Contains-filter_from (λ y. not (p y)) ys x (subst (λ zs. Contains zs x) same-not (Contains-filter (λ y. not (p y)) xs x in' (rw e refl)))).0

pub parts-equal : {X : Type 0} (R : X → X → Type 0) → ((x y : X) → R x y → R y x → ⊥) → (p : X → Bool) (xs ys : List X) → AllPairs R xs → AllPairs R ys
    → filter p xs ≡ filter p ys → filter (λ x. not (p x)) xs ≡ filter (λ x. not (p x)) ys → xs ≡ ys
parts-equal R not_both p xs ys rise rise' same same-not =
    rising_unique R not_both xs ys rise rise' (Contains-parts p xs ys same same-not) (Contains-parts p ys xs (sym same) (sym same-not))

-- filters in either order
pub filter-swap : {X : Type 0} (p q : X → Bool) (xs : List X) → filter p (filter q xs) ≡ filter q (filter p xs)
filter-swap p q [] = refl
filter-swap {X} p q (x ∷ xs) = go (p x) refl (q x) refl (filter-swap p q xs) where
  go : (b : Bool) → p x ≡ b → (c : Bool) → q x ≡ c → filter p (filter q xs) ≡ filter q (filter p xs) → filter p (cond c (x ∷ filter q xs) (filter q xs)) ≡ filter q (cond b (x ∷ filter p xs) (filter p xs))
  go true e true f rest = rw (e, f) (ap (λ ys. x ∷ ys) rest)
  go true e false f rest = rw f rest
  go false e true f rest = rw e rest
  go false e false f rest = rest
