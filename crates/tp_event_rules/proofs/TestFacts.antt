-- Tests of the elements of a list, and how many pass.
use Rattle.std.proofs.Common.{◌≡◌, suc, ◌+◌, ◌≤◌, inl, inr, Bool, true, false, cond, ◌&&◌, ◌||◌, List, [], ◌∷◌, map, length, filter, refl, sym, ap, arith, All, Contains, subst}
use Rattle.std.specs.List.{list_any, list_all}
use Rattle.std.proofs.lemmas.List.Elements.{All-nil, All-cons, All-head, All-tail}
use Rattle.tp_schedule.proofs.Membership.{Contains-cons_cases}

-- a test that does not see what a map changes keeps the same elements
pub filter-map_same : {X : Type 0} (p : X → Bool) (f : X → X) → ((x : X) → p (f x) ≡ p x) → (xs : List X) → filter p (map f xs) ≡ map f (filter p xs)
filter-map_same p f same [] = refl
filter-map_same {X} p f same (x ∷ xs) = rw (same x) (go (p x) (filter-map_same p f same xs)) where
  go : (b : Bool) → filter p (map f xs) ≡ map f (filter p xs) → cond b (f x ∷ filter p (map f xs)) (filter p (map f xs)) ≡ map f (cond b (x ∷ filter p xs) (filter p xs))
  go true e = ap (λ l. f x ∷ l) e
  go false e = e

pub map-map_same : {X Y : Type 0} (g : X → Y) (f : X → X) → ((x : X) → g (f x) ≡ g x) → (xs : List X) → map g (map f xs) ≡ map g xs
map-map_same g f same [] = refl
map-map_same g f same (x ∷ xs) = rw (same x, map-map_same g f same xs) refl

pub list_any-map_same : {X : Type 0} (p : X → Bool) (f : X → X) → ((x : X) → p (f x) ≡ p x) → (xs : List X) → list_any p (map f xs) ≡ list_any p xs
list_any-map_same p f same [] = refl
list_any-map_same p f same (x ∷ xs) = rw (same x, list_any-map_same p f same xs) refl

pub list_any_mono : {X : Type 0} (p q : X → Bool) → ((x : X) → p x ≡ true → q x ≡ true) → (xs : List X) → list_any p xs ≡ true → list_any q xs ≡ true
list_any_mono p q each [] e = e
list_any_mono {X} p q each (x ∷ xs) e = go (p x) refl e (list_any_mono p q each xs) where
  or-first : (b c : Bool) → b ≡ true → (b || c) ≡ true
  or-first true c e = refl
  or-first false c e = absurd (cc)

  or-second : (b c : Bool) → c ≡ true → (b || c) ≡ true
  or-second true c e = refl
  or-second false c e = e

  go : (b : Bool) → p x ≡ b → (b || list_any p xs) ≡ true → (list_any p xs ≡ true → list_any q xs ≡ true) → (q x || list_any q xs) ≡ true
  go true f e rest = or-first (q x) (list_any q xs) (each x f)
  go false f e rest = or-second (q x) (list_any q xs) (rest e)

pub list_all_mono : {X : Type 0} (p q : X → Bool) → ((x : X) → p x ≡ true → q x ≡ true) → (xs : List X) → list_all p xs ≡ true → list_all q xs ≡ true
list_all_mono p q each [] e = e
list_all_mono {X} p q each (x ∷ xs) e = go (p x) refl e (list_all_mono p q each xs) where
  go : (b : Bool) → p x ≡ b → (b && list_all p xs) ≡ true → (list_all p xs ≡ true → list_all q xs ≡ true) → (q x && list_all q xs) ≡ true
  go true f e rest = rw (each x f) (rest e)
  go false f e rest = absurd (cc)

pub count-map_mono : {X : Type 0} (p q : X → Bool) (f : X → X) → ((x : X) → p (f x) ≡ true → q x ≡ true) → (xs : List X) → length (filter p (map f xs)) ≤ length (filter q xs)
count-map_mono p q f each [] = omega arith
count-map_mono {X} p q f each (x ∷ xs) = go (p (f x)) refl (q x) refl (count-map_mono p q f each xs) where
  go : (b : Bool) → p (f x) ≡ b → (c : Bool) → q x ≡ c → length (filter p (map f xs)) ≤ length (filter q xs)
      → length (cond b (f x ∷ filter p (map f xs)) (filter p (map f xs))) ≤ length (cond c (x ∷ filter q xs) (filter q xs))
  go true e true g rest = omega arith
  go true e false g rest = absurd (let h = each x e in cc)
  go false e true g rest = omega arith
  go false e false g rest = rest

pub count-part : {X : Type 0} (t r : X → Bool) (xs : List X) → length (filter t (filter r xs)) ≤ length (filter t xs)
count-part t r [] = omega arith
count-part {X} t r (x ∷ xs) = go (r x) (t x) refl (count-part t r xs) where
  go : (b c : Bool) → t x ≡ c → length (filter t (filter r xs)) ≤ length (filter t xs)
      → length (filter t (cond b (x ∷ filter r xs) (filter r xs))) ≤ length (cond c (x ∷ filter t xs) (filter t xs))
  go true true e rest = rw e (omega arith)
  go true false e rest = rw e rest
  go false true e rest = omega arith
  go false false e rest = rest

pub one-less : {X : Type 0} (p : X → Bool) (xs : List X) (x : X) → Contains xs x → p x ≡ false → length (filter p xs) + 1 ≤ length xs
one-less p [] x in' e = absurd (omega (arith, in'.1))
one-less {X} p (y ∷ xs) x in' e = elim (Contains-cons_cases y xs x in') [
  | inl same ↦ let f : p y ≡ false = subst (λ z. p z ≡ false) (sym same) e in let few = length-filter-le p xs in rw f (omega arith)
  | inr later ↦ go (p y) (one-less p xs x later e)
] where
  length-filter-le : (p : X → Bool) (xs : List X) → length (filter p xs) ≤ length xs
  length-filter-le p [] = omega arith
  length-filter-le p (z ∷ xs) = step (p z) (length-filter-le p xs) where
    step : (b : Bool) → length (filter p xs) ≤ length xs → length (cond b (z ∷ filter p xs) (filter p xs)) ≤ suc (length xs)
    step true few = omega arith
    step false few = omega arith

  go : (b : Bool) → length (filter p xs) + 1 ≤ length xs → length (cond b (y ∷ filter p xs) (filter p xs)) + 1 ≤ suc (length xs)
  go true few = omega arith
  go false few = omega arith

pub all-of : {X : Type 0} (t : X → Bool) (xs : List X) → list_all t xs ≡ true → All (λ x. t x ≡ true) xs
all-of t [] e = All-nil (λ x. t x ≡ true)
all-of {X} t (x ∷ xs) e = go (t x) refl e (all-of t xs) where
  go : (b : Bool) → t x ≡ b → (b && list_all t xs) ≡ true → (list_all t xs ≡ true → All (λ x. t x ≡ true) xs) → All (λ x. t x ≡ true) (x ∷ xs)
  go true f e rest = All-cons (λ x. t x ≡ true) x xs f (rest e)
  go false f e rest = absurd (cc)

pub of-all : {X : Type 0} (t : X → Bool) (xs : List X) → All (λ x. t x ≡ true) xs → list_all t xs ≡ true
of-all t [] all = refl
of-all t (x ∷ xs) all = rw (All-head (λ x. t x ≡ true) x xs all) (of-all t xs (All-tail (λ x. t x ≡ true) x xs all))
