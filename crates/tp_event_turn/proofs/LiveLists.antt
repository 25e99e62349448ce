-- Filters of filtered lists.
use Rattle.std.proofs.Common.{◌≡◌, Bool, true, false, cond, ◌||◌, List, [], ◌∷◌, ◌++◌, map, flat_map, filter, refl, ap, Contains, not, ℕ, ◌+◌, arith}
use Rattle.std.specs.List.{list_any}
use Rattle.tp_schedule.proofs.Membership.{Contains-here, Contains-later}
use Rattle.std.specs.Prelude.{count_by}
use Rattle.tp_stock.proofs.StockFacts.{count-cons}

-- a test that only elements pass which pass another one
pub filter-within : {X : Type 0} (p q : X → Bool) (xs : List X) → ((x : X) → Contains xs x → p x ≡ true → q x ≡ true) → filter p (filter q xs) ≡ filter p xs
filter-within p q [] within = refl
filter-within {X} p q (x ∷ xs) within =
    go (q x) refl (p x) refl (within x (Contains-here x xs)) (filter-within p q xs (λ y in'. within y (Contains-later x xs y in'))) where
      go : (b : Bool) → q x ≡ b → (c : Bool) → p x ≡ c → (p x ≡ true → q x ≡ true) → filter p (filter q xs) ≡ filter p xs
          → filter p (cond b (x ∷ filter q xs) (filter q xs)) ≡ cond c (x ∷ filter p xs) (filter p xs)
      go true e true f w rest = rw f (ap (λ ys. x ∷ ys) rest)
      go true e false f w rest = rw f rest
      go false e true f w rest = absurd (let g = w f in cc)
      go false e false f w rest = rest

pub filter-map_within : {X : Type 0} (p q : X → Bool) (f : X → X) → ((x : X) → p (f x) ≡ true → q x ≡ true) → (xs : List X)
    → filter p (map f (filter q xs)) ≡ filter p (map f xs)
filter-map_within p q f within [] = refl
filter-map_within {X} p q f within (x ∷ xs) = go (q x) refl (p (f x)) refl (filter-map_within p q f within xs) where
  go : (b : Bool) → q x ≡ b → (c : Bool) → p (f x) ≡ c → filter p (map f (filter q xs)) ≡ filter p (map f xs)
      → filter p (map f (cond b (x ∷ filter q xs) (filter q xs))) ≡ cond c (f x ∷ filter p (map f xs)) (filter p (map f xs))
  go true e true g rest = rw g (ap (λ ys. f x ∷ ys) rest)
  go true e false g rest = rw g rest
  go false e true g rest = absurd (let h = within x g in cc)
  go false e false g rest = rest

-- what fails a test gives nothing
pub flat_map-filter : {X Y : Type 0} (q : X → Bool) (f : X → List Y) (xs : List X) → ((x : X) → Contains xs x → q x ≡ false → f x ≡ []) → flat_map f (filter q xs) ≡ flat_map f xs
flat_map-filter q f [] none = refl
flat_map-filter {X} {Y} q f (x ∷ xs) none =
    go (q x) refl (none x (Contains-here x xs)) (flat_map-filter q f xs (λ y in'. none y (Contains-later x xs y in'))) where
      go : (b : Bool) → q x ≡ b → (q x ≡ false → f x ≡ []) → flat_map f (filter q xs) ≡ flat_map f xs
          → flat_map f (cond b (x ∷ filter q xs) (filter q xs)) ≡ f x ++ flat_map f xs
      go true e n rest = ap (λ ys. f x ++ ys) rest
      go false e n rest = rw (n e) rest

-- what some element of a part passes, some element of the whole does
pub any-filter : {X : Type 0} (p q : X → Bool) (xs : List X) → list_any p (filter q xs) ≡ true → list_any p xs ≡ true
any-filter p q [] e = e
any-filter {X} p q (x ∷ xs) e = go (q x) (p x) refl e (any-filter p q xs) where
  go : (b c : Bool) → p x ≡ c → list_any p (cond b (x ∷ filter q xs) (filter q xs)) ≡ true → (list_any p (filter q xs) ≡ true → list_any p xs ≡ true) → (c || list_any p xs) ≡ true
  go b true f e rest = refl
  go true false f e rest = rest (rw f at e)
  go false false f e rest = rest e

-- two tests that agree on the elements
pub filter-by : {X : Type 0} (p q : X → Bool) (xs : List X) → ((x : X) → Contains xs x → p x ≡ q x) → filter p xs ≡ filter q xs
filter-by p q [] same = refl
filter-by {X} p q (x ∷ xs) same = go (p x) (q x) (same x (Contains-here x xs)) (filter-by p q xs (λ y in'. same y (Contains-later x xs y in'))) where
  go : (b c : Bool) → b ≡ c → filter p xs ≡ filter q xs → cond b (x ∷ filter p xs) (filter p xs) ≡ cond c (x ∷ filter q xs) (filter q xs)
  go true true e rest = ap (λ ys. x ∷ ys) rest
  go true false e rest = absurd (cc)
  go false true e rest = absurd (cc)
  go false false e rest = rest

-- what fails a test before, and what fails a later one of the rest, is what fails the later one of all
pub count-parts : {X : Type 0} (test before after : X → Bool) (f : X → X) → ((x : X) → test (f x) ≡ test x) → ((x : X) → after (f x) ≡ true → before x ≡ true) → (xs : List X)
    → count_by test (filter (λ x. not (before x)) xs) + count_by test (filter (λ x. not (after x)) (map f (filter before xs))) ≡ count_by test (filter (λ x. not (after x)) (map f xs))
count-parts test before after f same within [] = refl
count-parts {X} test before after f same within (x ∷ xs) = go (before x) refl (after (f x)) refl (count-parts test before after f same within xs) where
  was : List X
  was = filter (λ y. not (before y)) xs

  rest : List X
  rest = map f (filter before xs)

  all : List X
  all = map f xs

  go : (b : Bool) → before x ≡ b → (c : Bool) → after (f x) ≡ c → count_by test was + count_by test (filter (λ y. not (after y)) rest) ≡ count_by test (filter (λ y. not (after y)) all)
      → count_by test (cond (not b) (x ∷ was) was) + count_by test (filter (λ y. not (after y)) (map f (cond b (x ∷ filter before xs) (filter before xs)))) ≡ count_by test (cond (not c) (f x ∷ filter (λ y. not (after y)) all) (filter (λ y. not (after y)) all))
  go true e true h sum = rw h sum
  go true e false h sum =
      let one = count-cons test (f x) (filter (λ y. not (after y)) rest) in
      let other = count-cons test (f x) (filter (λ y. not (after y)) all) in
      rw h (omega arith)
  go false e true h sum = absurd (let yes = within x h in cc)
  go false e false h sum =
      let one = count-cons test x was in
      let other = count-cons test (f x) (filter (λ y. not (after y)) all) in
      let alike : cond {A = ℕ} (test (f x)) 1 0 ≡ cond {A = ℕ} (test x) 1 0 = ap (λ b. cond {A = ℕ} b 1 0) (same x) in omega arith
