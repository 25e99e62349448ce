-- Counts of lists that are filtered or mapped.
use Rattle.std.proofs.Common.{◌≡◌, ℕ, ◌+◌, ◌≤◌, Bool, true, false, cond, ◌&&◌, List, [], ◌∷◌, map, filter, refl, ap, arith, Contains}
use Rattle.std.specs.Prelude.{count_by}
use Rattle.tp_schedule.proofs.Membership.{Contains-later, Contains-here}
use Rattle.tp_outage_laws.proofs.Counts.{count-cons}

-- those that are kept, counted
pub count-less : {X : Type 0} (test keep : X → Bool) (xs : List X) → count_by test (filter keep xs) ≤ count_by test xs
count-less test keep [] = omega arith
count-less test keep (x ∷ xs) = go (keep x) (count-less test keep xs) (count-cons test x xs) (count-cons test x (filter keep xs)) where
  go : (b : Bool) → count_by test (filter keep xs) ≤ count_by test xs → count_by test (x ∷ xs) ≡ cond (test x) 1 0 + count_by test xs → count_by test (x ∷ filter keep xs) ≡ cond (test x) 1 0 + count_by test (filter keep xs)
      → count_by test (cond b (x ∷ filter keep xs) (filter keep xs)) ≤ count_by test (x ∷ xs)
  go true rest a b = omega arith
  go false rest a b = omega arith

pub count-kept : {X : Type 0} (test keep : X → Bool) (xs : List X) → ((x : X) → test x ≡ true → keep x ≡ true) → count_by test (filter keep xs) ≡ count_by test xs
count-kept test keep [] each = refl
count-kept test keep (x ∷ xs) each = go (keep x) refl (test x) refl (count-kept test keep xs each) (count-cons test x xs) (count-cons test x (filter keep xs)) where
  go : (b : Bool) → keep x ≡ b → (t : Bool) → test x ≡ t → count_by test (filter keep xs) ≡ count_by test xs → count_by test (x ∷ xs) ≡ cond (test x) 1 0 + count_by test xs → count_by test (x ∷ filter keep xs) ≡ cond (test x) 1 0 + count_by test (filter keep xs)
      → count_by test (cond b (x ∷ filter keep xs) (filter keep xs)) ≡ count_by test (x ∷ xs)
  go true e t g rest a b = omega arith
  go false e true g rest a b = absurd (let no = each x g in cc)
  go false e false g rest a b =
      let none : cond {A = ℕ} (test x) 1 0 ≡ 0 = ap (λ t. cond {A = ℕ} t 1 0) g in omega arith

pub count-map : {X Y : Type 0} (test : Y → Bool) (f : X → Y) (xs : List X) → count_by test (map f xs) ≡ count_by (λ x. test (f x)) xs
count-map test f [] = refl
count-map test f (x ∷ xs) = let a = count-cons test (f x) (map f xs) in let b = count-cons (λ x. test (f x)) x xs in let rest = count-map test f xs in omega arith

pub count-filter : {X : Type 0} (test keep : X → Bool) (xs : List X) → count_by test (filter keep xs) ≡ count_by (λ x. keep x && test x) xs
count-filter test keep [] = refl
count-filter test keep (x ∷ xs) = go (keep x) refl (count-filter test keep xs) (count-cons test x (filter keep xs)) (count-cons (λ x. keep x && test x) x xs) where
  go : (b : Bool) → keep x ≡ b → count_by test (filter keep xs) ≡ count_by (λ x. keep x && test x) xs → count_by test (x ∷ filter keep xs) ≡ cond (test x) 1 0 + count_by test (filter keep xs)
      → count_by (λ x. keep x && test x) (x ∷ xs) ≡ cond (keep x && test x) 1 0 + count_by (λ x. keep x && test x) xs → count_by test (cond b (x ∷ filter keep xs) (filter keep xs)) ≡ count_by (λ x. keep x && test x) (x ∷ xs)
  go true e rest a b = let same : cond {A = ℕ} (keep x && test x) 1 0 ≡ cond {A = ℕ} (test x) 1 0 = ap (λ k. cond {A = ℕ} (k && test x) 1 0) e in omega arith
  go false e rest a b = let same : cond {A = ℕ} (keep x && test x) 1 0 ≡ 0 = ap (λ k. cond {A = ℕ} (k && test x) 1 0) e in omega arith

pub count-same : {X : Type 0} (p q : X → Bool) (xs : List X) → ((x : X) → Contains xs x → p x ≡ q x) → count_by p xs ≡ count_by q xs
count-same p q [] each = refl
count-same p q (x ∷ xs) each =
    let a = count-cons p x xs in let b = count-cons q x xs in
    let here : cond {A = ℕ} (p x) 1 0 ≡ cond {A = ℕ} (q x) 1 0 = ap (λ k. cond {A = ℕ} k 1 0) (each x (Contains-here x xs)) in
    let rest = count-same p q xs (λ y i. each y (Contains-later x xs y i)) in omega arith
