-- Lemmas on lists that are of no subject here.
use Rattle.std.proofs.Common.{◌≡◌, ℕ, zero, suc, ◌+◌, ◌<◌, ◌≤◌, List, [], ◌∷◌, ◌++◌, length, take, drop, get_or, refl, sym, ap, subst, ◌∙◌, arith, append_assoc, add-one, All, Some, slice_get, Any, inl, inr, Bool, true, false, cond, filter}
use Rattle.std.proofs.lemmas.Bool.{cases_lt}
use Rattle.std.proofs.lemmas.List.{append-nil}
use Rattle.std.proofs.lemmas.List.Elements.{All-append, All-cons, All-nil, filter_more}

-- one element less behind, or one more in front
pub drop-one : {X : Type 0} (xs : List X) (n : ℕ) (x : X) → slice_get xs n ≡ Some x → drop n xs ≡ x ∷ drop (n + 1) xs
drop-one xs n x at = go xs n x at ∙ ap (λ k. x ∷ drop k xs) (sym (add-one n)) where
  go : {X : Type 0} (xs : List X) (n : ℕ) (x : X) → slice_get xs n ≡ Some x → drop n xs ≡ x ∷ drop (suc n) xs
  go [] n x at = absurd cc
  go (y ∷ xs) zero x at = let same : y ≡ x = cc in ap (λ z. z ∷ xs) same
  go (y ∷ xs) (suc n) x at = go xs n x at

pub take-one : {X : Type 0} (xs : List X) (n : ℕ) (x : X) → slice_get xs n ≡ Some x → take (n + 1) xs ≡ take n xs ++ x ∷ []
take-one xs n x at = ap (λ k. take k xs) (add-one n) ∙ go xs n x at where
  go : {X : Type 0} (xs : List X) (n : ℕ) (x : X) → slice_get xs n ≡ Some x → take (suc n) xs ≡ take n xs ++ x ∷ []
  go [] n x at = absurd cc
  go (y ∷ xs) zero x at = let same : y ≡ x = cc in ap (λ z. z ∷ []) same
  go (y ∷ xs) (suc n) x at = ap (λ ys. y ∷ ys) (go xs n x at)

-- a loop puts one piece more behind what it made so far
pub next-piece : {X : Type 0} (out new piece left rest whole : List X) → out ++ left ≡ whole → left ≡ piece ++ rest → new ≡ out ++ piece → new ++ rest ≡ whole
next-piece out new piece left rest whole was is made = ap (λ xs. xs ++ rest) made ∙ append_assoc out piece rest ∙ ap (λ xs. out ++ xs) (sym is) ∙ was

pub last-piece : {X : Type 0} (out left whole : List X) → left ≡ [] → out ++ left ≡ whole → out ≡ whole
last-piece out left whole none was = sym (append-nil out) ∙ ap (λ xs. out ++ xs) (sym none) ∙ was

pub All-more : {X : Type 0} (P : X → Type 0) (xs : List X) (n : ℕ) (x : X) → slice_get xs n ≡ Some x → All P (take n xs) → P x → All P (take (n + 1) xs)
All-more P xs n x at all one = subst (All P) (sym (take-one xs n x at)) (All-append P (take n xs) (x ∷ []) all (All-cons P x [] one (All-nil P)))

pub get-within : {X : Type 0} (xs : List X) (n : ℕ) (x : X) → slice_get xs n ≡ Some x → n < length xs
get-within [] n x e = absurd cc
get-within (y ∷ xs) zero x e = omega arith
get-within (y ∷ xs) (suc n) x e = let r = get-within xs n x e in omega arith

pub get-is : {X : Type 0} (xs : List X) (n : ℕ) (x d : X) → slice_get xs n ≡ Some x → get_or xs n d ≡ x
get-is [] n x d e = absurd cc
get-is (y ∷ xs) zero x d e = let same : y ≡ x = cc in same
get-is (y ∷ xs) (suc n) x d e = get-is xs n x d e

pub take-whole : {X : Type 0} (xs : List X) (n : ℕ) → length xs ≤ n → take n xs ≡ xs
take-whole [] zero le = refl
take-whole [] (suc n) le = refl
take-whole (x ∷ xs) zero le = absurd (omega arith)
take-whole (x ∷ xs) (suc n) le = ap (λ ys. x ∷ ys) (take-whole xs n (omega arith))

pub none-there : {X : Type 0} (xs : List X) → length xs ≡ 0 → xs ≡ []
none-there [] e = refl
none-there (x ∷ xs) e = absurd (omega arith)

-- an element of which something holds, and none among so many
pub any-at : {X : Type 0} (P : X → Type 0) (xs : List X) (k : ℕ) (x : X) → slice_get xs k ≡ Some x → P x → Any P xs
any-at P xs k x at p = (k, x, get-within xs k x at, get-is xs k x x at, p)

pub there-at : {X : Type 0} (xs : List X) (k : ℕ) (d : X) → k < length xs → slice_get xs k ≡ Some (get_or xs k d)
there-at [] k d less = absurd (omega (arith, less))
there-at (x ∷ xs) zero d less = refl
there-at (x ∷ xs) (suc k) d less = there-at xs k d (omega arith)

pub none-any : {X : Type 0} (P : X → Type 0) (xs : List X) (n : ℕ) → ((k : ℕ) (x : X) → k < n → slice_get xs k ≡ Some x → P x → ⊥) → length xs ≤ n → Any P xs → ⊥
none-any P xs n none le (k, x, within, is, p) = none k x (omega arith) (there-at xs k x within ∙ ap Some is) p

pub none-more : {X : Type 0} (P : X → Type 0) (xs : List X) (n : ℕ) (y : X) → slice_get xs n ≡ Some y → (P y → ⊥) → ((k : ℕ) (x : X) → k < n → slice_get xs k ≡ Some x → P x → ⊥)
    → (k : ℕ) (x : X) → k < n + 1 → slice_get xs k ≡ Some x → P x → ⊥
none-more P xs n y at not_one none k x less is p = elim (cases_lt k n) [
  | inl before ↦ none k x before is p
  | inr more ↦ (
      let same : k ≡ n = omega arith in
      let e : Some y ≡ Some x = sym at ∙ ap (slice_get xs) (sym same) ∙ is in
      let one : y ≡ x = cc in
      not_one (subst P (sym one) p))
]

-- one element more of which something is known
pub each-more : {X : Type 0} (P : ℕ → X → Type 0) (xs : List X) (n : ℕ) (y : X) → slice_get xs n ≡ Some y → P n y → ((k : ℕ) (x : X) → k < n → slice_get xs k ≡ Some x → P k x)
    → (k : ℕ) (x : X) → k < n + 1 → slice_get xs k ≡ Some x → P k x
each-more P xs n y at one all k x less is = elim (cases_lt k n) [
  | inl before ↦ all k x before is
  | inr more ↦ (
      let same : k ≡ n = omega arith in
      let e : Some y ≡ Some x = sym at ∙ ap (slice_get xs) (sym same) ∙ is in
      let it : y ≡ x = cc in
      subst (λ m. P m x) (sym same) (subst (P n) it one))
]

-- a loop looks at one element more, which the test lets pass or not
pub filter-kept : {X : Type 0} (p : X → Bool) (xs : List X) (n : ℕ) (d : X) (out : List X) → n < length xs → p (get_or xs n d) ≡ true → out ≡ filter p (take n xs) → out ++ get_or xs n d ∷ [] ≡ filter p (take (n + 1) xs)
filter-kept p xs n d out less kept was =
    ap (λ ys. ys ++ get_or xs n d ∷ []) was ∙ ap (λ b. filter p (take n xs) ++ cond b (get_or xs n d ∷ []) []) (sym kept) ∙ sym (filter_more p xs n d less)

pub filter-passed : {X : Type 0} (p : X → Bool) (xs : List X) (n : ℕ) (d : X) (out : List X) → n < length xs → p (get_or xs n d) ≡ false → out ≡ filter p (take n xs) → out ≡ filter p (take (n + 1) xs)
filter-passed p xs n d out less passed was =
    was ∙ sym (append-nil (filter p (take n xs))) ∙ ap (λ b. filter p (take n xs) ++ cond b (get_or xs n d ∷ []) []) (sym passed) ∙ sym (filter_more p xs n d less)
