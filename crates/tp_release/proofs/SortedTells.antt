-- A stable sort by moment gives what is reported by moment.
use Rattle.std.proofs.Common.{◌≡◌, ℕ, zero, suc, ◌<◌, ◌≤◌, Bool, true, false, cond, List, [], ◌∷◌, length, get_or, filter, nat_cmp, is_lt, nat_le, refl, sym, ap, ◌∙◌, arith, inl, inr, suc-le-suc, zero-le}
use Rattle.std.proofs.lemmas.Bool.{cond-true, cond-false, cases_Bool}
use Rattle.std.proofs.lemmas.Bool.Decides.{nat_tests}
use Rattle.std.specs.List.Sorted.{ties, IsNonDecreasingBy, IsStableByKey}
use Rattle.tp_event_rules.specs.Clock.{Told, by_moment, put_told}

-- of one moment
abbrev is_with : Told → Told → Bool
is_with = ties (λ t u. is_lt (nat_cmp t.at u.at))

ties_at : (m n : ℕ) → (ties (λ x y. is_lt (nat_cmp x y)) m n ≡ true → m ≡ n) × (m ≡ n → ties (λ x y. is_lt (nat_cmp x y)) m n ≡ true)
ties_at m n = (λ h. grind (arith, nat_tests), λ h. grind (arith, nat_tests))

with-true : (t u : Told) → is_with t u ≡ true → t.at ≡ u.at
with-true t u = (ties_at t.at u.at).0

with-from : (t u : Told) → t.at ≡ u.at → is_with t u ≡ true
with-from t u = (ties_at t.at u.at).1

filter-kept : (p : Told → Bool) (u : Told) (us : List Told) → p u ≡ true → filter p (u ∷ us) ≡ u ∷ filter p us
filter-kept p u us h = cond-true _ _ _ h

filter-dropped : (p : Told → Bool) (u : Told) (us : List Told) → p u ≡ false → filter p (u ∷ us) ≡ filter p us
filter-dropped p u us h = cond-false _ _ _ h

-- what is put in stands before all of its moment
filter-put : (x t : Told) (us : List Told) → filter (is_with x) (put_told t us) ≡ filter (is_with x) (t ∷ us)
filter-put x t [] = refl
filter-put x t (u ∷ us) = go (nat_le t.at u.at) refl (filter-put x t us) where
  past : u.at < t.at → (a b : Bool) → is_with x u ≡ a → is_with x t ≡ b → (F G : List Told) → F ≡ cond b (t ∷ G) G
      → cond a (u ∷ F) F ≡ cond b (t ∷ cond a (u ∷ G) G) (cond a (u ∷ G) G)
  past later true true e f F G rest = let s = with-true x u e in let r = with-true x t f in absurd (omega arith)
  past later true false e f F G rest = ap (λ l. u ∷ l) rest
  past later false true e f F G rest = rest
  past later false false e f F G rest = rest

  go : (b : Bool) → nat_le t.at u.at ≡ b → filter (is_with x) (put_told t us) ≡ filter (is_with x) (t ∷ us)
      → filter (is_with x) (cond b (t ∷ u ∷ us) (u ∷ put_told t us)) ≡ filter (is_with x) (t ∷ u ∷ us)
  go true e rest = refl
  go false e rest =
      let later : u.at < t.at = grind (arith, nat_tests) in
      past later (is_with x u) (is_with x t) refl refl (filter (is_with x) (put_told t us)) (filter (is_with x) us) rest

filter-by_moment : (x : Told) (ts : List Told) → filter (is_with x) (by_moment ts) ≡ filter (is_with x) ts
filter-by_moment x [] = refl
filter-by_moment x (t ∷ ts) = filter-put x t (by_moment ts) ∙ ap (λ l. cond (is_with x t) (t ∷ l) l) (filter-by_moment x ts)

-- none before the moment, and by moment
abbrev AreFrom : ℕ → List Told → Type 0
AreFrom n [] = Unit {0}
AreFrom n (t ∷ ts) = (n ≤ t.at) × AreFrom n ts

abbrev Rises : List Told → Type 0
Rises [] = Unit {0}
Rises (t ∷ ts) = AreFrom t.at ts × Rises ts

AreFrom-le : (n m : ℕ) (ts : List Told) → n ≤ m → AreFrom m ts → AreFrom n ts
AreFrom-le n m [] le h = tt
AreFrom-le n m (t ∷ ts) le h = let first = h.0 in (omega arith, AreFrom-le n m ts le h.1)

AreFrom-put : (n : ℕ) (t : Told) (us : List Told) → n ≤ t.at → AreFrom n us → AreFrom n (put_told t us)
AreFrom-put n t [] le h = (le, tt)
AreFrom-put n t (u ∷ us) le h = go (nat_le t.at u.at) (AreFrom-put n t us le h.1) where
  go : (b : Bool) → AreFrom n (put_told t us) → AreFrom n (cond b (t ∷ u ∷ us) (u ∷ put_told t us))
  go true rest = (le, h)
  go false rest = (h.0, rest)

Rises-put : (t : Told) (us : List Told) → Rises us → Rises (put_told t us)
Rises-put t [] h = (tt, tt)
Rises-put t (u ∷ us) h = go (nat_le t.at u.at) refl (Rises-put t us h.1) where
  go : (b : Bool) → nat_le t.at u.at ≡ b → Rises (put_told t us) → Rises (cond b (t ∷ u ∷ us) (u ∷ put_told t us))
  go true e rest = let le : t.at ≤ u.at = grind (arith, nat_tests) in ((le, AreFrom-le t.at u.at us le h.0), h)
  go false e rest = let le : u.at ≤ t.at = grind (arith, nat_tests) in (AreFrom-put u.at t us le h.0, rest)

Rises-by_moment : (ts : List Told) → Rises (by_moment ts)
Rises-by_moment [] = tt
Rises-by_moment (t ∷ ts) = Rises-put t (by_moment ts) (Rises-by_moment ts)

AreFrom-at : (n : ℕ) (ts : List Told) → ((j : ℕ) (d : Told) → j < length ts → n ≤ (get_or ts j d).at) → AreFrom n ts
AreFrom-at n [] h = tt
AreFrom-at n (t ∷ ts) h = (h zero t (suc-le-suc zero-le), AreFrom-at n ts (λ j d lt. h (suc j) d (suc-le-suc lt)))

Rises-sorted : (ts : List Told) → IsNonDecreasingBy (λ t. t.at) ts → Rises ts
Rises-sorted [] h = tt
Rises-sorted (t ∷ ts) h = (
  AreFrom-at t.at ts (λ j d lt. h zero (suc j) d zero-le (suc-le-suc lt)),
  Rises-sorted ts (λ i j d le lt. h (suc i) (suc j) d (suc-le-suc le) (suc-le-suc lt)),
)

-- one of the moment stands among them
AreFrom-found : (n : ℕ) (x : Told) (ts : List Told) (w : Told) (ws : List Told) → AreFrom n ts → filter (is_with x) ts ≡ w ∷ ws → n ≤ x.at
AreFrom-found n x [] w ws h e = absurd cc
AreFrom-found n x (t ∷ ts) w ws h e =
    elim (cases_Bool (is_with x t)) [
      | inl with ↦ (let s = with-true x t with in let le = h.0 in omega arith)
      | inr without ↦ AreFrom-found n x ts w ws h.1 (sym (filter-dropped (is_with x) t ts without) ∙ e)
    ]

-- two lists by moment with the same at each moment are one
same_from_moments : (ts us : List Told) → Rises ts → Rises us → ((x : Told) → filter (is_with x) ts ≡ filter (is_with x) us) → ts ≡ us
same_from_moments [] [] left right same = refl
same_from_moments [] (u ∷ us) left right same =
    let clash = same u ∙ filter-kept (is_with u) u us (with-from u u refl) in absurd cc
same_from_moments (t ∷ ts) [] left right same =
    let clash = sym (same t) ∙ filter-kept (is_with t) t ts (with-from t t refl) in absurd cc
same_from_moments (t ∷ ts) (u ∷ us) left right same =
    let at_t = filter-kept (is_with t) t ts (with-from t t refl) in
    let at_u = filter-kept (is_with u) u us (with-from u u refl) in
    let up = AreFrom-found u.at t (u ∷ us) t _ (omega arith, right.0) (sym (same t) ∙ at_t) in
    let down = AreFrom-found t.at u (t ∷ ts) u _ (omega arith, left.0) (same u ∙ at_u) in
    let heads = sym at_t ∙ same t ∙ filter-kept (is_with t) u us (with-from t u (omega arith)) in
    let head : t ≡ u = cc in
    let tails : (x : Told) → filter (is_with x) ts ≡ filter (is_with x) us =
    λ x. elim (cases_Bool (is_with x t)) [
      | inl with ↦
          let both = sym (filter-kept (is_with x) t ts with) ∙ same x ∙ filter-kept (is_with x) u us (ap (is_with x) (sym head) ∙ with) in cc
      | inr without ↦
          sym (filter-dropped (is_with x) t ts without) ∙ same x ∙ filter-dropped (is_with x) u us (ap (is_with x) (sym head) ∙ without)
    ] in
    ap (λ w. w ∷ ts) head ∙ ap (λ l. u ∷ l) (same_from_moments ts us left.1 right.1 tails)

pub by_moment-sorted : (ts us : List Told) → IsNonDecreasingBy (λ t. t.at) us → IsStableByKey (λ t. t.at) nat_cmp ts us → us ≡ by_moment ts
by_moment-sorted ts us sorted stable =
    same_from_moments us (by_moment ts) (Rises-sorted us sorted) (Rises-by_moment ts) (λ x. stable x ∙ sym (filter-by_moment x ts))
