-- Members of lists.
use Rattle.std.proofs.Common.{◌≡◌, inl, inr, Bool, true, false, cond, ◌||◌, List, [], ◌∷◌, filter, refl, sym, ap, ◌∙◌, arith, Contains, subst, Some, None, find}
use Rattle.std.specs.List.{list_any}
use Rattle.tp_schedule.proofs.Membership.{Contains-cons_cases, Contains-here, Contains-later}
use Rattle.tp_schedule.proofs.CopyFacts.{same_copy-refl, same_copy-is}
use Rattle.tp_schedule.specs.Plans.{is_same_copy}
use Rattle.tp_schedule.specs.declared.parts.SheetId.{SheetId}

pub lost-any : (lost : List SheetId) (c : SheetId) → Contains lost c → list_any (is_same_copy c) lost ≡ true
lost-any [] c in' = absurd (omega (arith, in'.1))
lost-any (d ∷ lost) c in' = elim (Contains-cons_cases d lost c in') [
  | inl e ↦ (let same : is_same_copy c d ≡ true = subst (λ x. is_same_copy c x ≡ true) (sym e) (same_copy-refl c) in rw same refl)
  | inr later ↦ rw (lost-any lost c later) (or-true (is_same_copy c d))
] where
  or-true : (b : Bool) → (b || true) ≡ true
  or-true true = refl
  or-true false = refl

pub any-contains : (c : SheetId) (l : List SheetId) → list_any (is_same_copy c) l ≡ true → Contains l c
any-contains c [] e = absurd (cc)
any-contains c (d ∷ l) e = go (is_same_copy c d) refl e (any-contains c l) where
  go : (b : Bool) → is_same_copy c d ≡ b → (b || list_any (is_same_copy c) l) ≡ true → (list_any (is_same_copy c) l ≡ true → Contains l c) → Contains (d ∷ l) c
  go true f e rest = subst (λ x. Contains (d ∷ l) x) (sym (same_copy-is c d f)) (Contains-here d l)
  go false f e rest = Contains-later d l c (rest e)

pub filter-same : {X : Type 0} (p q : X → Bool) (xs : List X) → ((x : X) → Contains xs x → p x ≡ q x) → filter p xs ≡ filter q xs
filter-same p q [] each = refl
filter-same p q (x ∷ xs) each =
    ap (λ b. cond b (x ∷ filter p xs) (filter p xs)) (each x (Contains-here x xs)) ∙ ap (λ l. cond (q x) (x ∷ l) l) (filter-same p q xs (λ y i. each y (Contains-later x xs y i)))

-- where none is found, none passes
pub find-none : {X : Type 0} (test : X → Bool) (xs : List X) → find test xs ≡ None → (x : X) → Contains xs x → test x ≡ false
find-none test [] e x in' = absurd (omega (arith, in'.1))
find-none {X = X} test (y ∷ xs) e x in' = go (test y) refl e (find-none test xs) where
  go : (b : Bool) → test y ≡ b → cond b (Some y) (find test xs) ≡ None → (find test xs ≡ None → (x : X) → Contains xs x → test x ≡ false) → test x ≡ false
  go true f e rest = absurd (cc)
  go false f e rest = elim (Contains-cons_cases y xs x in') [
    | inl is ↦ subst (λ z. test z ≡ false) is f
    | inr later ↦ rest e x later
  ]
