-- Counts.
use Rattle.std.proofs.Common.{◌≡◌, ℕ, ◌+◌, ◌≤◌, inl, inr, Bool, true, false, cond, List, [], ◌∷◌, ◌++◌, refl, sym, ap, ◌∙◌, arith, Contains, subst}
use Rattle.std.specs.Prelude.{count_by}
use Rattle.std.proofs.lemmas.List.Sums.{sum_by-append}
use Rattle.tp_jobs.specs.WaitingCopies.{put_waiting}
use Rattle.tp_jobs.specs.declared.parts.WaitingCopy.{WaitingCopy}
use Rattle.tp_schedule.proofs.Membership.{Contains-cons_cases, Contains-here, Contains-later}
use Rattle.tp_schedule.specs.Plans.{is_before}

pub count-cons : {X : Type 0} (test : X → Bool) (x : X) (xs : List X) → count_by test (x ∷ xs) ≡ cond (test x) 1 0 + count_by test xs
count-cons test x xs = let both = sum_by-append (λ y. cond (test y) 1 0) (x ∷ []) xs in omega arith

pub count-append : {X : Type 0} (test : X → Bool) (xs ys : List X) → count_by test (xs ++ ys) ≡ count_by test xs + count_by test ys
count-append test xs ys = sum_by-append (λ y. cond (test y) 1 0) xs ys

one-where : (b : Bool) → b ≡ true → 1 ≤ cond b 1 0
one-where true e = omega arith
one-where false e = absurd (cc)

-- one that passes counts
pub count-one : {X : Type 0} (test : X → Bool) (xs : List X) (x : X) → Contains xs x → test x ≡ true → 1 ≤ count_by test xs
count-one test [] x in' e = absurd (omega (arith, in'.1))
count-one test (y ∷ xs) x in' e = elim (Contains-cons_cases y xs x in') [
  | inl is ↦ let all = count-cons test y xs in let one = one-where (test y) (subst (λ z. test z ≡ true) (sym is) e) in omega arith
  | inr later ↦ let all = count-cons test y xs in let rest = count-one test xs x later e in omega arith
]

-- and where none counts twice, two that pass are one
pub count-two : {X : Type 0} (test : X → Bool) (xs : List X) (x y : X) → count_by test xs ≤ 1 → Contains xs x → Contains xs y → test x ≡ true → test y ≡ true → x ≡ y
count-two test [] x y few in' in'' e f = absurd (omega (arith, in'.1))
count-two test (z ∷ xs) x y few in' in'' e f = elim (Contains-cons_cases z xs x in') [
  | inl is ↦ elim (Contains-cons_cases z xs y in'') [
    | inl is' ↦ sym is ∙ is'
    | inr later ↦ absurd (let all = count-cons test z xs in let one = one-where (test z) (subst (λ z. test z ≡ true) (sym is) e) in let rest = count-one test xs y later f in omega arith)
  ]
  | inr later ↦ elim (Contains-cons_cases z xs y in'') [
    | inl is' ↦ absurd (let all = count-cons test z xs in let one = one-where (test z) (subst (λ z. test z ≡ true) (sym is') f) in let rest = count-one test xs x later e in omega arith)
    | inr later' ↦ count-two test xs x y (let all = count-cons test z xs in omega arith) later later' e f
  ]
]

zero-more : (n : ℕ) → 0 + n ≡ n
zero-more n = omega arith

-- where one counts there is one that passes
pub count-some : {X : Type 0} (test : X → Bool) (xs : List X) → 1 ≤ count_by test xs → (x : X) × Contains xs x × (test x ≡ true)
count-some test [] e = absurd (omega arith)
count-some {X} test (x ∷ xs) e = go (test x) refl (count-cons test x xs) (count-some test xs) where
  go : (b : Bool) → test x ≡ b → count_by test (x ∷ xs) ≡ cond (test x) 1 0 + count_by test xs → (1 ≤ count_by test xs → (y : X) × Contains xs y × (test y ≡ true)) → (y : X) × Contains (x ∷ xs) y × (test y ≡ true)
  go true f all rest = (x, Contains-here x xs, f)
  go false f all rest =
      let none : count_by test (x ∷ xs) ≡ count_by test xs = all ∙ ap (λ b. cond b 1 0 + count_by test xs) f ∙ zero-more (count_by test xs) in
      let r = rest (omega arith) in (r.0, Contains-later x xs r.0 r.1, r.2)

pub count-put : (test : WaitingCopy → Bool) (w : WaitingCopy) (ws : List WaitingCopy) → count_by test (put_waiting ws w) ≡ cond (test w) 1 0 + count_by test ws
count-put test w [] = count-cons test w []
count-put test w (v ∷ ws) = go (is_before w.sheet v.sheet) (count-put test w ws) where
  go : (b : Bool) → count_by test (put_waiting ws w) ≡ cond (test w) 1 0 + count_by test ws → count_by test (cond b (w ∷ v ∷ ws) (v ∷ put_waiting ws w)) ≡ cond (test w) 1 0 + count_by test (v ∷ ws)
  go true e = count-cons test w (v ∷ ws)
  go false e = let a = count-cons test v (put_waiting ws w) in let b = count-cons test v ws in omega arith
