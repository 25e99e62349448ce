-- Counts of plans less the plan of a copy.
use Rattle.std.proofs.Common.{◌≡◌, ℕ, ◌+◌, inl, inr, Bool, true, false, cond, not, List, [], ◌∷◌, filter, refl, ap, arith, All, AllPairs, Contains, subst}
use Rattle.std.specs.Prelude.{count_by}
use Rattle.std.proofs.lemmas.Bool.Decides.{nat_tests}
use Rattle.std.proofs.lemmas.List.Elements.{All-contains, All-head, All-tail, All-weaker}
use Rattle.tp_schedule.proofs.Membership.{Contains-cons_cases}
use Rattle.tp_schedule.proofs.Pairs.{AllPairs-head, AllPairs-tail}
use Rattle.tp_schedule.specs.Plans.{IsEarlier, change_plan, is_before, is_same_copy, without}
use Rattle.tp_schedule.specs.declared.parts.Plan.{Plan}
use Rattle.tp_schedule.specs.declared.parts.SheetId.{SheetId}
use Rattle.tp_stock.proofs.StockFacts.{count-cons}

-- lists less the plan of a copy
pub before-differs : (a b c : SheetId) → is_same_copy a c ≡ true → is_before a b ≡ true → is_same_copy b c ≡ false
before-differs a b c e f = grind (arith, nat_tests)

pub others-differ : (c : SheetId) (x : Plan) (l : List Plan) → AllPairs IsEarlier (x ∷ l) → is_same_copy x.sheet c ≡ true → All (λ q. is_same_copy q.sheet c ≡ false) l
others-differ c x l pairs e = All-weaker (IsEarlier x) (λ q. is_same_copy q.sheet c ≡ false) (λ q before. before-differs x.sheet q.sheet c e before) l (AllPairs-head IsEarlier x l pairs)

pub without-none : (c : SheetId) (l : List Plan) → All (λ q. is_same_copy q.sheet c ≡ false) l → without c l ≡ l
without-none c [] all = refl
without-none c (x ∷ l) all = rw (All-head (λ q. is_same_copy q.sheet c ≡ false) x l all) (ap (λ m. x ∷ m) (without-none c l (All-tail (λ q. is_same_copy q.sheet c ≡ false) x l all)))

pub count-without : (test : Plan → Bool) (c : SheetId) (plans : List Plan) (p : Plan) → AllPairs IsEarlier plans → Contains plans p → is_same_copy p.sheet c ≡ true
    → count_by test plans ≡ cond (test p) 1 0 + count_by test (without c plans)
count-without test c [] p pairs in' same = absurd (omega (arith, in'.1))
count-without test c (x ∷ l) p pairs in' same = go (is_same_copy x.sheet c) refl (λ later. count-without test c l p (AllPairs-tail IsEarlier x l pairs) later same) where
  all : count_by test (x ∷ l) ≡ cond (test x) 1 0 + count_by test l
  all = count-cons test x l

  go : (b : Bool) → is_same_copy x.sheet c ≡ b → (Contains l p → count_by test l ≡ cond (test p) 1 0 + count_by test (without c l)) → count_by test (x ∷ l) ≡ cond (test p) 1 0 + count_by test (cond (not b) (x ∷ without c l) (without c l))
  go true e more = elim (Contains-cons_cases x l p in') [
    | inl is ↦
        let none : count_by test (without c l) ≡ count_by test l = ap (count_by test) (without-none c l (others-differ c x l pairs e)) in
        let one : cond {A = ℕ} (test x) 1 0 ≡ cond {A = ℕ} (test p) 1 0 = ap (λ y. cond {A = ℕ} (test y) 1 0) is in
        let every = all in
        omega arith
    | inr later ↦ absurd (let differs = All-contains (λ (q : Plan). is_same_copy q.sheet c ≡ false) l p (others-differ c x l pairs e) later in cc)
  ]
  go false e more = elim (Contains-cons_cases x l p in') [
    | inl is ↦ absurd (let too : is_same_copy p.sheet c ≡ false = subst (λ (y : Plan). is_same_copy y.sheet c ≡ false) is e in cc)
    | inr later ↦
        let rest = more later in
        let some = count-cons test x (without c l) in
        let every = all in
        omega arith
  ]

pub lost-without : (test : Plan → Bool) (c : SheetId) (plans : List Plan) → All (λ p. is_same_copy p.sheet c ≡ true → test p ≡ false) plans → filter test (without c plans) ≡ filter test plans
lost-without test c [] all = refl
lost-without test c (p ∷ plans) all =
    go (is_same_copy p.sheet c) refl (All-head (λ p. is_same_copy p.sheet c ≡ true → test p ≡ false) p plans all)
    (lost-without test c plans (All-tail (λ p. is_same_copy p.sheet c ≡ true → test p ≡ false) p plans all)) where
      go : (b : Bool) → is_same_copy p.sheet c ≡ b → (is_same_copy p.sheet c ≡ true → test p ≡ false) → filter test (without c plans) ≡ filter test plans
          → filter test (cond (not b) (p ∷ without c plans) (without c plans)) ≡ cond (test p) (p ∷ filter test plans) (filter test plans)
      go true e none rest = rw (none e) rest
      go false e none rest = ap (λ l. cond (test p) (p ∷ l) l) rest

-- a change of the copy's plan that leaves its sheet and its goal
pub count-change : (c : SheetId) (f : Plan → Plan) (test : Plan → Bool) → ((p : Plan) → test (f p) ≡ test p) → (l : List Plan) → count_by test (change_plan c f l) ≡ count_by test l
count-change c f test same [] = refl
count-change c f test same (x ∷ l) = go (is_same_copy x.sheet c) (count-change c f test same l) where
  go : (b : Bool) → count_by test (change_plan c f l) ≡ count_by test l → count_by test (cond b (f x ∷ l) (x ∷ change_plan c f l)) ≡ count_by test (x ∷ l)
  go true rest =
      let a = count-cons test (f x) l in let b = count-cons test x l in
      let one : cond {A = ℕ} (test (f x)) 1 0 ≡ cond {A = ℕ} (test x) 1 0 = ap (λ k. cond {A = ℕ} k 1 0) (same x) in omega arith
  go false rest = let a = count-cons test x (change_plan c f l) in let b = count-cons test x l in omega arith
