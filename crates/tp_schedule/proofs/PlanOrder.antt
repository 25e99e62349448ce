-- A plan put in its place keeps the order of copies, and what is known of earlier and later plans.
use Rattle.std.proofs.Common.{None, Option, Some, sym, IsSome, ◌≡◌, ◌⊎◌, inl, inr, Bool, true, false, cond, not, List, [], ◌∷◌, refl, ap, arith, Contains, All, AllPairs, subst, get_or, IsTrue}
use Rattle.std.proofs.lemmas.List.Elements.{All-cons, All-head, All-tail, All-nil, All-contains}
use Rattle.tp_schedule.proofs.CopyFacts.{before-not_same', same_copy-is, InOrder, before-asym, NotOf, before-trans, before-other}
use Rattle.tp_schedule.proofs.Pairs.{AllPairs-head, AllPairs-tail, AllPairs-cons}
use Rattle.tp_schedule.specs.Plans.{change_plan, plan_of, without, put_plan, is_same_copy, is_before}
use Rattle.tp_schedule.specs.declared.parts.Plan.{Plan}
use Rattle.tp_schedule.specs.declared.parts.SheetId.{SheetId}
use Rattle.tp_schedule.proofs.Membership.{Contains-here, Contains-cons_cases, Contains-later, All-from_contains, Contains-filter_from}

abbrev Before : Plan → Plan → Type 0
Before p q = IsTrue (is_before p.sheet q.sheet)

pub All-put_plan : (P : Plan → Type 0) (p : Plan) (xs : List Plan) → P p → All P xs → All P (put_plan p xs)
All-put_plan P p [] one all = All-cons P p [] one all
All-put_plan P p (q ∷ xs) one all = go (is_before p.sheet q.sheet) (All-put_plan P p xs one (All-tail P q xs all)) where
  go : (b : Bool) → All P (put_plan p xs) → All P (cond b (p ∷ q ∷ xs) (q ∷ put_plan p xs))
  go true rest = All-cons P p (q ∷ xs) one all
  go false rest = All-cons P q (put_plan p xs) (All-head P q xs all) rest

-- a relation of earlier to later plans, with one more plan in its place
pub AllPairs-put_plan : (R : Plan → Plan → Type 0) (p : Plan) (xs : List Plan) → InOrder xs → All (NotOf p.sheet) xs → AllPairs R xs
    → ((q : Plan) → Contains xs q → is_before p.sheet q.sheet ≡ true → R p q) → ((q : Plan) → Contains xs q → is_before q.sheet p.sheet ≡ true → R q p) → AllPairs R (put_plan p xs)
AllPairs-put_plan R p [] in_order others_not_on pairs after before = AllPairs-cons R p [] (All-nil (R p)) pairs
AllPairs-put_plan R p (q ∷ xs) in_order others_not_on pairs after before =
    go (is_before p.sheet q.sheet) refl (AllPairs-put_plan R p xs (AllPairs-tail Before q xs in_order) (All-tail (NotOf p.sheet) q xs others_not_on) (AllPairs-tail R q xs pairs)
    (λ r in'. after r (Contains-later q xs r in')) (λ r in'. before r (Contains-later q xs r in'))) where
      go : (b : Bool) → is_before p.sheet q.sheet ≡ b → AllPairs R (put_plan p xs) → AllPairs R (cond b (p ∷ q ∷ xs) (q ∷ put_plan p xs))
      go true e rest =
          AllPairs-cons R p (q ∷ xs)
          (All-cons (R p) q xs (after q (Contains-here q xs) e)
          (All-from_contains (R p) xs (λ r in'. after r (Contains-later q xs r in') (before-trans p.sheet q.sheet r.sheet e (All-contains (Before q) xs r (AllPairs-head Before q xs in_order) in')))))
          pairs
      go false e rest =
          AllPairs-cons R q (put_plan p xs)
          (All-put_plan (R q) p xs (before q (Contains-here q xs) (before-other p.sheet q.sheet e (All-head (NotOf p.sheet) q xs others_not_on))) (AllPairs-head R q xs pairs)) rest

pub InOrder-put_plan : (p : Plan) (xs : List Plan) → InOrder xs → All (NotOf p.sheet) xs → InOrder (put_plan p xs)
InOrder-put_plan p xs in_order others_not_on = AllPairs-put_plan Before p xs in_order others_not_on in_order (λ q in' e. e) (λ q in' e. e)

pub Contains-put_plan_cases : (p : Plan) (xs : List Plan) (r : Plan) → Contains (put_plan p xs) r → (p ≡ r) ⊎ Contains xs r
Contains-put_plan_cases p [] r in' = Contains-cons_cases p [] r in'
Contains-put_plan_cases p (q ∷ xs) r in' = go (is_before p.sheet q.sheet) in' (Contains-put_plan_cases p xs r) where
  go : (b : Bool) → Contains (cond b (p ∷ q ∷ xs) (q ∷ put_plan p xs)) r → (Contains (put_plan p xs) r → (p ≡ r) ⊎ Contains xs r) → (p ≡ r) ⊎ Contains (q ∷ xs) r
  go true in'' rest = Contains-cons_cases p (q ∷ xs) r in''
  go false in'' rest = elim (Contains-cons_cases q (put_plan p xs) r in'') [
    | inl e ↦ inr (subst (Contains (q ∷ xs)) e (Contains-here q xs))
    | inr later ↦ elim (rest later) [ inl e ↦ inl e | inr in-xs ↦ inr (Contains-later q xs r in-xs) ]
  ]

pub Contains-put_plan : (p : Plan) (xs : List Plan) → Contains (put_plan p xs) p
Contains-put_plan p [] = Contains-here p []
Contains-put_plan p (q ∷ xs) = go (is_before p.sheet q.sheet) (Contains-put_plan p xs) where
  go : (b : Bool) → Contains (put_plan p xs) p → Contains (cond b (p ∷ q ∷ xs) (q ∷ put_plan p xs)) p
  go true rest = Contains-here p (q ∷ xs)
  go false rest = Contains-later q (put_plan p xs) p rest

pub Contains-put_plan_other : (p : Plan) (xs : List Plan) (r : Plan) → Contains xs r → Contains (put_plan p xs) r
Contains-put_plan_other p [] r in' = absurd (omega (arith, in'.1))
Contains-put_plan_other p (q ∷ xs) r in' = go (is_before p.sheet q.sheet) (Contains-put_plan_other p xs r) where
  go : (b : Bool) → (Contains xs r → Contains (put_plan p xs) r) → Contains (cond b (p ∷ q ∷ xs) (q ∷ put_plan p xs)) r
  go true rest = Contains-later p (q ∷ xs) r in'
  go false rest = elim (Contains-cons_cases q xs r in') [
    | inl e ↦ subst (Contains (q ∷ put_plan p xs)) e (Contains-here q (put_plan p xs))
    | inr later ↦ Contains-later q (put_plan p xs) r (rest later)
  ]

pub without-put_plan : (p : Plan) (xs : List Plan) → All (NotOf p.sheet) xs → is_same_copy p.sheet p.sheet ≡ true → without p.sheet (put_plan p xs) ≡ xs
without-put_plan p [] all same = rw same refl
without-put_plan p (q ∷ xs) all same = go (is_before p.sheet q.sheet) (without-put_plan p xs (All-tail (NotOf p.sheet) q xs all) same) where
  alone : (ys : List Plan) → All (NotOf p.sheet) ys → without p.sheet ys ≡ ys
  alone [] all' = refl
  alone (y ∷ ys) all' = rw (All-head (NotOf p.sheet) y ys all') (ap (λ zs. y ∷ zs) (alone ys (All-tail (NotOf p.sheet) y ys all')))

  go : (b : Bool) → without p.sheet (put_plan p xs) ≡ xs → without p.sheet (cond b (p ∷ q ∷ xs) (q ∷ put_plan p xs)) ≡ q ∷ xs
  go true rest = rw same (alone (q ∷ xs) all)
  go false rest = rw (All-head (NotOf p.sheet) q xs all) (ap (λ zs. q ∷ zs) rest)

pub All-without : (copy : SheetId) (xs : List Plan) → All (NotOf copy) (without copy xs)
All-without copy xs = All-from_contains (NotOf copy) (without copy xs) (λ q in'. false_of (is_same_copy q.sheet copy) (Contains-filter_from (λ r. not (is_same_copy r.sheet copy)) xs q in').1) where
  false_of : (b : Bool) → not b ≡ true → b ≡ false
  false_of true e = absurd (cc)
  false_of false e = refl

-- a plan put in the place of its copy's old one
pub put-without : (q : Plan) (plans : List Plan) (old : Plan) → InOrder plans → plan_of q.sheet plans ≡ Some old → put_plan q (without q.sheet plans) ≡ change_plan q.sheet (λ _. q) plans
put-without q [] old in_order e = absurd (cc)
put-without q (p ∷ plans) old in_order e =
    go (is_same_copy p.sheet q.sheet) refl e (put-without q plans old (AllPairs-tail Before p plans in_order)) where
      first : (ps : List Plan) → All (λ r. is_before q.sheet r.sheet ≡ true) ps → put_plan q ps ≡ q ∷ ps
      first [] all = refl
      first (r ∷ ps) all = rw (All-head (λ s. is_before q.sheet s.sheet ≡ true) r ps all) refl

      behind : (ps : List Plan) (o : Plan) → plan_of q.sheet ps ≡ Some o → All (λ r. is_before p.sheet r.sheet ≡ true) ps → is_before p.sheet q.sheet ≡ true
      behind [] o none all = absurd (cc)
      behind (r ∷ ps) o some all = pick (is_same_copy r.sheet q.sheet) refl some (behind ps o) where
        pick : (b : Bool) → is_same_copy r.sheet q.sheet ≡ b → cond b (Some r) (plan_of q.sheet ps) ≡ Some o
            → (plan_of q.sheet ps ≡ Some o → All (λ s. is_before p.sheet s.sheet ≡ true) ps → is_before p.sheet q.sheet ≡ true) → is_before p.sheet q.sheet ≡ true
        pick true same some' rest = subst (λ c. is_before p.sheet c ≡ true) (same_copy-is r.sheet q.sheet same) (All-head (λ s. is_before p.sheet s.sheet ≡ true) r ps all)
        pick false other some' rest = rest some' (All-tail (λ s. is_before p.sheet s.sheet ≡ true) r ps all)

      go : (b : Bool) → is_same_copy p.sheet q.sheet ≡ b → cond b (Some p) (plan_of q.sheet plans) ≡ Some old
          → (plan_of q.sheet plans ≡ Some old → put_plan q (without q.sheet plans) ≡ change_plan q.sheet (λ _. q) plans)
          → put_plan q (cond (not b) (p ∷ without q.sheet plans) (without q.sheet plans)) ≡ cond b (q ∷ plans) (p ∷ change_plan q.sheet (λ _. q) plans)
      go true same some rest =
          let is : p.sheet ≡ q.sheet = same_copy-is p.sheet q.sheet same in
          let after : All (λ r. is_before q.sheet r.sheet ≡ true) plans = λ k d within. subst (λ c. is_before c (get_or plans k d).sheet ≡ true) is (AllPairs-head Before p plans in_order k d within) in
          let alone : without q.sheet plans ≡ plans = filter-passes plans after in
          rw alone (first plans after) where
            filter-passes : (ps : List Plan) → All (λ r. is_before q.sheet r.sheet ≡ true) ps → without q.sheet ps ≡ ps
            filter-passes [] all = refl
            filter-passes (r ∷ ps) all = rw (before-not_same' q.sheet r.sheet (All-head (λ s. is_before q.sheet s.sheet ≡ true) r ps all)) (ap (λ xs. r ∷ xs) (filter-passes ps (All-tail (λ s. is_before q.sheet s.sheet ≡ true) r ps all)))
      go false other some rest =
          let before : is_before p.sheet q.sheet ≡ true = behind plans old some (AllPairs-head Before p plans in_order) in
          let not-after : is_before q.sheet p.sheet ≡ false = before-asym p.sheet q.sheet before in
          rw not-after (ap (λ xs. p ∷ xs) (rest some))

-- and so where it is known to have one
pub put-in_place : (q : Plan) (plans : List Plan) → InOrder plans → IsSome (plan_of q.sheet plans) → change_plan q.sheet (λ _. q) plans ≡ put_plan q (without q.sheet plans)
put-in_place q plans in_order planned = go (plan_of q.sheet plans) refl planned where
  go : (o : Option Plan) → plan_of q.sheet plans ≡ o → IsSome o → change_plan q.sheet (λ _. q) plans ≡ put_plan q (without q.sheet plans)
  go None is planned' = absurd cc
  go (Some old) is planned' = sym (put-without q plans old in_order is)

-- without a copy that has no plan they are all
pub without-none : (copy : SheetId) (plans : List Plan) → plan_of copy plans ≡ None → without copy plans ≡ plans
without-none copy [] none = refl
without-none copy (q ∷ plans) none = go (is_same_copy q.sheet copy) none (without-none copy plans) where
  go : (b : Bool) → cond b (Some q) (plan_of copy plans) ≡ None → (plan_of copy plans ≡ None → without copy plans ≡ plans) → cond (not b) (q ∷ without copy plans) (without copy plans) ≡ q ∷ plans
  go true none' rest = absurd cc
  go false none' rest = ap (λ ps. q ∷ ps) (rest none')
