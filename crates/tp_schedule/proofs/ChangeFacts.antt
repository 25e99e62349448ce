-- A plan is changed by a write at its place.
use Rattle.std.proofs.Common.{◌+◌, ◌≡◌, ℕ, suc, ◌<◌, ◌≤◌, Bool, true, false, cond, List, [], ◌∷◌, set, get_or, length, position, Some, None, IsSome, IsSomeAnd, All, refl, ap, arith, sym, ◌∙◌, subst}
use Rattle.std.specs.List.{position_or_len}
use Rattle.std.proofs.lemmas.Bool.Decides.{nat_tests}
use Rattle.std.proofs.Math.Numerals.{one-add}
use Rattle.tp_schedule.specs.declared.parts.Plan.{Plan}
use Rattle.tp_schedule.specs.declared.parts.SheetId.{SheetId}
use Rattle.std.proofs.lemmas.List.{length-take-le}
use Rattle.tp_schedule.specs.Plans.{is_same_copy, change_plan, plan_of, cut_to, with_points, with_released, IsFormed}
use Rattle.std.proofs.lemmas.List.Elements.{All-cons, All-head, All-tail}
use Rattle.tp_schedule.proofs.CopyFacts.{same_copy-is}
use Rattle.std.specs.Prelude.{AllPairs}
use Rattle.std.proofs.lemmas.List.Elements.{All-nil}
use Rattle.tp_schedule.specs.Plans.{is_before, put_plan, IsEarlier}
use Rattle.tp_schedule.specs.Timetables.{IsOrdered}
use Rattle.tp_schedule.proofs.CopyFacts.{NotOf}
use Rattle.tp_schedule.proofs.Pairs.{AllPairs-head, AllPairs-tail, AllPairs-cons}
use Rattle.tp_schedule.proofs.PlanOrder.{All-put_plan, InOrder-put_plan}

abbrev is_of : SheetId → Plan → Bool
is_of copy p = is_same_copy p.sheet copy

set-change_plan : (copy : SheetId) (f : Plan → Plan) (plans : List Plan) (d : Plan) → set plans (position_or_len (is_of copy) plans) (f (get_or plans (position_or_len (is_of copy) plans) d)) ≡ change_plan copy f plans
set-change_plan copy f [] d = refl
set-change_plan copy f (p ∷ plans) d = go (is_same_copy p.sheet copy) refl (set-change_plan copy f plans d) where
  go : (b : Bool) → is_same_copy p.sheet copy ≡ b → set plans (position_or_len (is_of copy) plans) (f (get_or plans (position_or_len (is_of copy) plans) d)) ≡ change_plan copy f plans
      → set (p ∷ plans) (position_or_len (is_of copy) (p ∷ plans)) (f (get_or (p ∷ plans) (position_or_len (is_of copy) (p ∷ plans)) d)) ≡ change_plan copy f (p ∷ plans)
  go true e rest = rw e refl
  go false e rest = rw (e, one-add) (ap (λ ps. p ∷ ps) rest)

position-Some_is : {X : Type 0} (t : X → Bool) (xs : List X) (i : ℕ) → Some i ≡ position t xs → position_or_len t xs ≡ i
position-Some_is t xs i e = grind (arith, nat_tests)

pub change_plan-at : (copy : SheetId) (f : Plan → Plan) (plans : List Plan) (i : ℕ) (p : Plan) → Some i ≡ position (λ q. is_same_copy q.sheet copy) plans → p ≡ get_or plans i p → set plans i (f p) ≡ change_plan copy f plans
change_plan-at copy f plans i p at is =
    let place = position-Some_is (is_of copy) plans i at in
    ap (λ q. set plans i (f q)) is ∙ subst (λ k. set plans k (f (get_or plans k p)) ≡ change_plan copy f plans) place (set-change_plan copy f plans p)

find-place : (copy : SheetId) (plans : List Plan) (d : Plan) → position_or_len (is_of copy) plans < length plans → plan_of copy plans ≡ Some (get_or plans (position_or_len (is_of copy) plans) d)
find-place copy [] d within = absurd (omega (arith, within))
find-place copy (p ∷ plans) d within = go (is_same_copy p.sheet copy) refl (find-place copy plans d) within where
  go : (b : Bool) → is_same_copy p.sheet copy ≡ b → (position_or_len (is_of copy) plans < length plans → plan_of copy plans ≡ Some (get_or plans (position_or_len (is_of copy) plans) d)) → position_or_len (is_of copy) (p ∷ plans) < length (p ∷ plans)
      → plan_of copy (p ∷ plans) ≡ Some (get_or (p ∷ plans) (position_or_len (is_of copy) (p ∷ plans)) d)
  go true e rest in' = rw e refl
  go false e rest in' = let in'' : position_or_len (is_of copy) plans < length plans = omega (arith, rw e at in') in rw (e, one-add) (rest in'')

pub plan_of-at : (copy : SheetId) (plans : List Plan) (i : ℕ) (p : Plan) → Some i ≡ position (λ q. is_same_copy q.sheet copy) plans → i < length plans → p ≡ get_or plans i p → plan_of copy plans ≡ Some p
plan_of-at copy plans i p at within is =
    let place = position-Some_is (is_of copy) plans i at in
    let found = find-place copy plans p (omega (arith, place, within)) in
    found ∙ ap Some (subst (λ k. get_or plans k p ≡ p) (sym place) (sym is))

none-place : (copy : SheetId) (plans : List Plan) → plan_of copy plans ≡ None → position_or_len (is_of copy) plans ≡ length plans
none-place copy [] none = refl
none-place copy (p ∷ plans) none = go (is_same_copy p.sheet copy) refl (none-place copy plans) none where
  go : (b : Bool) → is_same_copy p.sheet copy ≡ b → (plan_of copy plans ≡ None → position_or_len (is_of copy) plans ≡ length plans) → plan_of copy (p ∷ plans) ≡ None → position_or_len (is_of copy) (p ∷ plans) ≡ length (p ∷ plans)
  go true e rest none' = let bad = rw e at none' in cc
  go false e rest none' = rw (e, one-add) (ap suc (rest (rw e at none')))

-- a plan that keeps its number of points keeps its form
pub IsFormed-with_points : (p : Plan) (points : List ℕ) → IsFormed p → length points ≡ length p.points → IsFormed (with_points points p)
IsFormed-with_points p points formed same = record { some = formed.some; one_more = same ∙ formed.one_more; released = formed.released }

planned-place : (copy : SheetId) (plans : List Plan) → IsSome (plan_of copy plans) → position_or_len (is_of copy) plans < length plans
planned-place copy [] h = absurd (cc)
planned-place copy (p ∷ plans) h = go (is_same_copy p.sheet copy) refl h (planned-place copy plans) where
  go : (b : Bool) → is_same_copy p.sheet copy ≡ b → IsSome (cond b (Some p) (plan_of copy plans)) → (IsSome (plan_of copy plans) → position_or_len (is_of copy) plans < length plans) → position_or_len (is_of copy) (p ∷ plans) < length (p ∷ plans)
  go true e h' rest = rw e (omega arith)
  go false e h' rest = rw e (omega (arith, rest h'))

-- a copy that has a plan has a place
pub planned-has_place : (copy : SheetId) (plans : List Plan) → IsSome (plan_of copy plans) → None ≡ position (λ q. is_same_copy q.sheet copy) plans → ⊥
planned-has_place copy plans h none = let within = planned-place copy plans h in grind (arith, nat_tests)

-- the plan of a copy is of that copy
pub plan_of-sheet : (copy : SheetId) (plans : List Plan) (p : Plan) → plan_of copy plans ≡ Some p → p.sheet ≡ copy
plan_of-sheet copy [] p is = absurd (cc)
plan_of-sheet copy (q ∷ plans) p is = go (is_same_copy q.sheet copy) refl is (plan_of-sheet copy plans p) where
  go : (b : Bool) → is_same_copy q.sheet copy ≡ b → cond b (Some q) (plan_of copy plans) ≡ Some p → (plan_of copy plans ≡ Some p → p.sheet ≡ copy) → p.sheet ≡ copy
  go true e is' rest = let same : q ≡ p = cc in subst (λ (r : Plan). r.sheet ≡ copy) same (same_copy-is q.sheet copy e)
  go false e is' rest = rest is'

-- a change of the plan that is there is the change of the copy's plan
change_plan-same : (copy : SheetId) (f : Plan → Plan) (plans : List Plan) (p : Plan) → plan_of copy plans ≡ Some p → change_plan copy (λ _. f p) plans ≡ change_plan copy f plans
change_plan-same copy f [] p is = refl
change_plan-same copy f (q ∷ plans) p is = go (is_same_copy q.sheet copy) is (change_plan-same copy f plans p) where
  go : (b : Bool) → cond b (Some q) (plan_of copy plans) ≡ Some p → (plan_of copy plans ≡ Some p → change_plan copy (λ _. f p) plans ≡ change_plan copy f plans)
      → cond b (f p ∷ plans) (q ∷ change_plan copy (λ _. f p) plans) ≡ cond b (f q ∷ plans) (q ∷ change_plan copy f plans)
  go true is' rest = let same : q ≡ p = cc in ap (λ r. f r ∷ plans) (sym same)
  go false is' rest = ap (λ ps. q ∷ ps) (rest is')

pub change_plan-there : (copy : SheetId) (f : Plan → Plan) (plans : List Plan) (p : Plan) → plan_of copy plans ≡ Some p → (f p).sheet ≡ p.sheet → change_plan (f p).sheet (λ _. f p) plans ≡ change_plan copy f plans
change_plan-there copy f plans p is same =
    let sheet : (f p).sheet ≡ copy = same ∙ plan_of-sheet copy plans p is in
    ap (λ c. change_plan c (λ _. f p) plans) sheet ∙ change_plan-same copy f plans p is

All-change_plan : (P : Plan → Type 0) (copy : SheetId) (plans : List Plan) (q : Plan) → All P plans → ((p : Plan) → is_same_copy p.sheet copy ≡ true → P p → P q) → All P (change_plan copy (λ _. q) plans)
All-change_plan P copy [] q all one = all
All-change_plan P copy (p ∷ plans) q all one = go (is_same_copy p.sheet copy) refl (All-change_plan P copy plans q (All-tail P p plans all) one) where
  go : (b : Bool) → is_same_copy p.sheet copy ≡ b → All P (change_plan copy (λ _. q) plans) → All P (cond b (q ∷ plans) (p ∷ change_plan copy (λ _. q) plans))
  go true e rest = All-cons P q plans (one p e (All-head P p plans all)) (All-tail P p plans all)
  go false e rest = All-cons P p (change_plan copy (λ _. q) plans) (All-head P p plans all) rest

in_order-change_plan : (plans : List Plan) (q : Plan) → AllPairs IsEarlier plans → AllPairs IsEarlier (change_plan q.sheet (λ _. q) plans)
in_order-change_plan [] q in_order = in_order
in_order-change_plan (p ∷ plans) q in_order = go (is_same_copy p.sheet q.sheet) refl (in_order-change_plan plans q (AllPairs-tail IsEarlier p plans in_order)) where
  same : (r s : Plan) → is_same_copy r.sheet q.sheet ≡ true → IsEarlier s r → IsEarlier s q
  same r s e before = subst (λ (c : SheetId). is_before s.sheet c ≡ true) (same_copy-is r.sheet q.sheet e) before

  go : (b : Bool) → is_same_copy p.sheet q.sheet ≡ b → AllPairs IsEarlier (change_plan q.sheet (λ _. q) plans) → AllPairs IsEarlier (cond b (q ∷ plans) (p ∷ change_plan q.sheet (λ _. q) plans))
  go true e rest =
      AllPairs-cons IsEarlier q plans (λ k d within. subst (λ (c : SheetId). is_before c (get_or plans k d).sheet ≡ true) (same_copy-is p.sheet q.sheet e) (AllPairs-head IsEarlier p plans in_order k d within))
      (AllPairs-tail IsEarlier p plans in_order)
  go false e rest =
      AllPairs-cons IsEarlier p (change_plan q.sheet (λ _. q) plans)
      (All-change_plan (IsEarlier p) q.sheet plans q (AllPairs-head IsEarlier p plans in_order) (λ r e' before. same r p e' before)) rest

-- a change of one plan to another in its form keeps the order of copies
pub IsOrdered-change_plan : (plans : List Plan) (q : Plan) → IsOrdered plans → IsFormed q → IsOrdered (change_plan q.sheet (λ _. q) plans)
IsOrdered-change_plan plans q ordered one = record {
  formed = All-change_plan IsFormed q.sheet plans q ordered.formed (λ p e h. one);
  in_order = in_order-change_plan plans q ordered.in_order;
}

not_of : (copy : SheetId) (plans : List Plan) → plan_of copy plans ≡ None → All (NotOf copy) plans
not_of copy [] none = All-nil (NotOf copy)
not_of copy (p ∷ plans) none = go (is_same_copy p.sheet copy) refl none (not_of copy plans) where
  go : (b : Bool) → is_same_copy p.sheet copy ≡ b → cond b (Some p) (plan_of copy plans) ≡ None → (plan_of copy plans ≡ None → All (NotOf copy) plans) → All (NotOf copy) (p ∷ plans)
  go true e none' rest = absurd (cc)
  go false e none' rest = All-cons (NotOf copy) p plans e (rest none')

-- one more plan in its form, in its copy's place, keeps the order of copies
pub IsOrdered-put_plan : (plans : List Plan) (p : Plan) → IsOrdered plans → IsFormed p → plan_of p.sheet plans ≡ None → IsOrdered (put_plan p plans)
IsOrdered-put_plan plans p ordered one none = record {
  formed = All-put_plan IsFormed p plans one ordered.formed;
  in_order = InOrder-put_plan p plans ordered.in_order (not_of p.sheet plans none);
}

-- the plan of a copy is one of the plans
pub All-plan_of : (P : Plan → Type 0) (copy : SheetId) (plans : List Plan) (p : Plan) → All P plans → plan_of copy plans ≡ Some p → P p
All-plan_of P copy [] p all is = absurd (cc)
All-plan_of P copy (q ∷ plans) p all is = go (is_same_copy q.sheet copy) is (All-plan_of P copy plans p (All-tail P q plans all)) where
  go : (b : Bool) → cond b (Some q) (plan_of copy plans) ≡ Some p → (plan_of copy plans ≡ Some p → P p) → P p
  go true is' rest = let same : q ≡ p = cc in subst P same (All-head P q plans all)
  go false is' rest = rest is'

pub IsFormed-with_released : (p : Plan) (count : ℕ) → IsFormed p → count ≤ length p.acts → IsFormed (with_released count p)
IsFormed-with_released p count formed within = record { some = formed.some; one_more = formed.one_more; released = within }

pub IsFormed-cut_to : (p : Plan) (kept : ℕ) → IsFormed p → 1 ≤ kept → kept ≤ length p.acts → IsFormed (cut_to kept p)
IsFormed-cut_to p kept formed some within =
    let acts = length-take-le kept p.acts within in
    let one_more = formed.one_more in
    let points = length-take-le (kept + 1) p.points (omega arith) in
    record { some = omega arith; one_more = omega arith; released = omega arith }

-- what is known of the plan of a copy
pub IsSomeAnd-at : (copy : SheetId) (P : Plan → Type 0) (plans : List Plan) (p : Plan) → IsSomeAnd (plan_of copy plans) P → plan_of copy plans ≡ Some p → P p
IsSomeAnd-at copy P plans p h e = rw e at h
