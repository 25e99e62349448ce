-- The plan of a copy behind all others.
use Rattle.std.proofs.Common.{◌≡◌, ℕ, suc, ◌≤◌, Bool, true, false, cond, not, inl, inr, List, [], ◌∷◌, ◌++◌, length, slice_get, get_or, Some, All, AllPairs, Contains, refl, ap, subst, arith}
use Rattle.std.proofs.lemmas.Bool.{cases_lt}
use Rattle.std.proofs.lemmas.List.Elements.{All-contains, Contains-get_or}
use Rattle.std.proofs.lemmas.Option.{get_or_from_slice_get}
use Rattle.tp_schedule.proofs.CopyFacts.{before-asym, before-not_same', same_copy-is}
use Rattle.tp_schedule.proofs.Membership.{Contains-filter}
use Rattle.tp_schedule.specs.Plans.{IsEarlier, is_before, is_same_copy, plan_of, without}
use Rattle.tp_schedule.specs.declared.parts.Plan.{Plan}
use Rattle.tp_schedule.specs.declared.parts.SheetId.{SheetId}

-- no plan stands behind one of the copy
abbrev pub IsBehindAll : SheetId → List Plan → Type 0
IsBehindAll copy plans = (k : ℕ) (q : Plan) → slice_get plans k ≡ Some q → is_same_copy q.sheet copy ≡ true → length plans ≤ suc k

-- a copy's plan behind all others is the last, and without the copy the plans are all but the last
pub last-of_copy : (copy : SheetId) (plans : List Plan) (p : Plan) → IsBehindAll copy plans → plan_of copy plans ≡ Some p → plans ≡ without copy plans ++ p ∷ []
last-of_copy copy [] p last is = absurd cc
last-of_copy copy (q ∷ plans) p last is = go (is_same_copy q.sheet copy) refl is (last-of_copy copy plans p (λ k r at same. omega (arith, last (suc k) r at same))) where
  no-more : (qs : List Plan) → length qs ≤ 0 → qs ≡ []
  no-more [] few = refl
  no-more (r ∷ qs) few = absurd (omega (arith, few))

  go : (b : Bool) → is_same_copy q.sheet copy ≡ b → cond b (Some q) (plan_of copy plans) ≡ Some p → (plan_of copy plans ≡ Some p → plans ≡ without copy plans ++ p ∷ [])
      → q ∷ plans ≡ cond (not b) (q ∷ without copy plans) (without copy plans) ++ p ∷ []
  go true e one rest =
      let none : plans ≡ [] = no-more plans (omega (arith, last 0 q refl e)) in
      let same : q ≡ p = cc in
      rw none (ap (λ r. r ∷ []) same)
  go false e one rest = ap (λ qs. q ∷ qs) (rest one)

-- where all other plans are before the copy, none stands behind its own
pub behind-all : (copy : SheetId) (plans : List Plan) → AllPairs IsEarlier plans → All (λ q. is_before q.sheet copy ≡ true) (without copy plans) → IsBehindAll copy plans
behind-all copy plans in_order before k q at same = elim (cases_lt (suc k) (length plans)) [
  | inl more ↦
      let r = get_or plans (suc k) q in
      let behind-it : is_before q.sheet r.sheet ≡ true = subst (λ (s : Plan). is_before s.sheet r.sheet ≡ true) (get_or_from_slice_get plans k q q at) (in_order k (suc k) q (omega arith) more) in
      let behind : is_before copy r.sheet ≡ true = subst (λ (c : SheetId). is_before c r.sheet ≡ true) (same_copy-is q.sheet copy same) behind-it in
      let other : Contains (without copy plans) r = Contains-filter (λ s. not (is_same_copy s.sheet copy)) plans r (Contains-get_or plans (suc k) q more) (ap not (before-not_same' copy r.sheet behind)) in
      let early : is_before r.sheet copy ≡ true = All-contains (λ s. is_before s.sheet copy ≡ true) (without copy plans) r before other in
      let not-behind = before-asym r.sheet copy early in
      absurd cc
  | inr few ↦ few
]
