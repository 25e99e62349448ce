-- The plan of a copy that stands behind the other plans which pass a test.
use Rattle.std.proofs.Common.{◌≡◌, ◌∙◌, ℕ, zero, suc, Bool, true, not, List, [], ◌∷◌, ◌++◌, filter, length, refl, ap, sym, arith, subst, Some, All, AllPairs, slice_get}
use Rattle.std.proofs.lemmas.List.Elements.{All-cons, All-nil}
use Rattle.std.proofs.lemmas.List.Kept.{AllPairs-filter}
use Rattle.tp_base.proofs.SliceFacts.{All-at}
use Rattle.tp_schedule.proofs.CopyFacts.{before-trans}
use Rattle.tp_schedule.proofs.LastPlan.{behind-all, last-of_copy}
use Rattle.tp_schedule.proofs.Pairs.{AllPairs-head, AllPairs-tail}
use Rattle.tp_schedule.specs.Plans.{IsEarlier, is_before, is_same_copy, plan_of, without}
use Rattle.tp_schedule.specs.declared.parts.Plan.{Plan}
use Rattle.tp_schedule.specs.declared.parts.SheetId.{SheetId}
use Rattle.tp_choices.proofs.Parts.{filter-swap}
use Rattle.tp_placing.proofs.LivePart.{plan-some}

abbrev pub Before : SheetId → Plan → Type 0
Before copy p = is_before p.sheet copy ≡ true

-- the plan of a copy behind all others that pass a test
pub one-behind_others : (test : Plan → Bool) (copy : SheetId) (plans : List Plan) (p : Plan) → AllPairs IsEarlier plans → plan_of copy plans ≡ Some p → test p ≡ true
    → All (Before copy) (filter test (without copy plans)) → filter test plans ≡ filter test (without copy plans) ++ p ∷ []
one-behind_others test copy plans p in_order is passes before =
    let others : without copy (filter test plans) ≡ filter test (without copy plans) = filter-swap (λ q. not (is_same_copy q.sheet copy)) test plans in
    last-of_copy copy (filter test plans) p
    (behind-all copy (filter test plans) (AllPairs-filter IsEarlier test plans in_order) (subst (All (Before copy)) (sym others) before))
    (plan-some test copy plans p is passes)
    ∙ ap (λ qs. qs ++ p ∷ []) others

-- where the last of plans in the order of copies is before a copy, all are
pub all-before : (copy : SheetId) (plans : List Plan) (k : ℕ) (p : Plan) → AllPairs IsEarlier plans → slice_get plans k ≡ Some p → length plans ≡ suc k → Before copy p → All (Before copy) plans
all-before copy [] k p in_order at len before = absurd cc
all-before copy (q ∷ plans) zero p in_order at len before =
    let is : q ≡ p = cc in
    let none : plans ≡ [] = no-more plans (omega arith) in
    rw none (All-cons (Before copy) q [] (subst (Before copy) (sym is) before) (All-nil (Before copy))) where
      no-more : (qs : List Plan) → length qs ≡ 0 → qs ≡ []
      no-more [] e = refl
      no-more (r ∷ qs) e = absurd (omega (arith, e))
all-before copy (q ∷ plans) (suc k) p in_order at len before =
    let rest = all-before copy plans k p (AllPairs-tail IsEarlier q plans in_order) at (omega arith) before in
    let first : is_before q.sheet p.sheet ≡ true = All-at (IsEarlier q) plans k p (AllPairs-head IsEarlier q plans in_order) at in
    All-cons (Before copy) q plans (before-trans q.sheet p.sheet copy first before) rest
