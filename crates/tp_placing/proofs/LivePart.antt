-- The plans of a schedule that pass a test, and how many they are beside one copy's.
use Rattle.std.proofs.Common.{◌≡◌, ◌+◌, ◌≤◌, Bool, true, false, cond, not, List, [], ◌∷◌, ◌++◌, length, map, filter, refl, ap, ◌∙◌, subst, arith, Some, None, All, IsTrue}
use Rattle.std.proofs.lemmas.List.{length-append, length-map}
use Rattle.std.proofs.lemmas.List.Elements.{All-filter, All-weaker, filter-append}
use Rattle.std.proofs.lemmas.List.Kept.{AllPairs-filter}
use Rattle.tp_machine.specs.declared.machine.Machine.{Machine}
use Rattle.tp_schedule.proofs.CopyFacts.{InOrder, same_copy-is, before-not_same'}
use Rattle.tp_schedule.proofs.HeldModes.{spread-fewer, held_in_more}
use Rattle.tp_schedule.proofs.Membership.{Contains-filter_from}
use Rattle.tp_schedule.proofs.LegalFacts.{length-filter-flat_map-filter}
use Rattle.tp_schedule.proofs.Pairs.{AllPairs-head, AllPairs-tail}
use Rattle.tp_schedule.specs.Holders.{runs, runs_of, hold_of, holds_at}
use Rattle.tp_schedule.specs.Legality.{IsLegal, EndsBefore}
use Rattle.tp_schedule.specs.Plans.{IsTimedPlan, IsEarlier, plan_of, without, is_same_copy, is_before}
use Rattle.tp_schedule.specs.declared.parts.Plan.{Plan}
use Rattle.tp_schedule.specs.declared.parts.SheetId.{SheetId}
use Rattle.tp_choices.proofs.Lists.{filter-all}
use Rattle.tp_placing.specs.LoadedNet.{point_count}
use Rattle.tp_placing.proofs.LoadPoints.{count-append}

-- a legal schedule less some plans is legal
pub legal-filter : (test : Plan → Bool) (machine : Machine) (plans : List Plan) → IsLegal machine plans → IsLegal machine (filter test plans)
legal-filter test machine plans legal = record {
  in_order = AllPairs-filter IsEarlier test plans legal.in_order;
  timed = All-filter test (IsTimedPlan machine) plans legal.timed;
  single = λ resource tick. (
      let fewer = length-filter-flat_map-filter (holds_at machine resource tick) runs_of test plans in
      let at-most : length (map hold_of (filter (holds_at machine resource tick) (runs plans))) ≤ 1 = legal.single resource tick in
      let counted = length-map (filter (holds_at machine resource tick) (runs plans)) hold_of in
      let left = length-map (filter (holds_at machine resource tick) (runs (filter test plans))) hold_of in
      omega arith);
  spread = λ resource tick. spread-fewer machine plans (filter test plans) resource tick
      (λ t mode h. held_in_more machine plans (filter test plans) resource t mode (λ p in'. (Contains-filter_from test plans p in').0) h) (legal.spread resource tick);
  rise = AllPairs-filter EndsBefore test plans legal.rise;
}

-- the plan of a copy among those that pass a test
pub plan-none : (test : Plan → Bool) (copy : SheetId) (plans : List Plan) → plan_of copy plans ≡ None → plan_of copy (filter test plans) ≡ None
plan-none test copy [] is = refl
plan-none test copy (q ∷ plans) is = go (is_same_copy q.sheet copy) refl (test q) is (plan-none test copy plans) where
  go : (a : Bool) → is_same_copy q.sheet copy ≡ a → (b : Bool) → cond a (Some q) (plan_of copy plans) ≡ None → (plan_of copy plans ≡ None → plan_of copy (filter test plans) ≡ None)
      → plan_of copy (cond b (q ∷ filter test plans) (filter test plans)) ≡ None
  go true e b none rest = absurd cc
  go false e true none rest = ap (λ c. cond c (Some q) (plan_of copy (filter test plans))) e ∙ rest none
  go false e false none rest = rest none

pub plan-some : (test : Plan → Bool) (copy : SheetId) (plans : List Plan) (p : Plan) → plan_of copy plans ≡ Some p → test p ≡ true → plan_of copy (filter test plans) ≡ Some p
plan-some test copy [] p is passes = absurd cc
plan-some test copy (q ∷ plans) p is passes = go (is_same_copy q.sheet copy) refl (test q) refl is (λ e. plan-some test copy plans p e passes) where
  go : (a : Bool) → is_same_copy q.sheet copy ≡ a → (b : Bool) → test q ≡ b → cond a (Some q) (plan_of copy plans) ≡ Some p → (plan_of copy plans ≡ Some p → plan_of copy (filter test plans) ≡ Some p)
      → plan_of copy (cond b (q ∷ filter test plans) (filter test plans)) ≡ Some p
  go true e true f one rest = ap (λ c. cond c (Some q) (plan_of copy (filter test plans))) e ∙ one
  go true e false f one rest = let same : q ≡ p = cc in let fails : test p ≡ false = subst (λ r. test r ≡ false) same f in absurd cc
  go false e true f one rest = ap (λ c. cond c (Some q) (plan_of copy (filter test plans))) e ∙ rest one
  go false e false f one rest = rest one

-- the plan of a copy, with what stands before and behind it
pub record IsSplit (copy : SheetId) (plans : List Plan) (p : Plan) : Type 0 where
  pub before : List Plan
  pub after : List Plan
  pub all : plans ≡ before ++ p ∷ after
  pub others : without copy plans ≡ before ++ after

pub split-copy : (copy : SheetId) (plans : List Plan) (p : Plan) → InOrder plans → plan_of copy plans ≡ Some p → IsSplit copy plans p
split-copy copy [] p in_order is = absurd cc
split-copy copy (q ∷ plans) p in_order is = go (is_same_copy q.sheet copy) refl is (λ e. split-copy copy plans p (AllPairs-tail (λ a b. IsTrue (is_before a.sheet b.sheet)) q plans in_order) e) where
  later : is_same_copy q.sheet copy ≡ true → All (λ x. not (is_same_copy x.sheet copy) ≡ true) plans
  later e =
      let same = same_copy-is q.sheet copy e in
      All-weaker (λ x. is_before q.sheet x.sheet ≡ true) (λ x. not (is_same_copy x.sheet copy) ≡ true)
      (λ x before. ap not (subst (λ c. is_same_copy x.sheet c ≡ false) same (before-not_same' q.sheet x.sheet before)))
      plans (AllPairs-head (λ a b. IsTrue (is_before a.sheet b.sheet)) q plans in_order)

  go : (a : Bool) → is_same_copy q.sheet copy ≡ a → cond a (Some q) (plan_of copy plans) ≡ Some p → (plan_of copy plans ≡ Some p → IsSplit copy plans p) → IsSplit copy (q ∷ plans) p
  go true e one rest =
      let same : q ≡ p = cc in
      record {
        before = [];
        after = plans;
        all = ap (λ r. r ∷ plans) same;
        others = ap (λ c. cond (not c) (q ∷ without copy plans) (without copy plans)) e ∙ filter-all (λ x. not (is_same_copy x.sheet copy)) plans (later e);
      }
  go false e one rest =
      let r = rest one in
      record {
        before = q ∷ r.before;
        after = r.after;
        all = ap (λ ps. q ∷ ps) r.all;
        others = ap (λ c. cond (not c) (q ∷ without copy plans) (without copy plans)) e ∙ ap (λ ps. q ∷ ps) r.others;
      }

-- one plan more among those that pass a test
pub one-more : (test : Plan → Bool) (before after : List Plan) (p : Plan)
    → (length (filter test (before ++ p ∷ after)) ≤ length (filter test (before ++ after)) + 1) × (point_count (filter test (before ++ p ∷ after)) ≤ point_count (filter test (before ++ after)) + (length p.acts + 1))
one-more test before after p =
    let a = filter-append test before (p ∷ after) in
    let b = filter-append test before after in
    let l = ap length a in
    let m = ap length b in
    let n = length-append (filter test before) (filter test (p ∷ after)) in
    let o = length-append (filter test before) (filter test after) in
    let i = ap point_count a in
    let j = ap point_count b in
    let k = count-append (filter test before) (filter test (p ∷ after)) in
    let h = count-append (filter test before) (filter test after) in
    let first = go (test p) in
    let f = first.0 in
    let g = first.1 in
    (omega arith, omega arith) where
      go : (c : Bool) → (length (cond c (p ∷ filter test after) (filter test after)) ≤ length (filter test after) + 1) × (point_count (cond c (p ∷ filter test after) (filter test after)) ≤ point_count (filter test after) + (length p.acts + 1))
      go true = (omega arith, omega arith)
      go false = (omega arith, omega arith)
