-- Copies and their order; the plan of a copy in a list that stands in this order.
use Rattle.std.proofs.Common.{◌≡◌, zero, suc, true, false, List, [], ◌∷◌, refl, arith, Contains, AllPairs, Some, IsTrue}
use Rattle.std.proofs.lemmas.Bool.Decides.{nat_tests}
use Rattle.std.proofs.lemmas.List.Elements.{All-contains}
use Rattle.tp_schedule.proofs.Pairs.{AllPairs-head, AllPairs-tail}
use Rattle.tp_schedule.specs.Plans.{plan_of, is_same_copy, is_before}
use Rattle.tp_schedule.specs.declared.parts.Plan.{Plan}
use Rattle.tp_schedule.specs.declared.parts.SheetId.{SheetId}

-- copies
pub same_copy-refl : (a : SheetId) → is_same_copy a a ≡ true
same_copy-refl a = grind (arith, nat_tests)

pub before-not_same : (a b : SheetId) → is_before a b ≡ true → is_same_copy a b ≡ false
before-not_same a b e = grind (arith, nat_tests)

pub before-not_same' : (a b : SheetId) → is_before a b ≡ true → is_same_copy b a ≡ false
before-not_same' a b e = grind (arith, nat_tests)

pub same_copy-is : (a b : SheetId) → is_same_copy a b ≡ true → a ≡ b
same_copy-is a b e =
    let job : a.job ≡ b.job = grind (arith, nat_tests) in
    let number : a.number ≡ b.number = grind (arith, nat_tests) in
    let copy : a.copy ≡ b.copy = grind (arith, nat_tests) in
    λ i. record { job = job i; number = number i; copy = copy i }

abbrev pub InOrder : List Plan → Type 0
InOrder plans = AllPairs (λ p q. IsTrue (is_before p.sheet q.sheet)) plans

-- a plan of a schedule is the plan of its copy
pub plan_of-itself : (plans : List Plan) (p : Plan) → InOrder plans → Contains plans p → plan_of p.sheet plans ≡ Some p
plan_of-itself [] p in_order in' = absurd (omega (arith, in'.1))
plan_of-itself (q ∷ plans) p in_order (zero, within, is) = rw is (rw same_copy-refl refl)
plan_of-itself (q ∷ plans) p in_order (suc k, within, is) =
    let later = plan_of-itself plans p (AllPairs-tail (λ a b. IsTrue (is_before a.sheet b.sheet)) q plans in_order) (k, omega arith, is) in
    let before : is_before q.sheet p.sheet ≡ true = All-contains (λ b. IsTrue (is_before q.sheet b.sheet)) plans p (AllPairs-head (λ a b. IsTrue (is_before a.sheet b.sheet)) q plans in_order) (k, omega arith, is) in
    rw (before-not_same q.sheet p.sheet before) later

pub before-trans : (a b c : SheetId) → is_before a b ≡ true → is_before b c ≡ true → is_before a c ≡ true
before-trans a b c p q = grind (arith, nat_tests)

pub before-other : (a b : SheetId) → is_before a b ≡ false → is_same_copy b a ≡ false → is_before b a ≡ true
before-other a b p q = grind (arith, nat_tests)

abbrev pub NotOf : SheetId → Plan → Type 0
NotOf copy q = is_same_copy q.sheet copy ≡ false

pub before-asym : (a b : SheetId) → is_before a b ≡ true → is_before b a ≡ false
before-asym a b e = grind (arith, nat_tests)
