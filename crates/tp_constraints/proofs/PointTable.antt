-- The table of a schedule's points has each once.
use Rattle.std.proofs.Common.{◌≡◌, ◌≢◌, inl, inr, ℕ, zero, suc, ◌+◌, ◌≤◌, true, List, [], ◌∷◌, ◌++◌, length, refl, sym, arith, All, AllPairs, Contains, ◌∙◌, ap, subst, get_or, IsTrue}
use Rattle.std.proofs.lemmas.List.Elements.{All-nil, All-cons, All-append, All-contains, Contains-append_left, Contains-append_right}
use Rattle.tp_schedule.specs.Plans.{is_before}
use Rattle.tp_schedule.specs.declared.parts.Plan.{Plan}
use Rattle.tp_schedule.specs.declared.parts.SheetId.{SheetId}
use Rattle.tp_schedule.specs.Spots.{Spot}
use Rattle.tp_schedule.specs.Spots.Spot.{kept, own}
use Rattle.tp_schedule.proofs.Pairs.{AllPairs-head, AllPairs-tail, AllPairs-nil, AllPairs-cons, AllPairs-append}
use Rattle.tp_constraints.specs.Gaps.{IsPoint}
use Rattle.tp_constraints.specs.Numbers.{points_from, table_of, TableLaw}
use Rattle.std.proofs.lemmas.Bool.{cases_lt}
use Rattle.tp_schedule.proofs.CopyFacts.{same_copy-refl, before-not_same}

-- a kept point of the copy, from a number on to another
record IsFrom (copy : SheetId) (from to : ℕ) (s : Spot) : Type 0 where
  at : ℕ
  least : from ≤ at
  most : at ≤ to
  is : s ≡ kept copy at

kept-number : (c d : SheetId) (i j : ℕ) → kept c i ≡ kept d j → i ≡ j
kept-number c d i j e = cc

kept-copy : (c d : SheetId) (i j : ℕ) → kept c i ≡ kept d j → c ≡ d
kept-copy c d i j e = cc

from-all : (copy : SheetId) (i n : ℕ) → All (IsFrom copy i (i + n)) (points_from copy i n)
from-all copy i zero = All-cons (IsFrom copy i (i + 0)) (kept copy i) [] (record { at = i; least = omega arith; most = omega arith; is = refl }) (All-nil (IsFrom copy i (i + 0)))
from-all copy i (suc n) =
    All-cons (IsFrom copy i (i + suc n)) (kept copy i) (points_from copy (suc i) n) (record { at = i; least = omega arith; most = omega arith; is = refl })
    (λ k d within. let r = from-all copy (suc i) n k d within in record { at = r.at; least = omega (arith, r.least); most = omega (arith, r.most); is = r.is })

from-contains : (copy : SheetId) (i n j : ℕ) → i ≤ j → j ≤ i + n → Contains (points_from copy i n) (kept copy j)
from-contains copy i zero j a b = let e : i ≡ j = omega arith in (0, omega arith, ap (kept copy) e)
from-contains copy i (suc n) j a b = elim (cases_lt i j) [
  | inl less ↦ let r = from-contains copy (suc i) n j (omega arith) (omega arith) in (suc r.0, omega (arith, r.1), r.2)
  | inr more ↦ let e : i ≡ j = omega arith in (0, omega arith, ap (kept copy) e)
]

from-differ : (copy : SheetId) (i n : ℕ) → AllPairs (λ a b. a ≢ b) (points_from copy i n)
from-differ copy i zero = AllPairs-cons (λ a b. a ≢ b) (kept copy i) [] (All-nil (λ b. kept copy i ≢ b)) (AllPairs-nil (λ a b. a ≢ b))
from-differ copy i (suc n) =
    AllPairs-cons (λ a b. a ≢ b) (kept copy i) (points_from copy (suc i) n)
    (λ k d within e. let r = from-all copy (suc i) n k d within in let same : i ≡ r.at = kept-number copy copy i r.at (e ∙ r.is) in omega (arith, same, r.least))
    (from-differ copy (suc i) n)

later-only : (plans : List Plan) → All (λ s. (p : Plan) × Contains plans p × IsFrom p.sheet 0 (length p.acts) s) (table_of plans)
later-only [] = All-nil (λ s. (p : Plan) × Contains [] p × IsFrom p.sheet 0 (length p.acts) s)
later-only (p ∷ plans) =
    All-append (λ s. (q : Plan) × Contains (p ∷ plans) q × IsFrom q.sheet 0 (length q.acts) s) (points_from p.sheet 0 (length p.acts)) (table_of plans)
    (λ k d within. let r = from-all p.sheet 0 (length p.acts) k d within in (p, (0, omega arith, refl), record { at = r.at; least = r.least; most = omega (arith, r.most); is = r.is }))
    (λ k d within. let r = later-only plans k d within in (r.0, (suc r.1.0, omega (arith, r.1.1), r.1.2), r.2))

point-from : (plans : List Plan) (s : Spot) → (p : Plan) × Contains plans p × IsFrom p.sheet 0 (length p.acts) s → IsPoint plans 0 s
point-from plans s h = subst (IsPoint plans 0) (sym h.2.is) (h.0, h.1, refl, h.2.most)

table-all : (plans : List Plan) (p : Plan) → Contains plans p → (i : ℕ) → i ≤ length p.acts → Contains (table_of plans) (kept p.sheet i)
table-all [] p c i le = absurd (omega (arith, c.1))
table-all (q ∷ plans) p (zero, within, is) i le =
    let same : q ≡ p = is in
    subst (λ r. i ≤ length r.acts → Contains (points_from q.sheet 0 (length q.acts) ++ table_of plans) (kept r.sheet i)) same
    (λ le'. Contains-append_left (points_from q.sheet 0 (length q.acts)) (table_of plans) (kept q.sheet i) (from-contains q.sheet 0 (length q.acts) i (omega arith) (omega arith))) le
table-all (q ∷ plans) p (suc k, within, is) i le =
    Contains-append_right (points_from q.sheet 0 (length q.acts)) (table_of plans) (kept p.sheet i) (table-all plans p (k, omega arith, is) i le)

table-differ : (plans : List Plan) → AllPairs (λ p q. IsTrue (is_before p.sheet q.sheet)) plans → AllPairs (λ a b. a ≢ b) (table_of plans)
table-differ [] order = AllPairs-nil (λ a b. a ≢ b)
table-differ (p ∷ plans) order =
    AllPairs-append (λ a b. a ≢ b) (points_from p.sheet 0 (length p.acts)) (table_of plans) (from-differ p.sheet 0 (length p.acts)) (table-differ plans (AllPairs-tail (λ a b. IsTrue (is_before a.sheet b.sheet)) p plans order))
    (λ k d within j e inside same.
    let a = from-all p.sheet 0 (length p.acts) k d within in
    let b = later-only plans j e inside in
    let before : is_before p.sheet b.0.sheet ≡ true = All-contains (λ q. is_before p.sheet q.sheet ≡ true) plans b.0 (AllPairs-head (λ x y. IsTrue (is_before x.sheet y.sheet)) p plans order) b.1 in
    let copies : p.sheet ≡ b.0.sheet = kept-copy p.sheet b.0.sheet a.at b.2.at (sym a.is ∙ same ∙ b.2.is) in
    let itself = before-not_same p.sheet p.sheet (subst (λ c. is_before p.sheet c ≡ true) (sym copies) before) in
    let same_one = same_copy-refl p.sheet in
    absurd cc)

pub table_law : TableLaw
table_law plans order = record {
  differ = table-differ plans order;
  only = λ k d within. point-from plans (get_or (table_of plans) k d) (later-only plans k d within);
  all = all;
} where
  all : (s : Spot) → IsPoint plans 0 s → Contains (table_of plans) s
  all (kept c i) h = subst (λ d. Contains (table_of plans) (kept d i)) h.2 (table-all plans h.0 h.1 i h.3)
  all (own n) h = absurd (omega (arith, h))
