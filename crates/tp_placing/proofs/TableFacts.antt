-- The points of plans, by their first points.
use Rattle.std.proofs.Common.{◌≡◌, ℕ, zero, suc, ◌+◌, ◌<◌, ◌≤◌, List, [], ◌∷◌, ◌++◌, length, refl, ap, sym, ◌∙◌, subst, arith, Some, inl, inr, position, IsSomeAnd, get_or}
use Rattle.std.proofs.lemmas.Bool.{cases_lt}
use Rattle.std.proofs.lemmas.List.{length-append}
use Rattle.std.proofs.lemmas.Option.{slice_get_within, slice_get-get_or, get_or_from_slice_get}
use Rattle.std.specs.List.{slice_get}
use Rattle.tp_base.proofs.SliceFacts.{slice_get_left, slice_get_last, found}
use Rattle.tp_base.specs.declared.edges.PointId.{PointId}
use Rattle.tp_schedule.specs.Plans.{plan_of, is_same_copy}
use Rattle.tp_schedule.proofs.ChangeFacts.{plan_of-at, plan_of-sheet}
use Rattle.tp_schedule.specs.Spots.{Spot}
use Rattle.tp_schedule.specs.Spots.Spot.{kept, own}
use Rattle.tp_schedule.specs.declared.parts.Plan.{Plan}
use Rattle.tp_schedule.specs.declared.parts.SheetId.{SheetId}
use Rattle.tp_constraints.specs.Numbers.{points_from, table_of}
use Rattle.tp_placing.specs.LoadedBoard.{AreFirsts, table_with}

pub length-points : (copy : SheetId) (i n : ℕ) → length (points_from copy i n) ≡ suc n
length-points copy i zero = refl
length-points copy i (suc n) = ap suc (length-points copy (suc i) n)

pub points-get : (copy : SheetId) (i n j : ℕ) → j ≤ n → slice_get (points_from copy i n) j ≡ Some (kept copy (i + j))
points-get copy i zero zero h = let e : i + 0 ≡ i = omega arith in ap (λ k. Some (kept copy k)) (sym e)
points-get copy i zero (suc j) h = absurd (omega arith)
points-get copy i (suc n) zero h = let e : i + 0 ≡ i = omega arith in ap (λ k. Some (kept copy k)) (sym e)
points-get copy i (suc n) (suc j) h = let e : suc i + j ≡ i + suc j = omega arith in points-get copy (suc i) n j (omega arith) ∙ ap (λ k. Some (kept copy k)) e

pub get-right : {X : Type 0} (xs ys : List X) (k : ℕ) → slice_get (xs ++ ys) (length xs + k) ≡ slice_get ys k
get-right [] ys k = let e : 0 + k ≡ k = omega arith in ap (λ n. slice_get ys n) e
get-right (x ∷ xs) ys k = let e : suc (length xs) + k ≡ suc (length xs + k) = omega arith in ap (λ n. slice_get (x ∷ (xs ++ ys)) n) e ∙ get-right xs ys k

-- where the points of a plan begin in the table
pub record BeginsAt (plans : List Plan) (p : Plan) (m : ℕ) : Type 0 where
  pub get : (i : ℕ) → i ≤ length p.acts → slice_get (table_of plans) (m + i) ≡ Some (kept p.sheet i)

pub begins-at : (n : ℕ) (plans : List Plan) (firsts : List PointId) (k : ℕ) (p : Plan) (f : PointId) → AreFirsts n plans firsts → slice_get plans k ≡ Some p → slice_get firsts k ≡ Some f
    → (m : ℕ) × (f.0 ≡ n + m) × BeginsAt plans p m
begins-at n [] firsts k p f a x y = absurd cc
begins-at n (q ∷ plans) [] k p f a x y = absurd a
begins-at n (q ∷ plans) (g ∷ firsts) zero p f a x y =
    let same : q ≡ p = cc in
    let point : g ≡ f = cc in
    let number : f.0 ≡ n = ap (λ (h : PointId). h.0) (sym point) ∙ a.0 in (
      0,
      omega arith,
      record {
        get = λ i h. (
            let e : 0 + i ≡ i = omega arith in
            let l = length-points q.sheet 0 (length q.acts) in
            let h' : i ≤ length q.acts = subst (λ (r : Plan). i ≤ length r.acts) (sym same) h in
            ap (λ j. slice_get (table_of (q ∷ plans)) j) e
            ∙ slice_get_left (points_from q.sheet 0 (length q.acts)) (table_of plans) i (omega arith)
            ∙ points-get q.sheet 0 (length q.acts) i h'
            ∙ ap (λ j. Some (kept q.sheet j)) e
            ∙ ap (λ (r : Plan). Some (kept r.sheet i)) same
            );
      },
    )
begins-at n (q ∷ plans) (g ∷ firsts) (suc k) p f a x y =
    let rest = begins-at (n + suc (length q.acts)) plans firsts k p f a.1 x y in
    let l = length-points q.sheet 0 (length q.acts) in
    let number = rest.1 in (
      suc (length q.acts) + rest.0,
      omega arith,
      record {
        get = λ i h. (
            let e : (suc (length q.acts) + rest.0) + i ≡ length (points_from q.sheet 0 (length q.acts)) + (rest.0 + i) = omega arith in
            ap (λ j. slice_get (table_of (q ∷ plans)) j) e ∙ get-right (points_from q.sheet 0 (length q.acts)) (table_of plans) (rest.0 + i) ∙ rest.2.get i h
            );
      },
    )

-- the table with own points behind those of the plans
pub length-table : (plans : List Plan) (n : ℕ) → length (table_with plans n) ≡ length (table_of plans) + n
length-table plans zero = omega arith
length-table plans (suc n) = let e = length-table plans n in let l = length-append (table_with plans n) (own n ∷ []) in omega arith

pub table-left : (plans : List Plan) (n k : ℕ) (s : Spot) → slice_get (table_of plans) k ≡ Some s → slice_get (table_with plans n) k ≡ Some s
table-left plans zero k s e = e
table-left plans (suc n) k s e =
    let f = table-left plans n k s e in
    slice_get_left (table_with plans n) (own n ∷ []) k (slice_get_within (table_with plans n) k s f) ∙ f

pub table-own : (plans : List Plan) (n i : ℕ) → i < n → slice_get (table_with plans n) (length (table_of plans) + i) ≡ Some (own i)
table-own plans zero i h = absurd (omega arith)
table-own plans (suc n) i h = elim (cases_lt i n) [
  | inl l ↦ (
      let f = table-own plans n i l in
      slice_get_left (table_with plans n) (own n ∷ []) (length (table_of plans) + i) (slice_get_within (table_with plans n) (length (table_of plans) + i) (own i) f) ∙ f)
  | inr m ↦ (
      let same : i ≡ n = omega arith in
      let l = length-table plans n in
      let at : length (table_of plans) + i ≡ length (table_with plans n) = omega arith in
      ap (λ k. slice_get (table_with plans n ++ own n ∷ []) k) at ∙ slice_get_last (table_with plans n) (own n) ∙ ap (λ k. Some (own k)) (sym same))
]

pub length-firsts : (n : ℕ) (plans : List Plan) (firsts : List PointId) → AreFirsts n plans firsts → length firsts ≡ length plans
length-firsts n [] [] a = refl
length-firsts n [] (f ∷ firsts) a = absurd a
length-firsts n (p ∷ plans) [] a = absurd a
length-firsts n (p ∷ plans) (f ∷ firsts) a = ap suc (length-firsts (n + suc (length p.acts)) plans firsts a.1)

-- the point of a copy's plan, where the plan stands at this place
pub point-at : (plans : List Plan) (firsts : List PointId) (copy : SheetId) (i k : ℕ) (p : Plan) (f : PointId) → AreFirsts 0 plans firsts → plan_of copy plans ≡ Some p → slice_get plans k ≡ Some p → slice_get firsts k ≡ Some f
    → i ≤ length p.acts → slice_get (table_of plans) (f.0 + i) ≡ Some (kept copy i)
point-at plans firsts copy i k p f a planned x y h =
    let b = begins-at 0 plans firsts k p f a x y in
    let e = b.1 in
    let at : f.0 + i ≡ b.0 + i = omega arith in
    ap (λ j. slice_get (table_of plans) j) at ∙ b.2.get i h ∙ ap (λ c. Some (kept c i)) (plan_of-sheet copy plans p planned)

-- the same, where the place was looked for
pub point-found : (plans : List Plan) (firsts : List PointId) (copy : SheetId) (i k : ℕ) (d : PointId) → AreFirsts 0 plans firsts → Some k ≡ position (λ p. is_same_copy p.sheet copy) plans → k < length plans
    → IsSomeAnd (plan_of copy plans) (λ p. i ≤ length p.acts) → slice_get (table_of plans) ((get_or firsts k d).0 + i) ≡ Some (kept copy i)
point-found plans firsts copy i k d a place within there =
    let p = found plans k within in
    let planned : plan_of copy plans ≡ Some p.0 = plan_of-at copy plans k p.0 place within (sym (get_or_from_slice_get plans k p.0 p.0 p.1)) in
    let h : i ≤ length p.0.acts = subst (λ o. IsSomeAnd o (λ (q : Plan). i ≤ length q.acts)) planned there in
    let l = length-firsts 0 plans firsts a in
    point-at plans firsts copy i k p.0 (get_or firsts k d) a planned p.1 (slice_get-get_or firsts k d (omega arith)) h
