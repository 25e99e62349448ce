-- The times of the least solution, point after point.
use Rattle.std.proofs.Common.{◌≡◌, ℕ, zero, suc, ◌+◌, ◌<◌, ◌≤◌, List, [], ◌∷◌, ◌++◌, length, refl, ap, sym, ◌∙◌, arith}
use Rattle.tp_base.specs.Net.{Net, HasLeast, IsLeast}
use Rattle.std.proofs.Common.{AllPairs, get_or}
use Rattle.std.proofs.lemmas.Option.{slice_get_read, slice_get-get_or}
use Rattle.tp_base.specs.declared.edges.PointId.{PointId}
use Rattle.tp_schedule.specs.Plans.{IsEarlier}
use Rattle.tp_schedule.specs.Spots.{Ticks}
use Rattle.tp_schedule.specs.Spots.Spot.{kept}
use Rattle.tp_schedule.specs.Times.{at, ticks_from}
use Rattle.tp_schedule.specs.declared.parts.Plan.{Plan}
use Rattle.tp_constraints.specs.Numbers.{table_of, ticks_by}
use Rattle.tp_constraints.proofs.PointNumbers.{number-at}
use Rattle.tp_constraints.proofs.PointTable.{table_law}
use Rattle.tp_placing.specs.Settled.{AreLeastFrom, HasLeastPoints}
use Rattle.tp_placing.specs.LoadedBoard.{AreFirsts}
use Rattle.tp_placing.specs.Commits.{AreLeastTicks}
use Rattle.tp_placing.proofs.TableFacts.{begins-at, length-firsts}

-- one number more, at the end
pub ticks-push : (f : ℕ → ℕ) (i n : ℕ) → ticks_from f i (suc n) ≡ ticks_from f i n ++ f (i + n) ∷ []
ticks-push f i zero = let e : i + 0 ≡ i = omega arith in ap (λ k. f k ∷ []) (sym e)
ticks-push f i (suc n) = let e : suc i + n ≡ i + suc n = omega arith in ap (λ ts. f i ∷ ts) (ticks-push f (suc i) n ∙ ap (λ k. ticks_from f (suc i) n ++ f k ∷ []) e)

pub ticks-more : (f : ℕ → ℕ) (i n : ℕ) → ticks_from f i (n + 1) ≡ ticks_from f i n ++ f (i + n) ∷ []
ticks-more f i n = let e : n + 1 ≡ suc n = omega arith in ap (λ k. ticks_from f i k) e ∙ ticks-push f i n

pub ticks-append : (f : ℕ → ℕ) (i m n : ℕ) → ticks_from f i (m + n) ≡ ticks_from f i m ++ ticks_from f (i + m) n
ticks-append f i zero n = let e : 0 + n ≡ n = omega arith in let d : i + 0 ≡ i = omega arith in ap (λ k. ticks_from f i k) e ∙ ap (λ k. ticks_from f k n) (sym d)
ticks-append f i (suc m) n =
    let e : suc m + n ≡ suc (m + n) = omega arith in
    let d : suc i + m ≡ i + suc m = omega arith in
    ap (λ k. ticks_from f i k) e ∙ ap (λ ts. f i ∷ ts) (ticks-append f (suc i) m n ∙ ap (λ k. ticks_from f (suc i) m ++ ticks_from f k n) d)

-- numbers that agree place by place
pub ticks-same : (f g : ℕ → ℕ) (i j n : ℕ) → ((k : ℕ) → k < n → f (i + k) ≡ g (j + k)) → ticks_from f i n ≡ ticks_from g j n
ticks-same f g i j zero h = refl
ticks-same f g i j (suc n) h =
    let a : i + 0 ≡ i = omega arith in
    let b : j + 0 ≡ j = omega arith in
    let first : f i ≡ g j = ap f (sym a) ∙ h 0 (omega arith) ∙ ap g b in
    let rest = ticks-same f g (suc i) (suc j) n (λ k within.
    let c : suc i + k ≡ i + suc k = omega arith in
    let d : suc j + k ≡ j + suc k = omega arith in
    ap f c ∙ h (suc k) (omega arith) ∙ ap g (sym d)) in
    λ q. first q ∷ rest q

-- the number at a place
pub ticks-get : (f : ℕ → ℕ) (i n k d : ℕ) → k < n → get_or (ticks_from f i n) k d ≡ f (i + k)
ticks-get f i zero k d within = absurd (omega arith)
ticks-get f i (suc n) zero d within = let e : i + 0 ≡ i = omega arith in ap f (sym e)
ticks-get f i (suc n) (suc k) d within = let e : suc i + k ≡ i + suc k = omega arith in ticks-get f (suc i) n k d (omega arith) ∙ ap f e

-- the times of a loaded plan's points are its ticks
pub plan-ticks : (net : Net) (plans : List Plan) (firsts : List PointId) (k : ℕ) (p : Plan) (d : PointId) (t : Ticks) (n : ℕ) → AreFirsts 0 plans firsts → k < length plans → p ≡ get_or plans k p → (a : AreLeastTicks net (table_of plans) t)
    → n ≤ suc (length p.acts) → ticks_from a.solution (get_or firsts k d).0 n ≡ ticks_from (at t p) 0 n
plan-ticks net plans firsts k p d t n are within read a few =
    let l = length-firsts 0 plans firsts are in
    let there = slice_get_read plans (length plans) k p refl within read in
    let b = begins-at 0 plans firsts k p (get_or firsts k d) are there (slice_get-get_or firsts k d (omega arith)) in
    let first = b.1 in
    ticks-same a.solution (at t p) (get_or firsts k d).0 0 n (λ i less.
    let e : (get_or firsts k d).0 + i ≡ b.0 + i = omega arith in
    let z : i ≡ 0 + i = omega arith in
    ap a.solution e ∙ sym (a.there (b.0 + i) (kept p.sheet i) (b.2.get i (omega arith))) ∙ ap (at t p) z)

-- ticks by the least solution
pub ticks-of : (net : Net) (plans : List Plan) (sol : ℕ → ℕ) → IsLeast net sol → AllPairs IsEarlier plans → AreLeastTicks net (table_of plans) (ticks_by (table_of plans) sol)
ticks-of net plans sol least in_order = record { solution = sol; least = least; there = λ i s e. ap sol (number-at (table_of plans) (table_law plans in_order).differ i s e) }

-- a plan that has its least points has the least times of its points
pub least-from : (net : Net) (plans : List Plan) (firsts : List PointId) (k : ℕ) (p : Plan) (d : PointId) → AreFirsts 0 plans firsts → k < length plans → p ≡ get_or plans k p → AllPairs IsEarlier plans → length p.points ≡ suc (length p.acts)
    → HasLeastPoints net plans p → AreLeastFrom net (get_or firsts k d).0 p.points
unfolding ticks-of
least-from net plans firsts k p d are within read in_order count points sol least =
    let a = ticks-of net plans sol least in_order in
    let own : ticks_from (at (ticks_by (table_of plans) sol) p) 0 (suc (length p.acts)) ≡ p.points = ap (λ (q : Plan). q.points) (points (ticks_by (table_of plans) sol) a) in
    let ticks = plan-ticks net plans firsts k p d (ticks_by (table_of plans) sol) (suc (length p.acts)) are within read a (omega arith) in
    sym own ∙ sym ticks ∙ ap (λ n. ticks_from sol (get_or firsts k d).0 n) (sym count)

-- there are such ticks
pub ticks-exist : (net : Net) (plans : List Plan) → HasLeast net → AllPairs IsEarlier plans → (t : Ticks) × AreLeastTicks net (table_of plans) t
ticks-exist net plans least in_order =
    (ticks_by (table_of plans) least.0, ticks-of net plans least.0 least.1 in_order)
