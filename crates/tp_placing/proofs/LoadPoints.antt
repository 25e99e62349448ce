-- The points of plans, added one after another.
use Rattle.std.proofs.Common.{subst, ◌≡◌, ℕ, zero, suc, ◌+◌, false, List, [], ◌∷◌, ◌++◌, length, refl, ap, sym, arith, ◌∙◌, take, drop, get_or, ◌<◌, ◌≤◌}
use Rattle.std.proofs.lemmas.List.{append_assoc, length-append, take_more, take-append-drop}
use Rattle.std.specs.List.{flat_map}
use Rattle.tp_base.specs.Net.{Net, with_point}
use Rattle.tp_schedule.proofs.TickLists.{length-ticks_from}
use Rattle.tp_schedule.specs.Times.{ticks_from}
use Rattle.tp_schedule.specs.declared.parts.Plan.{Plan}
use Rattle.tp_base.specs.declared.edges.PointId.{PointId}
use Rattle.tp_constraints.specs.Gaps.{low_of, cap_of}
use Rattle.tp_placing.specs.LoadedNet.{with_bounds, with_plans, lows_of, caps_of, firsts_from, point_id, point_count}
use Rattle.tp_placing.specs.LoadedBoard.{AreFirsts}

ticks-push : (f : ℕ → ℕ) (i n : ℕ) → ticks_from f i (suc n) ≡ ticks_from f i n ++ f (i + n) ∷ []
ticks-push f i zero = let e : i + 0 ≡ i = omega arith in ap (λ k. f k ∷ []) (sym e)
ticks-push f i (suc n) = let e : suc i + n ≡ i + suc n = omega arith in ap (λ xs. f i ∷ xs) (ticks-push f (suc i) n ∙ ap (λ k. ticks_from f (suc i) n ++ f k ∷ []) e)

pub ticks-one : (f : ℕ → ℕ) (n m x : ℕ) → m ≡ n + 1 → x ≡ f n → ticks_from f 0 m ≡ ticks_from f 0 n ++ x ∷ []
ticks-one f n m x e read =
    let s : m ≡ suc n = omega arith in
    let z : 0 + n ≡ n = omega arith in
    ap (ticks_from f 0) s ∙ ticks-push f 0 n ∙ ap (λ k. ticks_from f 0 n ++ f k ∷ []) z ∙ ap (λ y. ticks_from f 0 n ++ y ∷ []) (sym read)

-- one point more of a plan
pub bounds-push : (net before next : Net) (f h : ℕ → ℕ) (n low high : ℕ) → before ≡ with_bounds (ticks_from f 0 n) (ticks_from h 0 n) net → low ≡ f n → high ≡ h n → next ≡ with_point before low high
    → next ≡ with_bounds (ticks_from f 0 (n + 1)) (ticks_from h 0 (n + 1)) net
bounds-push net before next f h n low high is l u added =
    let a = append_assoc net.lows (ticks_from f 0 n) (low ∷ []) ∙ ap (λ xs. net.lows ++ xs) (sym (ticks-one f n (n + 1) low refl l)) in
    let b = append_assoc net.caps (ticks_from h 0 n) (high ∷ []) ∙ ap (λ xs. net.caps ++ xs) (sym (ticks-one h n (n + 1) high refl u)) in
    added ∙ ap (λ m. with_point m low high) is ∙ (λ i. record { lows = a i; caps = b i; edges = net.edges })

pub bounds-count : (net next : Net) (f h : ℕ → ℕ) (n : ℕ) → next ≡ with_bounds (ticks_from f 0 n) (ticks_from h 0 n) net → length next.lows ≡ length net.lows + n
bounds-count net next f h n is =
    ap (λ m. length m.lows) is ∙ length-append net.lows (ticks_from f 0 n) ∙ ap (λ k. length net.lows + k) (length-ticks_from f 0 n)

-- the points of one plan more
pub plans-more : (floor horizon : ℕ) (p : Plan) (plans : List Plan) (net next : Net) → next ≡ with_bounds (lows_of floor p) (caps_of horizon p) net → with_plans floor horizon plans next ≡ with_plans floor horizon (p ∷ plans) net
plans-more floor horizon p plans net next is =
    let a = append_assoc net.lows (lows_of floor p) (flat_map (lows_of floor) plans) in
    let b = append_assoc net.caps (caps_of horizon p) (flat_map (caps_of horizon) plans) in
    ap (with_plans floor horizon plans) is ∙ (λ i. record { lows = a i; caps = b i; edges = net.edges })

pub plan-count : (floor horizon : ℕ) (p : Plan) (net next : Net) → next ≡ with_bounds (lows_of floor p) (caps_of horizon p) net → length next.lows ≡ length net.lows + suc (length p.acts)
plan-count floor horizon p net next is = bounds-count net next (low_of floor (λ _. false) p) (cap_of horizon p) (suc (length p.acts)) is

pub firsts-more : (before : List PointId) (n : ℕ) (p : Plan) (plans : List Plan) → (before ++ point_id n ∷ []) ++ firsts_from (n + length p.acts + 1) plans ≡ before ++ firsts_from n (p ∷ plans)
firsts-more before n p plans = append_assoc before (point_id n ∷ []) (firsts_from (n + length p.acts + 1) plans)

pub firsts-right : (n : ℕ) (plans : List Plan) → AreFirsts n plans (firsts_from n plans)
firsts-right n [] = tt
firsts-right n (p ∷ plans) =
    let e : n + length p.acts + 1 ≡ n + suc (length p.acts) = omega arith in
    (refl, subst (λ k. AreFirsts k plans (firsts_from (n + length p.acts + 1) plans)) e (firsts-right (n + length p.acts + 1) plans))

pub count-append : (ps qs : List Plan) → point_count (ps ++ qs) ≡ point_count ps + point_count qs
count-append [] qs = omega arith
count-append (p ∷ ps) qs = let e = count-append ps qs in omega arith

-- the points of the plans before a place, and of those up to it
pub count-more : (at : ℕ) (plans : List Plan) (d : Plan) → at < length plans → point_count (take (at + 1) plans) ≡ point_count (take at plans) + (length (get_or plans at d).acts + 1)
count-more at plans d within =
    let one : point_count (get_or plans at d ∷ []) ≡ length (get_or plans at d).acts + 1 = omega arith in
    ap point_count (take_more plans at d within) ∙ count-append (take at plans) (get_or plans at d ∷ []) ∙ ap (λ n. point_count (take at plans) + n) one

pub count-within : (at : ℕ) (plans : List Plan) → point_count (take at plans) ≤ point_count plans
count-within at plans = let e = ap point_count (take-append-drop at plans) in let a = count-append (take at plans) (drop at plans) in omega arith
