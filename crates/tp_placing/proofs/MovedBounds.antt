-- The bounds of points, replaced one after another.
use Rattle.std.proofs.Common.{◌≡◌, ◌∙◌, ℕ, suc, ◌+◌, ◌<◌, ◌≤◌, List, [], ◌∷◌, ◌++◌, ap, arith, drop, get_or, length, refl, set, sym, take}
use Rattle.std.specs.Prelude.{slice_index}
use Rattle.std.specs.List.{flat_map}
use Rattle.std.proofs.Math.Seq.{drop-append-add}
use Rattle.std.proofs.lemmas.Grind.{flat_map-append}
use Rattle.std.proofs.lemmas.List.{append-nil, append_assoc, drop_all, drop-drop, drop_more, get_or-append-add, get_or-drop, get_or_append_left, get_or_at, length-append, length-drop, length-take-le, set_at, take-append-drop, take_all, take_at, take_more}
use Rattle.tp_base.specs.Net.{IsEarliest, Net, with_bounds_at}
use Rattle.tp_base.proofs.LeastFacts.{earliest-is}
use Rattle.tp_schedule.proofs.TickLists.{length-ticks_from, ticks_from-at}
use Rattle.tp_schedule.specs.Times.{ticks_from}
use Rattle.tp_schedule.specs.declared.parts.Plan.{Plan}
use Rattle.tp_placing.specs.LoadedNet.{point_count}
use Rattle.tp_placing.specs.ClockMove.{replaced, with_bounds_from}
use Rattle.tp_placing.proofs.LoadEdges.{drop-read}
use Rattle.tp_placing.proofs.LoadPoints.{ticks-one}

pub replaced-none : (first : ℕ) (xs : List ℕ) → replaced first [] xs ≡ xs
replaced-none first xs = let e : first + 0 ≡ first = omega arith in ap (λ k. take first xs ++ drop k xs) e ∙ take-append-drop first xs

-- what stands in front of the rest
module _ (first n : ℕ) (new xs : List ℕ) (at : n ≡ first + length new) (within : n ≤ length xs) where
  abbrev front : List ℕ
  front = take first xs ++ new

  replaced-is : replaced first new xs ≡ front ++ drop n xs
  replaced-is = ap (λ k. take first xs ++ (new ++ drop k xs)) (sym at) ∙ sym (append_assoc (take first xs) new (drop n xs))

  length-front : length front ≡ n
  length-front = let a = length-append (take first xs) new in let t = length-take-le first xs (omega arith) in omega arith

  pub length-replaced : length (replaced first new xs) ≡ length xs
  length-replaced = let a = ap length replaced-is ∙ length-append front (drop n xs) in let l = length-front in let d = length-drop n xs in omega arith

  -- the next number is the old one still
  pub replaced-next : n < length xs → slice_index (replaced first new xs) n ≡ slice_index xs n
  replaced-next less =
      ap (λ ys. slice_index ys n) (replaced-is ∙ ap (λ ys. front ++ ys) (drop_more xs n 0 less)) ∙ get_or_at front (get_or xs n 0) (drop (n + 1) xs) 0 n length-front

  -- one number more
  pub replaced-more : n < length xs → (x : ℕ) → set (replaced first new xs) n x ≡ replaced first (new ++ x ∷ []) xs
  replaced-more less x =
      let one : n + 1 ≡ first + length (new ++ x ∷ []) = omega (arith, length-append new (x ∷ [])) in
      ap (λ ys. set ys n x) (replaced-is ∙ ap (λ ys. front ++ ys) (drop_more xs n 0 less))
      ∙ set_at front (get_or xs n 0) (drop (n + 1) xs) x n length-front
      ∙ append_assoc (take first xs) new (x ∷ drop (n + 1) xs)
      ∙ ap (λ ys. take first xs ++ ys) (sym (append_assoc new (x ∷ []) (drop (n + 1) xs)))
      ∙ ap (λ k. take first xs ++ ((new ++ x ∷ []) ++ drop k xs)) one

-- one point more of a plan
pub bounds-next : (first at n : ℕ) (f h : ℕ → ℕ) (old net next : Net) (low cap : ℕ) → n ≡ first + at → n < length old.lows → length old.caps ≡ length old.lows
    → net ≡ with_bounds_from first (ticks_from f 0 at) (ticks_from h 0 at) old → low ≡ f at → cap ≡ h at → next ≡ with_bounds_at net n low cap
    → next ≡ with_bounds_from first (ticks_from f 0 (at + 1)) (ticks_from h 0 (at + 1)) old
bounds-next first at n f h old net next low cap there less same is l u moved =
    let a : n ≡ first + length (ticks_from f 0 at) = omega (arith, length-ticks_from f 0 at) in
    let b : n ≡ first + length (ticks_from h 0 at) = omega (arith, length-ticks_from h 0 at) in
    let lows = replaced-more first n (ticks_from f 0 at) old.lows a (omega arith) less low ∙ ap (λ ts. replaced first ts old.lows) (sym (ticks-one f at (at + 1) low refl l)) in
    let caps = replaced-more first n (ticks_from h 0 at) old.caps b (omega arith) (omega arith) cap ∙ ap (λ ts. replaced first ts old.caps) (sym (ticks-one h at (at + 1) cap refl u)) in
    moved ∙ ap (λ m. with_bounds_at m n low cap) is ∙ (λ i. record { lows = lows i; caps = caps i; edges = old.edges })

-- how many points there are so far, and what the least tick of the next one still is
pub bounds-so-far : (first at n : ℕ) (f h : ℕ → ℕ) (old net : Net) → n ≡ first + at → n < length old.lows → net ≡ with_bounds_from first (ticks_from f 0 at) (ticks_from h 0 at) old
    → (length net.lows ≡ length old.lows) × (slice_index net.lows n ≡ slice_index old.lows n)
bounds-so-far first at n f h old net there less is =
    let a : n ≡ first + length (ticks_from f 0 at) = omega (arith, length-ticks_from f 0 at) in
    let lows : net.lows ≡ replaced first (ticks_from f 0 at) old.lows = ap (λ (m : Net). m.lows) is in (
      ap length lows ∙ length-replaced first n (ticks_from f 0 at) old.lows a (omega arith),
      ap (λ ls. slice_index ls n) lows ∙ replaced-next first n (ticks_from f 0 at) old.lows a (omega arith) less,
    )

-- an earliest time is within bounds round the least one
pub earliest-around : (net : Net) (p time low cap t : ℕ) → p < length net.lows → IsEarliest net p time → low ≤ time → time ≤ cap → IsEarliest net p t → (low ≤ t) × (t ≤ cap)
earliest-around net p time low cap t within e above below other =
    let a = earliest-is net e.0 p time e.1 within e in
    let b = earliest-is net e.0 p t e.1 within other in
    (omega arith, omega arith)

-- ---- the bounds of plans, one plan after another
module _ (h : Plan → ℕ → ℕ) where
  abbrev row : Plan → List ℕ
  row p = ticks_from (h p) 0 (suc (length p.acts))

  pub length-rows : (plans : List Plan) → length (flat_map row plans) ≡ point_count plans
  length-rows [] = refl
  length-rows (p ∷ plans) = omega (arith, length-append (row p) (flat_map row plans), length-ticks_from (h p) 0 (suc (length p.acts)), length-rows plans)

  pub row-at : (plans : List Plan) (k : ℕ) (p : Plan) → k < length plans → p ≡ get_or plans k p → (i : ℕ) → i ≤ length p.acts → slice_index (flat_map row plans) (point_count (take k plans) + i) ≡ h p i
  row-at plans k p within read i le =
      let split : take k plans ++ p ∷ drop (k + 1) plans ≡ plans = ap (λ qs. take k plans ++ qs) (sym (drop-read plans k p within read)) ∙ take-append-drop k plans in
      let rows : flat_map row plans ≡ flat_map row (take k plans) ++ (row p ++ flat_map row (drop (k + 1) plans)) = ap (flat_map row) (sym split) ∙ flat_map-append row (take k plans) (p ∷ drop (k + 1) plans) in
      let l = length-ticks_from (h p) 0 (suc (length p.acts)) in
      ap (λ ys. slice_index ys (point_count (take k plans) + i)) rows
      ∙ ap (λ n. slice_index (flat_map row (take k plans) ++ (row p ++ flat_map row (drop (k + 1) plans))) (n + i)) (sym (length-rows (take k plans)))
      ∙ get_or-append-add (flat_map row (take k plans)) (row p ++ flat_map row (drop (k + 1) plans)) i 0
      ∙ get_or_append_left (row p) (flat_map row (drop (k + 1) plans)) 0 i (omega arith)
      ∙ ticks_from-at (h p) 0 (suc (length p.acts)) i i (omega arith) (omega arith)

  -- the plans before this one have their rows, and behind them the old numbers stand
  pub rows-none : (plans : List Plan) (xs ys : List ℕ) → xs ≡ ys → xs ≡ flat_map row (take 0 plans) ++ drop 0 ys
  rows-none plans xs ys e = e

  pub rows-more : (plans : List Plan) (k first : ℕ) (p : Plan) (xs ys zs : List ℕ) → k < length plans → p ≡ get_or plans k p → first ≡ point_count (take k plans)
      → ys ≡ flat_map row (take k plans) ++ drop first xs → zs ≡ replaced first (row p) ys → zs ≡ flat_map row (take (k + 1) plans) ++ drop (first + length p.acts + 1) xs
  rows-more plans k first p xs ys zs within read at is new =
      let l : length (flat_map row (take k plans)) ≡ first = length-rows (take k plans) ∙ sym at in
      let r = length-ticks_from (h p) 0 (suc (length p.acts)) in
      let w : first + length (row p) ≡ length (flat_map row (take k plans)) + suc (length p.acts) = omega arith in
      let e : first + suc (length p.acts) ≡ first + length p.acts + 1 = omega arith in
      let head : take first ys ≡ flat_map row (take k plans) = ap (take first) is ∙ take_at (flat_map row (take k plans)) (drop first xs) first l in
      let rest : drop (first + length (row p)) ys ≡ drop (first + length p.acts + 1) xs =
      ap (drop (first + length (row p))) is ∙ ap (λ n. drop n (flat_map row (take k plans) ++ drop first xs)) w ∙ drop-append-add (flat_map row (take k plans)) (drop first xs) (suc (length p.acts)) ∙ drop-drop (suc (length p.acts)) first xs
      ∙ ap (λ n. drop n xs) e in
      let rows : flat_map row (take (k + 1) plans) ≡ flat_map row (take k plans) ++ row p =
      ap (flat_map row) (take_more plans k p within ∙ ap (λ q. take k plans ++ q ∷ []) (sym read)) ∙ flat_map-append row (take k plans) (p ∷ []) ∙ ap (λ ts. flat_map row (take k plans) ++ ts) (append-nil (row p)) in
      new ∙ (λ i. head i ++ (row p ++ rest i)) ∙ sym (append_assoc (flat_map row (take k plans)) (row p) (drop (first + length p.acts + 1) xs)) ∙ ap (λ ts. ts ++ drop (first + length p.acts + 1) xs) (sym rows)

  pub rows-length : (plans : List Plan) (k first : ℕ) (xs ys : List ℕ) → first ≡ point_count (take k plans) → first ≤ length xs → ys ≡ flat_map row (take k plans) ++ drop first xs → length ys ≡ length xs
  rows-length plans k first xs ys at within is = omega (arith, ap length is, length-append (flat_map row (take k plans)) (drop first xs), length-rows (take k plans), length-drop first xs)

  pub rows-next : (plans : List Plan) (k first : ℕ) (xs ys : List ℕ) (i : ℕ) → first ≡ point_count (take k plans) → ys ≡ flat_map row (take k plans) ++ drop first xs → slice_index ys (first + i) ≡ slice_index xs (first + i)
  rows-next plans k first xs ys i at is =
      let l : first + i ≡ length (flat_map row (take k plans)) + i = omega (arith, length-rows (take k plans)) in
      ap (λ zs. slice_index zs (first + i)) is ∙ ap (slice_index (flat_map row (take k plans) ++ drop first xs)) l ∙ get_or-append-add (flat_map row (take k plans)) (drop first xs) i 0 ∙ get_or-drop first xs i 0

  pub rows-all : (plans : List Plan) (k first : ℕ) (xs ys : List ℕ) → length plans ≤ k → first ≡ point_count (take k plans) → point_count plans ≡ length xs → ys ≡ flat_map row (take k plans) ++ drop first xs → ys ≡ flat_map row plans
  rows-all plans k first xs ys end at count is =
      let all = take_all k plans end in
      let none : drop first xs ≡ [] = drop_all first xs (omega (arith, ap point_count all)) in
      is ∙ (λ i. flat_map row (all i) ++ none i) ∙ append-nil (flat_map row plans)
