-- The tick of a point in the plan that has it.
use Rattle.std.proofs.Common.{◌≡◌, ℕ, zero, suc, ◌+◌, ◌-◌, ◌<◌, ◌≤◌, List, [], ◌∷◌, length, take, refl, ap, sym, ◌∙◌, subst, arith, get_or, All, Some, inl, inr}
use Rattle.std.specs.Prelude.{slice_index, slice_get}
use Rattle.std.specs.List.{flat_map, AllWithin}
use Rattle.std.specs.List.Sorted.{IsNonDecreasingBy}
use Rattle.std.proofs.lemmas.Bool.{cases_lt}
use Rattle.std.proofs.lemmas.List.{take-take, take_all}
use Rattle.std.proofs.lemmas.List.Concat.{get_or-flat_map}
use Rattle.std.proofs.lemmas.List.Elements.{All-contains, All-take}
use Rattle.std.proofs.lemmas.Option.{get_or_from_slice_get}
use Rattle.tp_base.specs.declared.edges.PointId.{PointId}
use Rattle.tp_schedule.specs.declared.parts.Plan.{Plan}
use Rattle.tp_placing.specs.LoadedNet.{HasPoints, firsts_from, point_count, point_id}
use Rattle.tp_placing.specs.LoadedHolds.{ticks_in}
use Rattle.tp_placing.proofs.LoadTable.{length-ticks}
use Rattle.tp_placing.proofs.LoadPoints.{count-more, count-within}

pub length-firsts-from : (n : ℕ) (plans : List Plan) → length (firsts_from n plans) ≡ length plans
length-firsts-from n [] = refl
length-firsts-from n (p ∷ plans) = ap suc (length-firsts-from (n + length p.acts + 1) plans)

first-from : (n : ℕ) (plans : List Plan) (k : ℕ) (d : PointId) → k < length plans → (get_or (firsts_from n plans) k d).0 ≡ n + point_count (take k plans)
first-from n [] k d within = absurd (omega arith)
first-from n (p ∷ plans) zero d within = omega arith
first-from n (p ∷ plans) (suc k) d within = let e = first-from (n + length p.acts + 1) plans k d (omega arith) in omega arith

pub first-at : (plans : List Plan) (k : ℕ) (d : PointId) → k < length plans → (get_or (firsts_from 0 plans) k d).0 ≡ point_count (take k plans)
first-at plans k d within = let e = first-from 0 plans k d within in omega arith

count-rises : (plans : List Plan) (i j : ℕ) → i ≤ j → point_count (take i plans) ≤ point_count (take j plans)
count-rises plans i j le = let e = ap point_count (take-take i j plans le) in let w = count-within i (take j plans) in omega arith

pub firsts-rise : (plans : List Plan) → IsNonDecreasingBy (λ (f : PointId). f.0) (firsts_from 0 plans)
firsts-rise plans i j d le below =
    let l = length-firsts-from 0 plans in
    let a = first-at plans i d (omega arith) in
    let b = first-at plans j d (omega arith) in
    let c = count-rises plans i j le in
    omega arith

module _ (plans : List Plan) (firsts : List PointId) (formed : All HasPoints plans) (is : firsts ≡ firsts_from 0 plans) (point : ℕ) (within : point < length (ticks_in plans)) (count : ℕ) (few : count ≤ length firsts)
    (before : AllWithin (λ (f : PointId). f.0 ≤ point) firsts 0 count) (behind : AllWithin (λ (f : PointId). point < f.0) firsts count (length firsts)) where
  all-ticks : length (ticks_in plans) ≡ point_count plans
  all-ticks = length-ticks plans (λ p inside. All-contains HasPoints plans p formed inside)

  as-many : length firsts ≡ length plans
  as-many = ap length is ∙ length-firsts-from 0 plans

  pub count-few : count ≤ length plans
  count-few = let l = as-many in omega arith

  first-is : (k : ℕ) (d : PointId) → k < length plans → (get_or firsts k d).0 ≡ point_count (take k plans)
  first-is k d below = ap (λ fs. (get_or fs k d).0) is ∙ first-at plans k d below

  -- the point is before the first point of the plan behind
  below-next : point < point_count (take count plans)
  below-next = elim (cases_lt count (length plans)) [
    | inl more ↦ (
        let l = as-many in
        let b = behind count (point_id 0) (omega arith) (omega arith) in
        let f = first-is count (point_id 0) more in
        omega arith)
    | inr all ↦ (let e = ap point_count (take_all count plans all) in let t = all-ticks in omega arith)
  ]

  pub some-before : 1 ≤ count
  some-before = elim (cases_lt 0 count) [
    | inl some ↦ omega arith
    | inr none ↦ (let e : count ≡ 0 = omega arith in let b = subst (λ n. point < point_count (take n plans)) e below-next in absurd (omega (arith, b)))
  ]

  -- the plan has the point
  pub in-plan : (d : PointId) (e : Plan) → point - (get_or firsts (count - 1) d).0 < length (get_or plans (count - 1) e).points
  in-plan d e =
      let s = some-before in
      let m = count-few in
      let b = below-next in
      let from = before (count - 1) d (omega arith) (omega arith) in
      let f = first-is (count - 1) d (omega arith) in
      let last : count - 1 + 1 ≡ count = omega arith in
      let more = sym (ap (λ k. point_count (take k plans)) last) ∙ count-more (count - 1) plans e (omega arith) in
      let h : length (get_or plans (count - 1) e).points ≡ length (get_or plans (count - 1) e).acts + 1 = formed (count - 1) e (omega arith) in
      omega arith

  pub from-first : (d : PointId) → (get_or firsts (count - 1) d).0 ≤ point
  from-first d = let s = some-before in before (count - 1) d (omega arith) (omega arith)

  tick-in : (d : PointId) (e : Plan) → slice_index (get_or plans (count - 1) e).points (point - (get_or firsts (count - 1) d).0) ≡ slice_index (ticks_in plans) point
  tick-in d e =
      let s = some-before in
      let m = count-few in
      let from = from-first d in
      let f = first-is (count - 1) d (omega arith) in
      let earlier = length-ticks (take (count - 1) plans) (λ p inside. All-contains HasPoints (take (count - 1) plans) p (All-take HasPoints (count - 1) plans formed) inside) in
      let at : length (flat_map (λ (p : Plan). p.points) (take (count - 1) plans)) + (point - (get_or firsts (count - 1) d).0) ≡ point = omega arith in
      sym (get_or-flat_map (λ (p : Plan). p.points) plans (count - 1) (point - (get_or firsts (count - 1) d).0) e 0 (omega arith) (in-plan d e)) ∙ ap (slice_index (ticks_in plans)) at

  pub tick-read : (d : PointId) (e : Plan) (x : ℕ) → slice_get (get_or plans (count - 1) e).points (point - (get_or firsts (count - 1) d).0) ≡ Some x → x ≡ slice_index (ticks_in plans) point
  tick-read d e x read = sym (get_or_from_slice_get (get_or plans (count - 1) e).points (point - (get_or firsts (count - 1) d).0) x 0 read) ∙ tick-in d e
