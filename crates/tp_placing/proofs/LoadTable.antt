-- The points of plans in their table, one plan after another: their numbers, bounds and ticks.
use Rattle.std.proofs.Common.{◌≡◌, ℕ, zero, suc, ◌+◌, ◌-◌, ◌≤◌, List, [], ◌∷◌, ◌++◌, length, map, refl, ap, sym, ◌∙◌, subst, arith, Some, inl, inr, Contains}
use Rattle.std.specs.Prelude.{slice_get, slice_index}
use Rattle.std.specs.List.{flat_map}
use Rattle.std.proofs.lemmas.Bool.{cases_lt}
use Rattle.std.proofs.lemmas.List.{append_assoc, length-append, map-append, get_or_append_left, get_or-append-add}
use Rattle.tp_base.proofs.SliceFacts.{slice_get_left}
use Rattle.tp_schedule.proofs.CopyFacts.{InOrder, plan_of-itself}
use Rattle.tp_schedule.proofs.Membership.{Contains-here, Contains-later}
use Rattle.tp_schedule.specs.Plans.{plan_of}
use Rattle.tp_schedule.specs.Spots.{Spot, ticks_of, point_in}
use Rattle.tp_schedule.specs.Spots.Spot.{kept}
use Rattle.tp_schedule.specs.Times.{ticks_from}
use Rattle.tp_schedule.specs.declared.parts.Plan.{Plan}
use Rattle.tp_schedule.specs.declared.parts.SheetId.{SheetId}
use Rattle.tp_constraints.specs.Numbers.{points_from, table_of, spot_at, spot_in}
use Rattle.tp_placing.specs.LoadedNet.{point_count}
use Rattle.tp_placing.specs.LoadedHolds.{ticks_in}
use Rattle.tp_placing.proofs.TableFacts.{get-right, length-points, points-get}

pub length-table-of : (plans : List Plan) → length (table_of plans) ≡ point_count plans
length-table-of [] = refl
length-table-of (p ∷ plans) =
    let a = length-append (points_from p.sheet 0 (length p.acts)) (table_of plans) in
    let f = length-points p.sheet 0 (length p.acts) in
    let rest = length-table-of plans in
    omega arith

-- the points of a plan stand in a table from a number on
pub record StandsAt (table : List Spot) (n : ℕ) (copy : SheetId) (first count : ℕ) : Type 0 where
  pub get : (i : ℕ) → i ≤ count → slice_get table (n + i) ≡ Some (kept copy (first + i))

-- the plans do, one after another
abbrev pub AreNumbered : List Spot → ℕ → List Plan → Type 0
AreNumbered table n [] = Unit {0}
AreNumbered table n (p ∷ plans) = StandsAt table n p.sheet 0 (length p.acts) × AreNumbered table (n + length p.acts + 1) plans

pub numbered-behind : (before : List Spot) (plans : List Plan) → AreNumbered (before ++ table_of plans) (length before) plans
numbered-behind before [] = tt
numbered-behind before (p ∷ plans) = (
  record {
    get = λ i h. (
        let l = length-points p.sheet 0 (length p.acts) in
        get-right before (table_of (p ∷ plans)) i ∙ slice_get_left (points_from p.sheet 0 (length p.acts)) (table_of plans) i (omega arith) ∙ points-get p.sheet 0 (length p.acts) i h);
  },
  (
      let points = points_from p.sheet 0 (length p.acts) in
      let l = length-points p.sheet 0 (length p.acts) in
      let m = length-append before (points_from p.sheet 0 (length p.acts)) in
      let e : length (before ++ points) ≡ length before + length p.acts + 1 = omega arith in
      subst (λ table. AreNumbered table (length before + length p.acts + 1) plans) (append_assoc before points (table_of plans))
      (subst (λ n. AreNumbered ((before ++ points) ++ table_of plans) n plans) e (numbered-behind (before ++ points) plans))),
)

pub numbered : (plans : List Plan) → AreNumbered (table_of plans) 0 plans
numbered plans = numbered-behind [] plans

-- what stands for each point, plan by plan
map-from : (f : Spot → ℕ) (h : ℕ → ℕ) (copy : SheetId) (i n : ℕ) → ((j : ℕ) → j ≤ i + n → f (kept copy j) ≡ h j) → map f (points_from copy i n) ≡ ticks_from h i (suc n)
map-from f h copy i zero same = ap (λ x. x ∷ []) (same i (omega arith))
map-from f h copy i (suc n) same =
    let a = same i (omega arith) in
    let b = map-from f h copy (suc i) n (λ j le. same j (omega arith)) in
    λ k. a k ∷ b k

pub map-table : (f : Spot → ℕ) (h : Plan → ℕ → ℕ) (plans : List Plan) → ((p : Plan) → Contains plans p → (i : ℕ) → i ≤ length p.acts → f (kept p.sheet i) ≡ h p i)
    → map f (table_of plans) ≡ flat_map (λ p. ticks_from (h p) 0 (suc (length p.acts))) plans
map-table f h [] same = refl
map-table f h (p ∷ plans) same =
    let a = map-from f (h p) p.sheet 0 (length p.acts) (λ j le. same p (Contains-here p plans) j (omega arith)) in
    let b = map-table f h plans (λ q inside i le. same q (Contains-later p plans q inside) i le) in
    map-append f (points_from p.sheet 0 (length p.acts)) (table_of plans) ∙ (λ k. a k ++ b k)

-- the ticks one after another are those of the points by number
spot-behind : (xs ys : List Spot) (k : ℕ) → spot_at (xs ++ ys) (length xs + k) ≡ spot_at ys k
spot-behind xs ys k = ap spot_in (get-right xs ys k)

ticks-same : (all plans : List Plan) → ((p : Plan) → Contains plans p → (plan_of p.sheet all ≡ Some p) × (length p.points ≡ length p.acts + 1)) → (i : ℕ) → slice_index (ticks_in plans) i ≡ ticks_of all (spot_at (table_of plans) i)
ticks-same all [] known i = refl
ticks-same all (p ∷ plans) known i = elim (cases_lt i (length p.points)) [
  | inl here ↦ (
      let k = known p (Contains-here p plans) in
      let l = length-points p.sheet 0 (length p.acts) in
      let e : 0 + i ≡ i = omega arith in
      let count = k.1 in
      let spot : spot_at (table_of (p ∷ plans)) i ≡ kept p.sheet i = ap spot_in (slice_get_left (points_from p.sheet 0 (length p.acts)) (table_of plans) i (omega arith) ∙ points-get p.sheet 0 (length p.acts) i (omega arith) ∙ ap (λ j. Some (kept p.sheet j)) e) in
      get_or_append_left p.points (ticks_in plans) 0 i here ∙ sym (ap (λ o. point_in o i) k.0) ∙ ap (ticks_of all) (sym spot))
  | inr behind ↦ (
      let k = known p (Contains-here p plans) in
      let l = length-points p.sheet 0 (length p.acts) in
      let count = k.1 in
      let e : i ≡ length p.points + (i - length p.points) = omega arith in
      let f : i ≡ length (points_from p.sheet 0 (length p.acts)) + (i - length p.points) = omega arith in
      ap (slice_index (ticks_in (p ∷ plans))) e ∙ get_or-append-add p.points (ticks_in plans) (i - length p.points) 0
      ∙ ticks-same all plans (λ q inside. known q (Contains-later p plans q inside)) (i - length p.points)
      ∙ ap (ticks_of all) (sym (spot-behind (points_from p.sheet 0 (length p.acts)) (table_of plans) (i - length p.points)) ∙ ap (λ j. spot_at (table_of (p ∷ plans)) j) (sym f)))
]

pub ticks-by-number : (plans : List Plan) → InOrder plans → ((p : Plan) → Contains plans p → length p.points ≡ length p.acts + 1) → (i : ℕ) → slice_index (ticks_in plans) i ≡ ticks_of plans (spot_at (table_of plans) i)
ticks-by-number plans in_order formed i = ticks-same plans plans (λ p inside. (plan_of-itself plans p in_order inside, formed p inside)) i

pub length-ticks : (plans : List Plan) → ((p : Plan) → Contains plans p → length p.points ≡ length p.acts + 1) → length (ticks_in plans) ≡ point_count plans
length-ticks [] formed = refl
length-ticks (p ∷ plans) formed =
    let one = formed p (Contains-here p plans) in
    let rest = length-ticks plans (λ q inside. formed q (Contains-later p plans q inside)) in
    let a = length-append p.points (ticks_in plans) in
    omega arith
