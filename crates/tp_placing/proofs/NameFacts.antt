-- The points of a board by their numbers, and their names.
use Rattle.std.proofs.Common.{◌≡◌, ℕ, suc, ◌+◌, ◌-◌, ◌<◌, ◌≤◌, List, [], ◌∷◌, length, refl, ap, sym, ◌∙◌, subst, arith, get_or, All, Some, Contains}
use Rattle.std.specs.Prelude.{slice_get, option_map}
use Rattle.std.specs.List.{AllWithin}
use Rattle.std.specs.List.Sorted.{IsNonDecreasingBy}
use Rattle.std.proofs.lemmas.List.Elements.{All-contains}
use Rattle.std.proofs.lemmas.Option.{slice_get_read}
use Rattle.tp_base.specs.Readings.{Reading}
use Rattle.tp_base.specs.declared.edges.PointId.{PointId}
use Rattle.tp_machine.specs.declared.machine.Machine.{Machine}
use Rattle.tp_schedule.proofs.CopyFacts.{plan_of-itself}
use Rattle.tp_schedule.proofs.Membership.{All-from_contains}
use Rattle.tp_schedule.specs.Plans.{IsTimedPlan, plan_of}
use Rattle.tp_schedule.specs.Spots.Spot.{kept}
use Rattle.tp_schedule.specs.declared.parts.Plan.{Plan}
use Rattle.tp_schedule.specs.declared.records.SheetName.{SheetName}
use Rattle.tp_constraints.proofs.Lists.{contains-get}
use Rattle.tp_constraints.specs.Numbers.{table_of}
use Rattle.tp_placing.specs.declared.reason_names.Grip.TheVariants.{Kept as KeptGrip}
use Rattle.tp_placing.specs.declared.reason_names.Spot.TheVariants.{Kept as KeptSpot}
use Rattle.tp_placing.specs.Boards.{BoardValue}
use Rattle.tp_placing.specs.Causes.{grip_name, name_of_plan, numbered, spot_name}
use Rattle.tp_placing.specs.LoadedNet.{HasPoints, firsts_from}
use Rattle.tp_placing.specs.LoadedHolds.{ticks_in}
use Rattle.tp_placing.specs.LoadedBoard.{AreFirsts, Stands}
use Rattle.tp_placing.proofs.CauseFacts.{numbered-in}
use Rattle.tp_placing.proofs.LoadTable.{length-table-of, length-ticks}
use Rattle.tp_placing.proofs.LoadTicks.{count-few, firsts-rise, from-first, in-plan, some-before}
use Rattle.tp_placing.proofs.TableFacts.{begins-at}

-- the first points are given by the plans
pub firsts-only : (n : ℕ) (plans : List Plan) (firsts : List PointId) → AreFirsts n plans firsts → firsts ≡ firsts_from n plans
firsts-only n [] [] a = refl
firsts-only n [] (f ∷ firsts) a = absurd a
firsts-only n (p ∷ plans) [] a = absurd a
firsts-only n (p ∷ plans) (f ∷ firsts) a =
    let e : n + suc (length p.acts) ≡ n + length p.acts + 1 = omega arith in
    let rest = firsts-only (n + length p.acts + 1) plans firsts (subst (λ k. AreFirsts k plans firsts) e a.1) in
    let first = a.0 in
    λ i. record { 0 = first i } ∷ rest i

-- so many first points are at most this one
pub record CountsTo (firsts : List PointId) (point count : ℕ) : Type 0 where
  pub few : count ≤ length firsts
  pub before : AllWithin (λ (f : PointId). f.0 ≤ point) firsts 0 count
  pub behind : AllWithin (λ (f : PointId). point < f.0) firsts count (length firsts)

-- the place of a plan and of its first point, where so many first points were counted
pub record IsPlace (plans : List Plan) (firsts : List PointId) (count : ℕ) : Type 0 where
  pub some : 1 ≤ count
  pub plan : count - 1 < length plans
  pub first : count - 1 < length firsts

-- the point of this number is one of the plan's, whose first point is f
pub record IsKeptPoint (plans : List Plan) (point : ℕ) (p : Plan) (f : PointId) : Type 0 where
  pub from : f.0 ≤ point
  pub few : point - f.0 ≤ 64
  pub planned : plan_of p.sheet plans ≡ Some p
  pub spot : numbered plans point ≡ kept p.sheet (point - f.0)

pub kept-spot : (plans : List Plan) (point : ℕ) (p : Plan) (f : PointId) (name : SheetName) → IsKeptPoint plans point p f → name ≡ name_of_plan p → spot_name plans (numbered plans point) ≡ Some (KeptSpot name (point - f.0))
kept-spot plans point p f name k is =
    ap (spot_name plans) k.spot ∙ ap (option_map (λ q. KeptSpot (name_of_plan q) (point - f.0))) k.planned ∙ ap (λ n. Some (KeptSpot n (point - f.0))) (sym is)

pub kept-grip : (plans : List Plan) (point : ℕ) (p : Plan) (f : PointId) (name : SheetName) → IsKeptPoint plans point p f → name ≡ name_of_plan p → grip_name plans (numbered plans point) ≡ Some (KeptGrip name (point - f.0 + 1))
kept-grip plans point p f name k is =
    ap (grip_name plans) k.spot ∙ ap (option_map (λ q. KeptGrip (name_of_plan q) (point - f.0 + 1))) k.planned ∙ ap (λ n. Some (KeptGrip n (point - f.0 + 1))) (sym is)

module _ {N : Type 0} (reading : Reading N) (b : BoardValue N) (stands : (m : Machine) × Stands reading b m) where
  timed : All (IsTimedPlan stands.0) b.plans
  timed = stands.1.1.loadable.legal.timed

  have-points : (p : Plan) → Contains b.plans p → HasPoints p
  have-points p inside = (All-contains (IsTimedPlan stands.0) b.plans p timed inside).one_more

  formed : All HasPoints b.plans
  formed = All-from_contains HasPoints b.plans have-points

  from-zero : b.firsts ≡ firsts_from 0 b.plans
  from-zero = firsts-only 0 b.plans b.firsts stands.1.1.firsts

  pub first-own : b.last.0 ≡ length (table_of b.plans)
  first-own = stands.1.1.last

  -- the first points that are shown are the board's
  pub shown-rise : (shown : List PointId) → shown ≡ b.firsts → IsNonDecreasingBy (λ (f : PointId). f.0) shown
  shown-rise shown same = subst (IsNonDecreasingBy (λ (f : PointId). f.0)) (sym (same ∙ from-zero)) (firsts-rise b.plans)

  module _ (point : ℕ) (below : point < b.last.0) (shown : List PointId) (same : shown ≡ b.firsts) (count : ℕ) (counted : CountsTo shown point count) where
    here : CountsTo b.firsts point count
    here = subst (λ fs. CountsTo fs point count) same counted

    within : point < length (ticks_in b.plans)
    within =
        let l = length-ticks b.plans have-points in
        let t = length-table-of b.plans in
        let o = first-own in
        omega arith

    pub is-place : IsPlace b.plans b.firsts count
    is-place =
        let s = some-before b.plans b.firsts formed from-zero point within count here.few here.before here.behind in
        let m = count-few b.plans b.firsts formed from-zero point within count here.few here.before here.behind in
        let f = here.few in
        record { some = s; plan = omega arith; first = omega arith }

    pub kept-point : (p : Plan) (f : PointId) → p ≡ get_or b.plans (count - 1) p → f ≡ get_or b.firsts (count - 1) f → IsKeptPoint b.plans point p f
    kept-point p f is first =
        let k = is-place in
        let x = slice_get_read b.plans (length b.plans) (count - 1) p refl k.plan is in
        let y = slice_get_read b.firsts (length b.firsts) (count - 1) f refl k.first first in
        let inside = contains-get b.plans (count - 1) p x in
        let t = All-contains (IsTimedPlan stands.0) b.plans p timed inside in
        let from : f.0 ≤ point = subst (λ (g : PointId). g.0 ≤ point) (sym first) (from-first b.plans b.firsts formed from-zero point within count here.few here.before here.behind f) in
        let read : point - (get_or b.firsts (count - 1) f).0 < length (get_or b.plans (count - 1) p).points = in-plan b.plans b.firsts formed from-zero point within count here.few here.before here.behind f p in
        let few : point - f.0 < length p.points = subst (λ (g : PointId). point - g.0 < length p.points) (sym first) (subst (λ (q : Plan). point - (get_or b.firsts (count - 1) f).0 < length q.points) (sym is) read) in
        let more = t.one_more in
        let most = t.at_most in
        let begin = begins-at 0 b.plans b.firsts (count - 1) p f stands.1.1.firsts x y in
        let number = begin.1 in
        let at : begin.0 + (point - f.0) ≡ point = omega arith in
        record {
          from = from;
          few = omega arith;
          planned = plan_of-itself b.plans p stands.1.1.loadable.legal.in_order inside;
          spot = numbered-in b.plans 0 point (kept p.sheet (point - f.0)) (ap (slice_get (table_of b.plans)) (sym at) ∙ begin.2.get (point - f.0) (omega arith));
        }
