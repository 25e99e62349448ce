-- The edges along the asked copy's line.
use Rattle.std.proofs.Common.{◌≡◌, ℕ, zero, suc, ◌+◌, ◌-◌, ◌<◌, ◌≤◌, ◌&&◌, Bool, true, false, drop, List, [], ◌∷◌, ◌++◌, length, map, refl, ap, sym, ◌∙◌, subst, arith, Option, Some, None, All, AllPairs, get_or, pos}
use Rattle.std.specs.List.{slice_get}
use Rattle.std.specs.Prelude.{IfSome}
use Rattle.std.proofs.lemmas.Int.{ints}
use Rattle.std.proofs.lemmas.Option.{slice_get_within, slice_get_read, slice_get-get_or}
use Rattle.std.proofs.lemmas.List.{append_assoc, length-append, map-append}
use Rattle.std.proofs.lemmas.List.Elements.{All-append, All-cons, All-contains, All-nil}
use Rattle.tp_schedule.proofs.Pairs.{AllPairs-head, AllPairs-tail}
use Rattle.tp_base.specs.declared.edges.Edge.{Edge}
use Rattle.tp_base.specs.declared.edges.PointId.{PointId}
use Rattle.tp_schedule.specs.Plans.{IsEarlier, is_before}
use Rattle.tp_schedule.proofs.CopyFacts.{before-asym, before-trans}
use Rattle.tp_schedule.specs.Spots.{Spot}
use Rattle.tp_schedule.specs.Spots.Spot.{kept, own}
use Rattle.tp_schedule.specs.declared.parts.Ask.{Ask}
use Rattle.tp_schedule.specs.declared.parts.Plan.{Plan}
use Rattle.tp_constraints.specs.Gaps.{gap, end_spot, is_in_line}
use Rattle.tp_constraints.specs.Numbers.{gap_by, points_from, spot_at, table_of}
use Rattle.tp_placing.specs.Causes.{line_tag}
use Rattle.tp_placing.specs.Edges.{edge_of, edge_to, end_edges, end_if, first_end, first_of, is_ahead, is_behind, last_end, line_edge, plan_end}
use Rattle.tp_placing.specs.LoadedBoard.{AreFirsts, table_with}
use Rattle.tp_placing.specs.ReadOrders.{IsEndIn}
use Rattle.tp_base.specs.Grows.{IsKnown}
use Rattle.tp_placing.proofs.LineEnds.{read-at}
use Rattle.tp_placing.proofs.LoadHolds.{drop-get}
use Rattle.tp_placing.proofs.NearFacts.{Found, first-found, first_plan, gap_from, gap_to, last-found, last_plan, near_gaps, plan_if}
use Rattle.tp_placing.proofs.TableFacts.{begins-at, get-right, length-firsts, length-points, points-get, table-own}
use Rattle.tp_base.proofs.SliceFacts.{slice_get_left}

-- a conjunction of which the second part fails
and-false : (a b : Bool) → b ≡ false → (a && b) ≡ false
and-false true b e = e
and-false false b e = refl

and-right : (a b : Bool) → (a && b) ≡ true → b ≡ true
and-right true b e = e
and-right false true e = refl
and-right false false e = e

-- among plans in order, where one is ahead of the ask and none behind it is: it is the last one ahead, and none before it is behind
not-behind : (ask : Ask) (p : Plan) → is_before p.sheet ask.sheet ≡ true → is_behind ask p ≡ false
not-behind ask p e = and-false (is_in_line ask.goal p) (is_before ask.sheet p.sheet) (before-asym p.sheet ask.sheet e)

pub last-ahead : (ask : Ask) (plans : List Plan) (firsts : List PointId) (k : ℕ) (p : Plan) (d : PointId) → length firsts ≡ length plans → k < length plans → p ≡ get_or plans k p → is_ahead ask p ≡ true
    → last_end (is_ahead ask) (drop (suc k) plans) (drop (suc k) firsts) ≡ None → last_end (is_ahead ask) plans firsts ≡ Some (plan_end p (get_or firsts k d))
last-ahead ask [] firsts k p d h within is ahead none = absurd (omega arith)
last-ahead ask (q ∷ plans) [] k p d h within is ahead none = absurd (omega arith)
last-ahead ask (q ∷ plans) (f ∷ firsts) zero p d h within is ahead none =
    let wanted : is_ahead ask q ≡ true = subst (λ r. is_ahead ask r ≡ true) is ahead in
    (λ i. first_of (none i) (end_if (wanted i) (plan_end q f))) ∙ ap (λ r. Some (plan_end r f)) (sym is)
last-ahead ask (q ∷ plans) (f ∷ firsts) (suc k) p d h within is ahead none =
    ap (λ o. first_of o (end_if (is_ahead ask q) (plan_end q f))) (last-ahead ask plans firsts k p d (omega arith) (omega arith) is ahead none)

pub first-behind : (ask : Ask) (plans : List Plan) (firsts : List PointId) (k : ℕ) (p : Plan) → AllPairs IsEarlier plans → length firsts ≡ length plans → k < length plans → p ≡ get_or plans k p → is_ahead ask p ≡ true
    → first_end (is_behind ask) plans firsts ≡ first_end (is_behind ask) (drop (suc k) plans) (drop (suc k) firsts)
first-behind ask [] firsts k p in_order h within is ahead = absurd (omega arith)
first-behind ask (q ∷ plans) [] k p in_order h within is ahead = absurd (omega arith)
first-behind ask (q ∷ plans) (f ∷ firsts) zero p in_order h within is ahead =
    let before : is_before q.sheet ask.sheet ≡ true = subst (λ (r : Plan). is_before r.sheet ask.sheet ≡ true) is (and-right (is_in_line ask.goal p) (is_before p.sheet ask.sheet) ahead) in
    let none = not-behind ask q before in
    λ i. first_of (end_if (none i) (plan_end q f)) (first_end (is_behind ask) plans firsts)
first-behind ask (q ∷ plans) (f ∷ firsts) (suc k) p in_order h within is ahead =
    let here : k < length plans = omega arith in
    let earlier : is_before q.sheet p.sheet ≡ true = All-contains (IsEarlier q) plans p (AllPairs-head IsEarlier q plans in_order) (k, here, sym is) in
    let before = before-trans q.sheet p.sheet ask.sheet earlier (and-right (is_in_line ask.goal p) (is_before p.sheet ask.sheet) ahead) in
    let none = not-behind ask q before in
    (λ i. first_of (end_if (none i) (plan_end q f)) (first_end (is_behind ask) plans firsts))
    ∙ first-behind ask plans firsts k p (AllPairs-tail IsEarlier q plans in_order) (omega arith) here is ahead

-- one plan more at the front of those that were looked at
module _ (plans : List Plan) (firsts : List PointId) (left : ℕ) (p : Plan) (d : PointId) (same : length firsts ≡ length plans) (some : 0 < left) (within : left ≤ length plans) (read : p ≡ get_or plans (left - 1) p) where
  next : left - 1 + 1 ≡ left
  next = omega arith

  pub plans-back : drop (left - 1) plans ≡ p ∷ drop left plans
  plans-back = drop-get plans (left - 1) p (read-at plans (left - 1) p (omega arith) read) ∙ ap (λ k. p ∷ drop k plans) next

  pub firsts-back : drop (left - 1) firsts ≡ get_or firsts (left - 1) d ∷ drop left firsts
  firsts-back = drop-get firsts (left - 1) (get_or firsts (left - 1) d) (slice_get-get_or firsts (left - 1) d (omega arith)) ∙ ap (λ k. get_or firsts (left - 1) d ∷ drop k firsts) next

-- there are at most two edges, with the tag of lines
pub length-edges : (ask : Ask) (plans : List Plan) (firsts : List PointId) (end : PointId) → length (end_edges ask plans firsts end) ≤ 2
length-edges ask plans firsts end = go (last_end (is_ahead ask) plans firsts) (first_end (is_behind ask) plans firsts) where
  go : (a b : Option PointId) → length (edge_to a end ++ line_edge end b) ≤ 2
  go None None = omega arith
  go None (Some y) = omega arith
  go (Some x) None = omega arith
  go (Some x) (Some y) = omega arith

pub end-tags : (ask : Ask) (plans : List Plan) (firsts : List PointId) (end : PointId) → All (λ e. e.tag ≡ line_tag) (end_edges ask plans firsts end)
end-tags ask plans firsts end = All-append Tag (edge_to (last_end (is_ahead ask) plans firsts) end) (line_edge end (first_end (is_behind ask) plans firsts)) (to (last_end (is_ahead ask) plans firsts)) (from end (first_end (is_behind ask) plans firsts)) where
  Tag : Edge → Type 0
  Tag e = e.tag ≡ line_tag

  from : (x : PointId) (o : Option PointId) → All (λ e. e.tag ≡ line_tag) (line_edge x o)
  from x None = All-nil Tag
  from x (Some y) = All-cons Tag (edge_of x y (pos 1) line_tag) [] refl (All-nil Tag)

  to : (o : Option PointId) → All (λ e. e.tag ≡ line_tag) (edge_to o end)
  to None = All-nil Tag
  to (Some x) = from x (Some end)

-- where each plan's last point is in the table
abbrev EndsInTable : List Spot → List Plan → List PointId → Type 0
EndsInTable table [] firsts = Unit {0}
EndsInTable table (p ∷ plans) [] = Unit {0}
EndsInTable table (p ∷ plans) (f ∷ firsts) = (slice_get table (plan_end p f).0 ≡ Some (end_spot p)) × EndsInTable table plans firsts

-- an end is that of a plan
abbrev IsEndOf : List Spot → Option PointId → Option Plan → Type 0
IsEndOf table None None = Unit {0}
IsEndOf table None (Some p) = ⊥
IsEndOf table (Some x) None = ⊥
IsEndOf table (Some x) (Some p) = slice_get table x.0 ≡ Some (end_spot p)

first-is : (table : List Spot) (a b : Option PointId) (p q : Option Plan) → IsEndOf table a p → IsEndOf table b q → IsEndOf table (first_of a b) (first_of p q)
first-is table None b None q x y = y
first-is table None b (Some p) q x y = absurd x
first-is table (Some e) b None q x y = absurd x
first-is table (Some e) b (Some p) q x y = x

if-is : (table : List Spot) (b : Bool) (p : Plan) (f : PointId) → slice_get table (plan_end p f).0 ≡ Some (end_spot p) → IsEndOf table (end_if b (plan_end p f)) (plan_if b p)
if-is table true p f at = at
if-is table false p f at = tt

last-is : (table : List Spot) (wanted : Plan → Bool) (plans : List Plan) (firsts : List PointId) → length firsts ≡ length plans → EndsInTable table plans firsts → IsEndOf table (last_end wanted plans firsts) (last_plan wanted plans)
last-is table wanted [] firsts h e = tt
last-is table wanted (p ∷ plans) [] h e = absurd (omega arith)
last-is table wanted (p ∷ plans) (f ∷ firsts) h e =
    first-is table (last_end wanted plans firsts) (end_if (wanted p) (plan_end p f)) (last_plan wanted plans) (plan_if (wanted p) p) (last-is table wanted plans firsts (omega arith) e.1) (if-is table (wanted p) p f e.0)

beside-is : (table : List Spot) (wanted : Plan → Bool) (plans : List Plan) (firsts : List PointId) → length firsts ≡ length plans → EndsInTable table plans firsts → IsEndOf table (first_end wanted plans firsts) (first_plan wanted plans)
beside-is table wanted [] firsts h e = tt
beside-is table wanted (p ∷ plans) [] h e = absurd (omega arith)
beside-is table wanted (p ∷ plans) (f ∷ firsts) h e =
    first-is table (end_if (wanted p) (plan_end p f)) (first_end wanted plans firsts) (plan_if (wanted p) p) (first_plan wanted plans) (if-is table (wanted p) p f e.0) (beside-is table wanted plans firsts (omega arith) e.1)

-- the edges are the gaps to the plans, and between points of the table
to-gaps : (table : List Spot) (end : PointId) (o : Option PointId) (p : Option Plan) → IsEndOf table o p → spot_at table end.0 ≡ own 0 → map (gap_by table) (edge_to o end) ≡ gap_to p
to-gaps table end None None at own_is = refl
to-gaps table end None (Some p) at own_is = absurd at
to-gaps table end (Some x) None at own_is = absurd at
to-gaps table end (Some x) (Some p) at own_is = let a : spot_at table x.0 ≡ end_spot p = rw at refl in λ i. gap (a i) (own_is i) (pos 1) ∷ []

from-gaps : (table : List Spot) (end : PointId) (o : Option PointId) (p : Option Plan) → IsEndOf table o p → spot_at table end.0 ≡ own 0 → map (gap_by table) (line_edge end o) ≡ gap_from p
from-gaps table end None None at own_is = refl
from-gaps table end None (Some p) at own_is = absurd at
from-gaps table end (Some x) None at own_is = absurd at
from-gaps table end (Some x) (Some p) at own_is = let a : spot_at table x.0 ≡ end_spot p = rw at refl in λ i. gap (own_is i) (a i) (pos 1) ∷ []

one-can : (points : ℕ) (x y : PointId) → x.0 < points → y.0 < points → All (IsKnown points) (edge_of x y (pos 1) line_tag ∷ [])
one-can points x y a b = All-cons (IsKnown points) (edge_of x y (pos 1) line_tag) [] (record { from = a; to = b; least = omega (arith, ints); most = omega (arith, ints) }) (All-nil (IsKnown points))

to-can : (table : List Spot) (end : PointId) (o : Option PointId) (p : Option Plan) → IsEndOf table o p → end.0 < length table → All (IsKnown (length table)) (edge_to o end)
to-can table end None p at within = All-nil (IsKnown (length table))
to-can table end (Some x) None at within = absurd at
to-can table end (Some x) (Some p) at within = one-can (length table) x end (slice_get_within table x.0 (end_spot p) at) within

from-can : (table : List Spot) (end : PointId) (o : Option PointId) (p : Option Plan) → IsEndOf table o p → end.0 < length table → All (IsKnown (length table)) (line_edge end o)
from-can table end None p at within = All-nil (IsKnown (length table))
from-can table end (Some x) None at within = absurd at
from-can table end (Some x) (Some p) at within = one-can (length table) end x within (slice_get_within table x.0 (end_spot p) at)

-- the last point of a plan that was read fits
pub end-fits : (plans : List Plan) (firsts : List PointId) (i : ℕ) (p : Plan) (d : PointId) → AreFirsts 0 plans firsts → i < length plans → p ≡ get_or plans i p → (get_or firsts i d).0 + length p.acts < length (table_of plans)
end-fits plans firsts i p d a within read =
    let l = length-firsts 0 plans firsts a in
    let at = slice_get_read plans (length plans) i p refl within read in
    let f = slice_get-get_or firsts i d (omega arith) in
    let b = begins-at 0 plans firsts i p (get_or firsts i d) a at f in
    let e = b.1 in
    let w = slice_get_within (table_of plans) (b.0 + length p.acts) _ (b.2.get (length p.acts) (omega arith)) in
    omega arith

-- the last points of all plans are in the table
ends-in : (n : ℕ) (before : List Spot) (plans : List Plan) (firsts : List PointId) → length before ≡ n → AreFirsts n plans firsts → EndsInTable (before ++ table_of plans) plans firsts
ends-in n before [] firsts l a = tt
ends-in n before (p ∷ plans) [] l a = absurd a
ends-in n before (p ∷ plans) (f ∷ firsts) l a =
    let own_points = points_from p.sheet 0 (length p.acts) in
    let k = length-points p.sheet 0 (length p.acts) in
    let m = length-append before own_points in
    let first = a.0 in
    let at : f.0 + length p.acts ≡ length before + length p.acts = omega arith in (
      ap (λ j. slice_get (before ++ (own_points ++ table_of plans)) j) at ∙ get-right before (own_points ++ table_of plans) (length p.acts)
          ∙ slice_get_left own_points (table_of plans) (length p.acts) (omega arith) ∙ points-get p.sheet 0 (length p.acts) (length p.acts) (omega arith)
          ∙ (let e : 0 + length p.acts ≡ length p.acts = omega arith in ap (λ j. Some (kept p.sheet j)) e),
      subst (λ t. EndsInTable t plans firsts) (append_assoc before own_points (table_of plans)) (ends-in (n + suc (length p.acts)) (before ++ own_points) plans firsts (omega arith) a.1),
    )

EndsInTable-more : (table more : List Spot) (plans : List Plan) (firsts : List PointId) → EndsInTable table plans firsts → EndsInTable (table ++ more) plans firsts
EndsInTable-more table more [] firsts e = tt
EndsInTable-more table more (p ∷ plans) [] e = tt
EndsInTable-more table more (p ∷ plans) (f ∷ firsts) e =
    (slice_get_left table more (plan_end p f).0 (slice_get_within table (plan_end p f).0 (end_spot p) e.0) ∙ e.0, EndsInTable-more table more plans firsts e.1)

-- the edges of an opened goal are the gaps to the plans next to it in its line
module _ (ask : Ask) (plans : List Plan) (firsts : List PointId) (end : PointId) (a : AreFirsts 0 plans firsts) (end_is : end.0 ≡ length (table_of plans)) where
  in-table : EndsInTable (table_with plans 1) plans firsts
  in-table = EndsInTable-more (table_of plans) (own 0 ∷ []) plans firsts (ends-in 0 [] plans firsts refl a)

  end-own : slice_get (table_with plans 1) end.0 ≡ Some (own 0)
  end-own = let e : end.0 ≡ length (table_of plans) + 0 = omega arith in ap (λ k. slice_get (table_with plans 1) k) e ∙ table-own plans 1 0 (omega arith)

  ahead-is : IsEndOf (table_with plans 1) (last_end (is_ahead ask) plans firsts) (last_plan (is_ahead ask) plans)
  ahead-is = last-is (table_with plans 1) (is_ahead ask) plans firsts (length-firsts 0 plans firsts a) in-table

  behind-is : IsEndOf (table_with plans 1) (first_end (is_behind ask) plans firsts) (first_plan (is_behind ask) plans)
  behind-is = beside-is (table_with plans 1) (is_behind ask) plans firsts (length-firsts 0 plans firsts a) in-table

  pub goal-gaps : map (gap_by (table_with plans 1)) (end_edges ask plans firsts end) ≡ near_gaps ask plans
  goal-gaps =
      let x = to-gaps (table_with plans 1) end _ _ ahead-is (rw end-own refl) in
      let y = from-gaps (table_with plans 1) end _ _ behind-is (rw end-own refl) in
      map-append (gap_by (table_with plans 1)) (edge_to (last_end (is_ahead ask) plans firsts) end) (line_edge end (first_end (is_behind ask) plans firsts)) ∙ (λ i. x i ++ y i)

  pub goal-can : All (IsKnown (length (table_with plans 1))) (end_edges ask plans firsts end)
  goal-can =
      let within = slice_get_within (table_with plans 1) end.0 _ end-own in
      All-append (IsKnown (length (table_with plans 1))) (edge_to (last_end (is_ahead ask) plans firsts) end) (line_edge end (first_end (is_behind ask) plans firsts))
      (to-can (table_with plans 1) end _ _ ahead-is within) (from-can (table_with plans 1) end _ _ behind-is within)

-- the ends that are found are those of plans that are sought
end-in : (sought : Plan → Bool) (plans : List Plan) (o : Option PointId) (q : Option Plan) → IsEndOf (table_of plans) o q → Found sought plans q → IfSome o (IsEndIn sought plans)
end-in sought plans None q at found = tt
end-in sought plans (Some x) None at found = absurd at
end-in sought plans (Some x) (Some p) at found = record { plan = p; in_plans = found.0; is_sought = found.1; end = at }

pub last-end-in : (sought : Plan → Bool) (plans : List Plan) (firsts : List PointId) → AreFirsts 0 plans firsts → IfSome (last_end sought plans firsts) (IsEndIn sought plans)
last-end-in sought plans firsts a =
    end-in sought plans (last_end sought plans firsts) (last_plan sought plans) (last-is (table_of plans) sought plans firsts (length-firsts 0 plans firsts a) (ends-in 0 [] plans firsts refl a)) (last-found sought plans)

pub first-end-in : (sought : Plan → Bool) (plans : List Plan) (firsts : List PointId) → AreFirsts 0 plans firsts → IfSome (first_end sought plans firsts) (IsEndIn sought plans)
first-end-in sought plans firsts a =
    end-in sought plans (first_end sought plans firsts) (first_plan sought plans) (beside-is (table_of plans) sought plans firsts (length-firsts 0 plans firsts a) (ends-in 0 [] plans firsts refl a)) (first-found sought plans)
