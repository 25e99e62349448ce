-- A plan more: its points stand behind those of the others, and its edges and holds are hops and slots.
use Rattle.std.proofs.Common.{◌≡◌, ◌∙◌, ℕ, suc, ◌+◌, ◌<◌, ◌≤◌, false, inl, inr, ◌-◌, List, [], ◌∷◌, ◌++◌, All, ap, arith, drop, length, map, refl, subst, sym, take, Option, Some, None}
use Rattle.std.specs.Prelude.{pos, slice_get, unwrap_or}
use Rattle.std.proofs.lemmas.Bool.{cases_lt}
use Rattle.std.proofs.lemmas.Int.{ints}
use Rattle.std.proofs.lemmas.List.{map-append, take-append-drop, take-append-le, take_all}
use Rattle.std.proofs.lemmas.Option.{slice_get_past, slice_get_within}
use Rattle.tp_base.proofs.SliceFacts.{slice_get_left}
use Rattle.tp_base.specs.declared.edges.PointId.{PointId}
use Rattle.tp_machine.specs.ModuleUse.{action_at}
use Rattle.tp_machine.specs.declared.parts.ActId.{ActId}
use Rattle.tp_machine.specs.declared.parts.HoldRule.{HoldRule}
use Rattle.tp_machine.specs.declared.machine.Machine.{Machine}
use Rattle.tp_schedule.specs.Holders.{holds_of_act}
use Rattle.tp_schedule.specs.Spots.{Slot, Spot, slot_order}
use Rattle.tp_schedule.specs.Spots.Spot.{kept, own}
use Rattle.tp_schedule.specs.declared.parts.Ask.{Ask}
use Rattle.tp_schedule.specs.declared.parts.Plan.{Plan}
use Rattle.tp_schedule.specs.declared.parts.SheetId.{SheetId}
use Rattle.tp_choices.proofs.LiveSlots.{slot_of, slots-in}
use Rattle.tp_choices.proofs.SameTicks.{in-slots}
use Rattle.tp_constraints.proofs.HopGaps.{range-hop-gaps}
use Rattle.tp_constraints.proofs.Lists.{contains-get}
use Rattle.tp_constraints.specs.Gaps.{Gap, acts_gaps, end_spot, gap, is_same_line, plan_gaps, range_gaps}
use Rattle.tp_constraints.specs.Hops.{Hop, HopKind, IsHop, acts_hops, hop, hop_after, hop_until, no_choices, place_hops, range_hops}
use Rattle.tp_constraints.specs.Hops.HopKind.{line, order}
use Rattle.tp_constraints.specs.Hops.IsHop.{by_end, by_least, by_line, by_most, by_order, by_stop}
use Rattle.tp_constraints.specs.Numbers.{points_from, spot_at, spot_in, table_of}
use Rattle.tp_constraints.specs.Suffixes.{before_place, gap_after, gap_until, place_gaps}
use Rattle.tp_machine.specs.Modes.{gap_at}
use Rattle.tp_constraints.specs.AddedPlan.{IsLineBefore, with_plan}
use Rattle.tp_constraints.specs.AddedPlan.IsLineBefore.{behind, first_of_line}
use Rattle.tp_constraints.specs.Puts.{Put, held_slots, put_gaps, put_hops, resource_of, rule_slot, with_put}
use Rattle.tp_constraints.proofs.PlanNets.{spot-more, table-more}
use Rattle.tp_placing.specs.Causes.{ArePlain, IsNamedHop, hop_by, kind_of, line_tag, numbered}
use Rattle.tp_placing.specs.Edges.{edge_of}
use Rattle.tp_placing.specs.AddedEdges.{AreHops, IsLineEnd, behind_edge, own_edges, slot_by}
use Rattle.tp_placing.specs.AddedEdges.IsLineEnd.{line_end, no_end}
use Rattle.tp_placing.specs.LoadedNet.{acts_edges, point_id}
use Rattle.tp_placing.specs.LoadedHolds.{held_by, held_from}
use Rattle.tp_placing.specs.LoadedBoard.{AreFirsts}
use Rattle.tp_placing.specs.declared.causes.EdgeCause.{EdgeCause}
use Rattle.tp_placing.specs.declared.causes.EdgeCause.TheVariants.{Back, Forward, Limit, Line, Resource, Stop}
use Rattle.tp_base.specs.declared.edges.Edge.{Edge}
use Rattle.tp_constraints.specs.Numbers.{IsEdgeOf}
use Rattle.tp_placing.proofs.CauseFacts.{numbered-in}
use Rattle.tp_placing.proofs.LoadHolds.{drop-get}
use Rattle.tp_placing.proofs.LoadHops.{acts-hops, hops-append, hops-none, hops-one, number-spot}
use Rattle.tp_placing.proofs.LoadTable.{StandsAt}
use Rattle.tp_placing.proofs.TableFacts.{begins-at, get-right, points-get}

-- ---- its points
pub stands-behind : (plans : List Plan) (p : Plan) (first : ℕ) → first ≡ length (table_of plans) → StandsAt (table_of (with_plan plans p)) first p.sheet 0 (length p.acts)
stands-behind plans p first is = record {
  get = λ i h. (
      ap (λ k. slice_get (table_of (with_plan plans p)) (k + i)) is ∙ ap (λ ss. slice_get ss (length (table_of plans) + i)) (table-more plans p)
      ∙ get-right (table_of plans) (points_from p.sheet 0 (length p.acts)) i ∙ points-get p.sheet 0 (length p.acts) i h);
}

pub end-behind : (plans : List Plan) (p : Plan) (first : ℕ) → first ≡ length (table_of plans) → slice_get (table_of (with_plan plans p)) (first + length p.acts) ≡ Some (end_spot p)
end-behind plans p first is = let e : 0 + length p.acts ≡ length p.acts = omega arith in (stands-behind plans p first is).get (length p.acts) (omega arith) ∙ ap (λ k. Some (kept p.sheet k)) e

pub numbered-more : (plans : List Plan) (p : Plan) (i : ℕ) → i < length (table_of plans) → i < length (table_of (with_plan plans p)) → numbered (with_plan plans p) i ≡ numbered plans i
numbered-more plans p i within more = number-spot (with_plan plans p) i more ∙ spot-more plans p i within ∙ sym (number-spot plans i within)

-- ---- its holds
rules-slots : (table : List Spot) (n : ℕ) (from to : Spot) (rules : List HoldRule) → spot_at table n ≡ from → spot_at table (n + 1) ≡ to → map (slot_by table) (held_by n rules) ≡ map (rule_slot from to) rules
rules-slots table n from to [] a b = refl
rules-slots table n from to (h ∷ rules) a b =
    let rest = rules-slots table n from to rules a b in
    λ i. record { rule = h; from = a i; to = b i } ∷ rest i

pub held-slots : (machine : Machine) (table : List Spot) (n : ℕ) (copy : SheetId) (first : ℕ) (acts : List ActId) → StandsAt table n copy first (length acts) → map (slot_by table) (held_from machine n acts) ≡ held_slots machine copy first acts
held-slots machine table n copy first [] at = refl
held-slots machine table n copy first (act ∷ acts) at =
    let e0 : n ≡ n + 0 = omega arith in
    let f0 : first + 0 ≡ first = omega arith in
    let f1 : first + 1 ≡ suc first = omega arith in
    let a : spot_at table n ≡ kept copy first = ap spot_in (ap (λ k. slice_get table k) e0 ∙ at.get 0 (omega arith) ∙ ap (λ k. Some (kept copy k)) f0) in
    let b : spot_at table (n + 1) ≡ kept copy (suc first) = ap spot_in (at.get 1 (omega arith) ∙ ap (λ k. Some (kept copy k)) f1) in
    let p = rules-slots table n (kept copy first) (kept copy (suc first)) (holds_of_act (action_at machine act.0)) a b in
    let q = held-slots machine table (n + 1) copy (suc first) acts (record {
      get = λ i h. (
          let e : n + 1 + i ≡ n + suc i = omega arith in
          let f : first + suc i ≡ suc first + i = omega arith in
          ap (λ k. slice_get table k) e ∙ at.get (suc i) (omega arith) ∙ ap (λ k. Some (kept copy k)) f);
    }) in
    map-append (slot_by table) (held_by n (holds_of_act (action_at machine act.0))) (held_from machine (n + 1) acts) ∙ (λ i. p i ++ q i)

-- ---- its line
pub split-at : {X : Type 0} (xs : List X) (k : ℕ) (x : X) → slice_get xs k ≡ Some x → xs ≡ take k xs ++ x ∷ drop (suc k) xs
split-at xs k x at =
    let e : k + 1 ≡ suc k = omega arith in
    sym (take-append-drop k xs) ∙ ap (λ ys. take k xs ++ ys) (drop-get xs k x at ∙ ap (λ n. x ∷ drop n xs) e)

module _ (plans : List Plan) (p : Plan) (firsts : List PointId) (causes : List EdgeCause) (plain : ArePlain causes) (end : PointId)
    (at-end : slice_get (table_of (with_plan plans p)) end.0 ≡ Some (end_spot p)) (are : AreFirsts 0 (with_plan plans p) firsts) where
  abbrev all : List Plan
  all = with_plan plans p

  abbrev HasLine : Option PointId → Type 0
  HasLine o = (lines : List Gap) × IsLineBefore plans p lines × AreHops all causes (behind_edge o end) (map (hop line) lines)

  others : take (length plans) all ≡ plans
  others = take-append-le (length plans) plans (p ∷ []) (omega arith) ∙ take_all (length plans) plans (omega arith)

  pub line-before : (o : Option PointId) → IsLineEnd all firsts (length plans) p o → HasLine o
  line-before o (no_end none) = ([], first_of_line (subst (All (λ q. is_same_line q p ≡ false)) others none), hops-none all causes)
  line-before o (line_end place q first before less at f end-is same none) =
      let here : slice_get plans place ≡ Some q = sym (slice_get_left plans (p ∷ []) place less) ∙ at in
      let b = begins-at 0 all firsts place q first are at f in
      let number : before.0 ≡ b.0 + length q.acts = (let e = b.1 in omega arith) in
      let spot : slice_get (table_of all) before.0 ≡ Some (end_spot q) = ap (slice_get (table_of all)) number ∙ b.2.get (length q.acts) (omega arith) in
      let from = numbered-in all 0 before.0 (end_spot q) spot in
      let to = numbered-in all 0 end.0 (end_spot p) at-end in
      let kind = ap (kind_of all) plain.line in
      let slots = plain.slots in (
        gap (end_spot q) (end_spot p) (pos 1) ∷ [],
        behind (take place plans) (drop (suc place) plans) q (split-at plans place q here) same (subst (λ qs. All (λ r. is_same_line r p ≡ false) (drop (suc place) qs)) others none),
        hops-one all causes (edge_of before end (pos 1) line_tag) (hop line (gap (end_spot q) (end_spot p) (pos 1))) (λ i. hop (kind i) (gap (from i) (to i) (pos 1)))
            (record { from = slice_get_within (table_of all) before.0 (end_spot q) spot; to = slice_get_within (table_of all) end.0 (end_spot p) at-end; least = omega (arith, ints); most = omega (arith, ints) })
            (omega arith) (inl (omega arith)),
      )

-- all its own edges are hops
pub own-hops : (machine : Machine) (plans : List Plan) (p : Plan) (firsts : List PointId) (causes : List EdgeCause) (first : PointId) (o : Option PointId) → ArePlain causes → AreFirsts 0 (with_plan plans p) firsts
    → first.0 ≡ length (table_of plans) → IsLineEnd (with_plan plans p) firsts (length plans) p o
    → (lines : List Gap) × IsLineBefore plans p lines × AreHops (with_plan plans p) causes (own_edges machine first p o) (acts_hops machine p.sheet 0 p.acts ++ map (hop line) lines)
own-hops machine plans p firsts causes first o plain are is ends =
    let l = line-before plans p firsts causes plain (point_id (first.0 + length p.acts)) (end-behind plans p first.0 is) are o ends in (
      l.0,
      l.1,
      hops-append (with_plan plans p) causes (acts_edges machine first.0 p.acts) (behind_edge o (point_id (first.0 + length p.acts))) (acts_hops machine p.sheet 0 p.acts) (map (hop line) l.0)
          (acts-hops (with_plan plans p) causes plain machine first.0 p.sheet 0 p.acts (stands-behind plans p first.0 is)) l.2,
    )

-- ---- their gaps
abbrev gaps_of : List Hop → List Gap
gaps_of hs = map (λ (h : Hop). h.gap) hs

both-gaps : (xs ys : List Hop) (gs hs : List Gap) → gaps_of xs ≡ gs → gaps_of ys ≡ hs → gaps_of (xs ++ ys) ≡ gs ++ hs
both-gaps xs ys gs hs x y = map-append (λ (h : Hop). h.gap) xs ys ∙ (λ i. x i ++ y i)

kind-gaps : (kind : HopKind) (gs : List Gap) → gaps_of (map (hop kind) gs) ≡ gs
kind-gaps kind [] = refl
kind-gaps kind (g ∷ gs) = ap (λ zs. g ∷ zs) (kind-gaps kind gs)

acts-gaps : (machine : Machine) (copy : SheetId) (n : ℕ) (acts : List ActId) → gaps_of (acts_hops machine copy n acts) ≡ acts_gaps machine copy n acts
acts-gaps machine copy n [] = refl
acts-gaps machine copy n (act ∷ acts) =
    both-gaps (range_hops (action_at machine act.0) (kept copy n) (kept copy (suc n))) (acts_hops machine copy (suc n) acts) (range_gaps (action_at machine act.0) (kept copy n) (kept copy (suc n))) (acts_gaps machine copy (suc n) acts)
    (range-hop-gaps (action_at machine act.0) (kept copy n) (kept copy (suc n))) (acts-gaps machine copy (suc n) acts)

after-gaps : (machine : Machine) (r : ℕ) (o : Option Slot) (s : Slot) → gaps_of (hop_after machine r o s) ≡ gap_after (gap_at machine r) o s
after-gaps machine r None s = refl
after-gaps machine r (Some x) s = refl

until-gaps : (machine : Machine) (r : ℕ) (s : Slot) (o : Option Slot) → gaps_of (hop_until machine r s o) ≡ gap_until (gap_at machine r) s o
until-gaps machine r s None = refl
until-gaps machine r s (Some x) = refl

pub put-gaps : (machine : Machine) (puts : List Put) (orders : ℕ → List Slot) → gaps_of (put_hops machine puts orders) ≡ put_gaps machine puts orders
put-gaps machine [] orders = refl
put-gaps machine (x ∷ puts) orders =
    let r = resource_of x in
    let xs = orders (resource_of x) in
    both-gaps (place_hops machine r xs x.place x.slot) (put_hops machine puts (with_put x orders)) (place_gaps (gap_at machine r) xs x.place x.slot) (put_gaps machine puts (with_put x orders))
    (both-gaps (hop_after machine r (before_place xs x.place) x.slot) (hop_until machine r x.slot (slice_get xs x.place)) (gap_after (gap_at machine r) (before_place xs x.place) x.slot) (gap_until (gap_at machine r) x.slot (slice_get xs x.place))
    (after-gaps machine r (before_place xs x.place) x.slot) (until-gaps machine r x.slot (slice_get xs x.place)))
    (put-gaps machine puts (with_put x orders))

pub added-gaps : (machine : Machine) (p : Plan) (lines : List Gap) (puts : List Put) (orders : ℕ → List Slot)
    → gaps_of (acts_hops machine p.sheet 0 p.acts ++ (map (hop line) lines ++ put_hops machine puts orders)) ≡ plan_gaps machine p ++ (lines ++ put_gaps machine puts orders)
added-gaps machine p lines puts orders =
    both-gaps (acts_hops machine p.sheet 0 p.acts) (map (hop line) lines ++ put_hops machine puts orders) (plan_gaps machine p) (lines ++ put_gaps machine puts orders) (acts-gaps machine p.sheet 0 p.acts)
    (both-gaps (map (hop line) lines) (put_hops machine puts orders) lines (put_gaps machine puts orders) (kind-gaps line lines) (put-gaps machine puts orders))

-- ---- the old edges are the same hops
module _ (machine : Machine) (plans : List Plan) (p : Plan) (ask : Ask) where
  -- a hold in an order begins at a point of a plan
  from-kept : (r i : ℕ) (s : Slot) → slice_get (slot_order machine plans r) i ≡ Some s → (n : ℕ) → s.from ≡ own n → ⊥
  from-kept r i s at n is =
      let (q, there, of) = slots-in machine r plans s (in-slots machine plans r s (contains-get (slot_order machine plans r) i s at)) in
      let from = (slot_of machine r q s of).from in
      let same = sym from ∙ is in
      absurd cc

  order-points : (h : Hop) → IsHop machine plans ask no_choices h → (r : ℕ) (a b : Spot) → h.kind ≡ order r a b → ((n : ℕ) → a ≡ own n → ⊥) × ((n : ℕ) → b ≡ own n → ⊥)
  order-points h (by_least x f t run) r a b is = absurd cc
  order-points h (by_most x f t run) r a b is = absurd cc
  order-points h (by_line x y one two before same) r a b is = absurd cc
  order-points h (by_end g c) r a b is = absurd cc
  order-points h (by_order q i j s t less e f) r a b is =
      let x : s.from ≡ a = cc in
      let y : t.from ≡ b = cc in
      (λ n same. from-kept q i s e n (x ∙ same), λ n same. from-kept q j t f n (y ∙ same))
  order-points h (by_stop stopped) r a b is = absurd cc

  no-own-within : (i : ℕ) → ((n : ℕ) → numbered plans i ≡ own n → ⊥) → i < length (table_of plans)
  no-own-within i none = elim (cases_lt i (length (table_of plans))) [
    | inl within ↦ within
    | inr past ↦ absurd (none (i - length (table_of plans)) (ap (λ o. unwrap_or o (own (i - length (table_of plans)))) (slice_get_past (table_of plans) i past)))
  ]

  kind-more : length (table_of plans) ≤ length (table_of (with_plan plans p)) → (c : Option EdgeCause) (g : Gap) → IsHop machine plans ask no_choices (hop (kind_of plans c) g) → kind_of (with_plan plans p) c ≡ kind_of plans c
  kind-more more None g h = refl
  kind-more more (Some Forward) g h = refl
  kind-more more (Some Back) g h = refl
  kind-more more (Some Line) g h = refl
  kind-more more (Some Stop) g h = refl
  kind-more more (Some Limit) g h = refl
  kind-more more (Some (Resource r x y)) g h =
      let points = order-points (hop (kind_of plans (Some (Resource r x y))) g) h r.0 (numbered plans x.0) (numbered plans y.0) refl in
      let one = no-own-within x.0 points.0 in
      let other = no-own-within y.0 points.1 in
      let a = numbered-more plans p x.0 one (omega arith) in
      let b = numbered-more plans p y.0 other (omega arith) in
      λ i. order r.0 (a i) (b i)

  pub hop-same : (causes more : List EdgeCause) (e : Edge) → length (table_of plans) ≤ length (table_of (with_plan plans p)) → IsEdgeOf (table_of plans) e → IsNamedHop machine plans ask no_choices causes e
      → hop_by (with_plan plans p) (causes ++ more) e ≡ hop_by plans causes e
  hop-same causes more e longer ends named =
      let same = slice_get_left causes more e.tag named.tag in
      let from = numbered-more plans p e.from.0 ends.0 (omega (arith, ends.0)) in
      let to = numbered-more plans p e.to.0 ends.1 (omega (arith, ends.1)) in
      let kind = ap (kind_of (with_plan plans p)) same ∙ kind-more longer (slice_get causes e.tag) (gap (numbered plans e.from.0) (numbered plans e.to.0) e.weight) named.is_hop in
      λ i. hop (kind i) (gap (from i) (to i) e.weight)
