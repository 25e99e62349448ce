-- The edges that a step adds are its hops, with the causes that it keeps.
use Rattle.std.proofs.Common.{◌≡◌, ℕ, zero, suc, ◌+◌, ◌<◌, ◌≤◌, inl, List, [], ◌∷◌, ◌++◌, length, map, refl, ap, sym, ◌∙◌, arith, Option, Some, None, All}
use Rattle.std.specs.Prelude.{slice_get, pos, neg_ℤ}
use Rattle.std.proofs.lemmas.List.{map-append}
use Rattle.std.proofs.lemmas.List.Elements.{All-nil, All-cons, All-head, All-tail, All-append}
use Rattle.tp_base.proofs.SliceFacts.{found, All-at}
use Rattle.tp_constraints.proofs.Lists.{All-split}
use Rattle.tp_base.specs.declared.edges.Edge.{Edge}
use Rattle.tp_base.specs.declared.edges.PointId.{PointId}
use Rattle.tp_machine.specs.Modes.{gap_at}
use Rattle.tp_machine.specs.declared.machine.Machine.{Machine}
use Rattle.tp_machine.specs.declared.parts.Action.{Action}
use Rattle.tp_schedule.specs.Spots.{Spot, Slot}
use Rattle.tp_schedule.specs.declared.parts.Plan.{Plan}
use Rattle.tp_constraints.specs.Gaps.{Gap, gap}
use Rattle.tp_constraints.specs.Hops.{hop, slot_hop, hop_after, hop_until, place_hops, range_hops}
use Rattle.tp_constraints.specs.Hops.HopKind.{line, order, stop}
use Rattle.tp_constraints.specs.Numbers.{gap_by, spot_in, IsEdgeOf}
use Rattle.tp_constraints.specs.Suffixes.{before_place}
use Rattle.tp_placing.specs.declared.causes.EdgeCause.{EdgeCause}
use Rattle.tp_placing.specs.declared.causes.EdgeCause.TheVariants.{Line}
use Rattle.tp_placing.specs.declared.parts.Held.{Held}
use Rattle.tp_placing.specs.Causes.{ArePlain, IsSafe, cause_between, causes_around, hop_by, kind_of, line_tag, step_tag, step_causes, stop_tag}
use Rattle.tp_placing.specs.Edges.{duration_edges, edge_of, edge_after, edge_until, edges_around, held_before, held_behind, hold_edge}
use Rattle.tp_placing.specs.LoadedBoard.{AreSlots, table_with}
use Rattle.tp_placing.proofs.CauseFacts.{AreMade, IsSafeTag, numbered-in, before-around, behind-around, length-around}
use Rattle.tp_placing.proofs.SlotFacts.{AtPlace, slots-at, slots-before, hold-gap}
use Rattle.tp_placing.proofs.SlotFacts.AtPlace.{none, some}
use Rattle.tp_placing.proofs.SlotResources.{IsOn}

-- an edge of a table is a hop with its gap by the table
pub hop-gap : (plans : List Plan) (count : ℕ) (causes : List EdgeCause) (e : Edge) → IsEdgeOf (table_with plans count) e
    → hop_by plans causes e ≡ hop (kind_of plans (slice_get causes e.tag)) (gap_by (table_with plans count) e)
hop-gap plans count causes e (from, to) =
    let table = table_with plans count in
    let f = found table e.from.0 from in
    let t = found table e.to.0 to in
    let a = numbered-in plans count e.from.0 f.0 f.1 ∙ sym (ap spot_in f.1) in
    let b = numbered-in plans count e.to.0 t.0 t.1 ∙ sym (ap spot_in t.1) in
    λ i. hop (kind_of plans (slice_get causes e.tag)) (gap (a i) (b i) e.weight)

-- edges along a line
pub line-hops : (plans : List Plan) (count : ℕ) (causes : List EdgeCause) (es : List Edge) → ArePlain causes → All (λ e. e.tag ≡ line_tag) es → All (IsEdgeOf (table_with plans count)) es
    → map (hop_by plans causes) es ≡ map (hop line) (map (gap_by (table_with plans count)) es)
line-hops plans count causes [] plain tags known = refl
line-hops plans count causes (e ∷ es) plain tags known =
    let tag : e.tag ≡ line_tag = All-head (λ (d : Edge). d.tag ≡ line_tag) e es tags in
    let cause : slice_get causes e.tag ≡ Some Line = ap (slice_get causes) tag ∙ plain.line in
    let one = hop-gap plans count causes e (All-head (IsEdgeOf (table_with plans count)) e es known) ∙ ap (λ c. hop (kind_of plans c) (gap_by (table_with plans count) e)) cause in
    let rest = line-hops plans count causes es plain (All-tail (λ (d : Edge). d.tag ≡ line_tag) e es tags) (All-tail (IsEdgeOf (table_with plans count)) e es known) in
    λ i. one i ∷ rest i

pub timelines-made : (steps : ℕ) (plans : List Plan) (count : ℕ) (causes : List EdgeCause) (es : List Edge) (gs : List Gap) → ArePlain causes → All (λ e. e.tag ≡ line_tag) es → All (IsEdgeOf (table_with plans count)) es
    → map (gap_by (table_with plans count)) es ≡ gs → AreMade steps plans causes es (map (hop line) gs)
timelines-made steps plans count causes es gs plain tags known gaps = record {
  hops = line-hops plans count causes es plain tags known ∙ ap (map (hop line)) gaps;
  tags = λ i d w. (let t = tags i d w in let s = plain.slots in omega arith);
  safe = λ i d w. inl (let t = tags i d w in omega arith);
}

-- an action's durations
pub range-made : (steps : ℕ) (plans : List Plan) (count : ℕ) (causes : List EdgeCause) (a : Action) (start end : PointId) (from to : Spot) → ArePlain causes
    → slice_get (table_with plans count) start.0 ≡ Some from → slice_get (table_with plans count) end.0 ≡ Some to → AreMade steps plans causes (duration_edges a start end) (range_hops (Some a) from to)
range-made steps plans count causes a start end from to plain s e =
    let p = numbered-in plans count start.0 from s in
    let q = numbered-in plans count end.0 to e in
    let slots = plain.slots in
    let forth : Edge = edge_of start end (pos a.least) 0 in
    let back' : Edge = edge_of end start (neg_ℤ (pos a.most)) 1 in
    let T : Edge → Type 0 = λ e. e.tag < length causes in
    record {
      hops = λ i. hop (kind_of plans (plain.forward i)) (gap (p i) (q i) (pos a.least)) ∷ hop (kind_of plans (plain.back i)) (gap (q i) (p i) (neg_ℤ (pos a.most))) ∷ [];
      tags = All-cons T forth (back' ∷ []) (omega arith) (All-cons T back' [] (omega arith) (All-nil T));
      safe = All-cons (IsSafe steps) forth (back' ∷ []) (inl (omega arith)) (All-cons (IsSafe steps) back' [] (inl (omega arith)) (All-nil (IsSafe steps)));
    }

-- the stop's edge
pub stop-made : (steps : ℕ) (plans : List Plan) (count : ℕ) (causes : List EdgeCause) (first end : PointId) (from to : Spot) → ArePlain causes
    → slice_get (table_with plans count) first.0 ≡ Some from → slice_get (table_with plans count) end.0 ≡ Some to
    → AreMade steps plans causes (edge_of first end (pos 0) stop_tag ∷ []) (hop stop (gap from to (pos 0)) ∷ [])
stop-made steps plans count causes first end from to plain s e =
    let p = numbered-in plans count first.0 from s in
    let q = numbered-in plans count end.0 to e in
    let slots = plain.slots in
    let edge : Edge = edge_of first end (pos 0) stop_tag in
    let T : Edge → Type 0 = λ e. e.tag < length causes in
    record {
      hops = λ i. hop (kind_of plans (plain.stop i)) (gap (p i) (q i) (pos 0)) ∷ [];
      tags = All-cons T edge [] (omega arith) (All-nil T);
      safe = All-cons (IsSafe steps) edge [] (inl (omega arith)) (All-nil (IsSafe steps));
    }

-- a hold is placed
module _ (machine : Machine) (plans : List Plan) (count : ℕ) (held : List Held) (resource : ℕ) (h : Held) (s : Slot) (causes : List EdgeCause)
    (on : IsOn resource s) (rule : h.rule ≡ s.rule) (start : slice_get (table_with plans count) h.start.0 ≡ Some s.from) (end : slice_get (table_with plans count) h.end.0 ≡ Some s.to) where
  abbrev table : List Spot
  table = table_with plans count

  on-held : h.rule.resource.0 ≡ resource
  on-held = ap (λ r. r.resource.0) rule ∙ on

  after-hop : (o : Option Held) (q : Option Slot) (tag : ℕ) → AtPlace table held o q → ((a : Slot) → q ≡ Some a → IsOn resource a) → ((x : Held) → o ≡ Some x → slice_get causes tag ≡ Some (cause_between x h))
      → All (IsEdgeOf table) (edge_after (gap_at machine resource) o h tag) → map (hop_by plans causes) (edge_after (gap_at machine resource) o h tag) ≡ hop_after machine resource q s
  after-hop o q tag none each cause known = refl
  after-hop o q tag (some k a x y z) each cause known =
      let r : k.rule.resource.0 ≡ resource = ap (λ r. r.resource.0) x ∙ each a refl in
      let from = numbered-in plans count k.start.0 a.from y in
      let to = numbered-in plans count h.start.0 s.from start in
      let kind : kind_of plans (slice_get causes tag) ≡ order resource a.from s.from = ap (kind_of plans) (cause k refl) ∙ (λ i. order (r i) (from i) (to i)) in
      let one : hop_by plans causes (hold_edge (gap_at machine resource) k h tag) ≡ slot_hop machine resource a s =
      hop-gap plans count causes (hold_edge (gap_at machine resource) k h tag) (All-head (IsEdgeOf table) (hold_edge (gap_at machine resource) k h tag) [] known) ∙ (λ i. hop (kind i) (hold-gap (gap_at machine resource) table k h a s x y z rule start end tag i)) in
      ap (λ g. g ∷ []) one

  pub until-hop : (o : Option Held) (q : Option Slot) (tag : ℕ) → AtPlace table held o q → ((y : Held) → o ≡ Some y → slice_get causes tag ≡ Some (cause_between h y))
      → All (IsEdgeOf table) (edge_until (gap_at machine resource) h o tag) → map (hop_by plans causes) (edge_until (gap_at machine resource) h o tag) ≡ hop_until machine resource s q
  until-hop o q tag none cause known = refl
  until-hop o q tag (some k a x y z) cause known =
      let from = numbered-in plans count h.start.0 s.from start in
      let to = numbered-in plans count k.start.0 a.from y in
      let r = on-held in
      let kind : kind_of plans (slice_get causes tag) ≡ order resource s.from a.from = ap (kind_of plans) (cause k refl) ∙ (λ i. order (r i) (from i) (to i)) in
      let one : hop_by plans causes (hold_edge (gap_at machine resource) h k tag) ≡ slot_hop machine resource s a =
      hop-gap plans count causes (hold_edge (gap_at machine resource) h k tag) (All-head (IsEdgeOf table) (hold_edge (gap_at machine resource) h k tag) [] known) ∙ (λ i. hop (kind i) (hold-gap (gap_at machine resource) table h k s a rule start end x y z tag i)) in
      ap (λ g. g ∷ []) one

around-tags : (P : ℕ → Type 0) (g : ℕ) (before behind : Option Held) (h : Held) (tag : ℕ) → P tag → P (tag + 1) → All (λ e. P e.tag) (edges_around g before h behind tag)
around-tags P g before behind h tag one two = All-append (λ e. P e.tag) (edge_after g before h tag) (edge_until g h behind (tag + 1)) (after before) (until behind) where
  after : (o : Option Held) → All (λ e. P e.tag) (edge_after g o h tag)
  after None = All-nil (λ e. P e.tag)
  after (Some x) = All-cons (λ e. P e.tag) (hold_edge g x h tag) [] one (All-nil (λ e. P e.tag))

  until : (o : Option Held) → All (λ e. P e.tag) (edge_until g h o (tag + 1))
  until None = All-nil (λ e. P e.tag)
  until (Some y) = All-cons (λ e. P e.tag) (hold_edge g h y (tag + 1)) [] two (All-nil (λ e. P e.tag))

pub place-made : (machine : Machine) (plans : List Plan) (count : ℕ) (held : List Held) (ids : List ℕ) (slots : List Slot) (place resource steps : ℕ) (h : Held) (s : Slot) (causes : List EdgeCause)
    → AreSlots (table_with plans count) held ids slots → All (IsOn resource) slots → IsOn resource s → h.rule ≡ s.rule
    → slice_get (table_with plans count) h.start.0 ≡ Some s.from → slice_get (table_with plans count) h.end.0 ≡ Some s.to → step_tag steps + 1 < step_causes → step_causes ≤ length causes
    → All (IsEdgeOf (table_with plans count)) (edges_around (gap_at machine resource) (held_before held ids place) h (held_behind held ids place) (step_tag steps))
    → AreMade (steps + 1) plans (causes_around (held_before held ids place) h (held_behind held ids place) (step_tag steps) causes) (edges_around (gap_at machine resource) (held_before held ids place) h (held_behind held ids place) (step_tag steps)) (place_hops machine resource slots place s)
place-made machine plans count held ids slots place resource steps h s causes are all on rule start end room slots-room known =
    let before = held_before held ids place in
    let behind = held_behind held ids place in
    let tag = step_tag steps in
    let causes' = causes_around before h behind tag causes in
    let table = table_with plans count in
    let l = length-around before behind h causes tag in
    let parts = All-split (IsEdgeOf table) (edge_after (gap_at machine resource) before h tag) (edge_until (gap_at machine resource) h behind (tag + 1)) known in
    let a = after-hop machine plans count held resource h s causes' on rule start end before (before_place slots place) tag (slots-before table held ids slots place are) (λ q e. before-on slots place q all e)
    (λ x e. before-around before behind h causes tag x e (omega arith)) parts.0 in
    let b = until-hop machine plans count held resource h s causes' on rule start end behind (slice_get slots place) (tag + 1) (slots-at table held ids slots place are) (λ y e. behind-around before behind h causes tag y e (omega arith)) parts.1 in
    record {
      hops = map-append (hop_by plans causes') (edge_after (gap_at machine resource) before h tag) (edge_until (gap_at machine resource) h behind (tag + 1)) ∙ (λ i. a i ++ b i);
      tags = around-tags (λ t. t < length causes') (gap_at machine resource) before behind h tag (omega arith) (omega arith);
      safe = around-tags (λ t. IsSafeTag (steps + 1) t) (gap_at machine resource) before behind h tag (inl (omega arith)) (inl (omega arith));
    } where
      before-on : (xs : List Slot) (p : ℕ) (q : Slot) → All (IsOn resource) xs → before_place xs p ≡ Some q → IsOn resource q
      before-on xs zero q every e = absurd cc
      before-on xs (suc p) q every e = All-at (IsOn resource) xs p q every e
