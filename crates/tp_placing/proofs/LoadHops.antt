-- The edges of plans are their hops, and may be required.
use Rattle.std.proofs.Common.{◌≡◌, ℕ, suc, ◌+◌, ◌*◌, ◌<◌, ◌≤◌, Bool, true, false, cond, List, [], ◌∷◌, ◌++◌, length, map, refl, ap, sym, ◌∙◌, subst, arith, Option, Some, None, All, inl}
use Rattle.std.specs.Prelude.{slice_get, pos, neg_ℤ}
use Rattle.std.specs.List.{find}
use Rattle.std.proofs.lemmas.Int.{ints}
use Rattle.std.proofs.lemmas.List.{map-append, length-append}
use Rattle.std.proofs.lemmas.List.Elements.{All-nil, All-cons, All-append, All-head, All-tail}
use Rattle.std.proofs.lemmas.Option.{slice_get_within}
use Rattle.tp_base.proofs.SliceFacts.{found}
use Rattle.tp_base.specs.declared.edges.Edge.{Edge}
use Rattle.tp_base.specs.declared.edges.PointId.{PointId}
use Rattle.tp_machine.specs.ModuleUse.{action_at}
use Rattle.tp_machine.specs.declared.parts.ActId.{ActId}
use Rattle.tp_machine.specs.declared.parts.Action.{Action}
use Rattle.tp_machine.specs.declared.machine.Machine.{Machine}
use Rattle.tp_machine.proofs.MachineFacts.{is_machine}
use Rattle.tp_schedule.specs.Spots.{Spot}
use Rattle.tp_schedule.specs.Spots.Spot.{kept}
use Rattle.tp_schedule.specs.declared.parts.Plan.{Plan}
use Rattle.tp_schedule.specs.declared.parts.SheetId.{SheetId}
use Rattle.tp_constraints.specs.Gaps.{gap, line_gap, line_gaps, is_same_line, end_spot}
use Rattle.tp_constraints.specs.Hops.{Hop, hop, range_hops, acts_hops, duration_hops}
use Rattle.tp_constraints.specs.Hops.HopKind.{forward, back, line}
use Rattle.tp_constraints.specs.Numbers.{gap_by, spot_at, spot_in, table_of}
use Rattle.tp_placing.specs.Causes.{ArePlain, IsSafe, forward_tag, back_tag, line_tag, hop_by, kind_of, numbered}
use Rattle.tp_placing.specs.declared.causes.EdgeCause.{EdgeCause}
use Rattle.tp_placing.specs.Edges.{edge_of}
use Rattle.tp_placing.specs.Edges.{line_edge}
use Rattle.tp_placing.specs.LoadedNet.{point_id, act_edges, acts_edges, plans_edges, next_end, lines_edges}
use Rattle.tp_base.specs.Grows.{IsKnown}
use Rattle.tp_placing.proofs.CauseFacts.{numbered-in}
use Rattle.tp_placing.proofs.LoadTable.{StandsAt, AreNumbered}
pub use Rattle.tp_placing.specs.AddedEdges.{AreHops}

pub hops-none : (plans : List Plan) (causes : List EdgeCause) → AreHops plans causes [] []
hops-none plans causes = record { hops = refl; can = All-nil (IsKnown (length (table_of plans))); tags = All-nil (λ (e : Edge). e.tag < length causes); safe = All-nil (IsSafe 0) }

pub hops-one : (plans : List Plan) (causes : List EdgeCause) (e : Edge) (h : Hop) → hop_by plans causes e ≡ h → IsKnown (length (table_of plans)) e → e.tag < length causes → IsSafe 0 e → AreHops plans causes (e ∷ []) (h ∷ [])
hops-one plans causes e h is can tag safe = record {
  hops = ap (λ x. x ∷ []) is;
  can = All-cons (IsKnown (length (table_of plans))) e [] can (All-nil (IsKnown (length (table_of plans))));
  tags = All-cons (λ (f : Edge). f.tag < length causes) e [] tag (All-nil (λ (f : Edge). f.tag < length causes));
  safe = All-cons (IsSafe 0) e [] safe (All-nil (IsSafe 0));
}

pub hops-append : (plans : List Plan) (causes : List EdgeCause) (es fs : List Edge) (gs hs : List Hop) → AreHops plans causes es gs → AreHops plans causes fs hs → AreHops plans causes (es ++ fs) (gs ++ hs)
hops-append plans causes es fs gs hs a b =
    let p = a.hops in
    let q = b.hops in
    record {
      hops = map-append (hop_by plans causes) es fs ∙ (λ i. p i ++ q i);
      can = All-append (IsKnown (length (table_of plans))) es fs a.can b.can;
      tags = All-append (λ (e : Edge). e.tag < length causes) es fs a.tags b.tags;
      safe = All-append (IsSafe 0) es fs a.safe b.safe;
    }

-- a point of a plan by its number
pub number-spot : (plans : List Plan) (n : ℕ) → n < length (table_of plans) → numbered plans n ≡ spot_at (table_of plans) n
number-spot plans n within = let f = found (table_of plans) n within in numbered-in plans 0 n f.0 f.1 ∙ sym (ap spot_in f.1)

-- the gap of an edge is that of its hop
pub gaps-by : (plans : List Plan) (causes : List EdgeCause) (es : List Edge) → All (IsKnown (length (table_of plans))) es → map (gap_by (table_of plans)) es ≡ map (λ h. h.gap) (map (hop_by plans causes) es)
gaps-by plans causes [] can = refl
gaps-by plans causes (e ∷ es) can =
    let one = All-head (IsKnown (length (table_of plans))) e es can in
    let a = number-spot plans e.from.0 one.from in
    let b = number-spot plans e.to.0 one.to in
    let rest = gaps-by plans causes es (All-tail (IsKnown (length (table_of plans))) e es can) in
    λ i. gap (sym a i) (sym b i) e.weight ∷ rest i

-- the edges of plans among all plans, whose causes stand first in the table
module _ (all : List Plan) (causes : List EdgeCause) (plain : ArePlain causes) where
  few-tags : (tag : ℕ) → tag < 5 → tag < length causes
  few-tags tag few = let slots = plain.slots in omega arith

  range-hops : (machine : Machine) (act n : ℕ) (from to : Spot) (o : Option Action) → action_at machine act ≡ o → slice_get (table_of all) n ≡ Some from → slice_get (table_of all) (n + 1) ≡ Some to → AreHops all causes (act_edges o n) (range_hops o from to)
  range-hops machine act n from to None is a b = hops-none all causes
  range-hops machine act n from to (Some x) is a b =
      let p = numbered-in all 0 n from a in
      let q = numbered-in all 0 (n + 1) to b in
      let there = ap (kind_of all) plain.forward in
      let again = ap (kind_of all) plain.back in
      let r = (is_machine machine).in_range act x is in
      let within = slice_get_within (table_of all) n from a in
      let behind = slice_get_within (table_of all) (n + 1) to b in
      hops-append all causes (edge_of (point_id n) (point_id (n + 1)) (pos x.least) forward_tag ∷ []) (edge_of (point_id (n + 1)) (point_id n) (neg_ℤ (pos x.most)) back_tag ∷ [])
      (hop forward (gap from to (pos x.least)) ∷ []) (hop back (gap to from (neg_ℤ (pos x.most))) ∷ [])
      (hops-one all causes (edge_of (point_id n) (point_id (n + 1)) (pos x.least) forward_tag) (hop forward (gap from to (pos x.least))) (λ i. hop (there i) (gap (p i) (q i) (pos x.least)))
      (record { from = within; to = behind; least = omega (arith, ints); most = omega (arith, ints, r.0, r.1) }) (few-tags forward_tag (omega arith)) (inl (omega arith)))
      (hops-one all causes (edge_of (point_id (n + 1)) (point_id n) (neg_ℤ (pos x.most)) back_tag) (hop back (gap to from (neg_ℤ (pos x.most)))) (λ i. hop (again i) (gap (q i) (p i) (neg_ℤ (pos x.most))))
      (record { from = behind; to = within; least = omega (arith, ints, r.1); most = omega (arith, ints) }) (few-tags back_tag (omega arith)) (inl (omega arith)))

  pub acts-hops : (machine : Machine) (n : ℕ) (copy : SheetId) (first : ℕ) (acts : List ActId) → StandsAt (table_of all) n copy first (length acts) → AreHops all causes (acts_edges machine n acts) (acts_hops machine copy first acts)
  acts-hops machine n copy first [] at = hops-none all causes
  acts-hops machine n copy first (act ∷ acts) at =
      let e0 : n ≡ n + 0 = omega arith in
      let f0 : first + 0 ≡ first = omega arith in
      let f1 : first + 1 ≡ suc first = omega arith in
      let a : slice_get (table_of all) n ≡ Some (kept copy first) = ap (λ k. slice_get (table_of all) k) e0 ∙ at.get 0 (omega arith) ∙ ap (λ k. Some (kept copy k)) f0 in
      let b : slice_get (table_of all) (n + 1) ≡ Some (kept copy (suc first)) = at.get 1 (omega arith) ∙ ap (λ k. Some (kept copy k)) f1 in
      hops-append all causes (act_edges (action_at machine act.0) n) (acts_edges machine (n + 1) acts) (range_hops (action_at machine act.0) (kept copy first) (kept copy (suc first))) (acts_hops machine copy (suc first) acts)
      (range-hops machine act.0 n (kept copy first) (kept copy (suc first)) (action_at machine act.0) refl a b)
      (acts-hops machine (n + 1) copy (suc first) acts (record {
        get = λ i h. (
            let e : n + 1 + i ≡ n + suc i = omega arith in
            let f : first + suc i ≡ suc first + i = omega arith in
            ap (λ k. slice_get (table_of all) k) e ∙ at.get (suc i) (omega arith) ∙ ap (λ k. Some (kept copy k)) f);
      }))

  pub durations-hops : (machine : Machine) (n : ℕ) (plans : List Plan) → AreNumbered (table_of all) n plans → AreHops all causes (plans_edges machine n plans) (duration_hops machine plans)
  durations-hops machine n [] at = hops-none all causes
  durations-hops machine n (p ∷ plans) at =
      hops-append all causes (acts_edges machine n p.acts) (plans_edges machine (n + length p.acts + 1) plans) (acts_hops machine p.sheet 0 p.acts) (duration_hops machine plans)
      (acts-hops machine n p.sheet 0 p.acts at.0) (durations-hops machine (n + length p.acts + 1) plans at.1)

  -- the end of a plan by its number
  end-at : (n : ℕ) (p : Plan) → StandsAt (table_of all) n p.sheet 0 (length p.acts) → slice_get (table_of all) (n + length p.acts) ≡ Some (end_spot p)
  end-at n p at = let e : 0 + length p.acts ≡ length p.acts = omega arith in at.get (length p.acts) (omega arith) ∙ ap (λ k. Some (kept p.sheet k)) e

  next-hops : (n end : ℕ) (p : Plan) (plans : List Plan) → slice_get (table_of all) end ≡ Some (end_spot p) → AreNumbered (table_of all) n plans
      → AreHops all causes (line_edge (point_id end) (next_end p n plans)) (map (hop line) (line_gap p (find (is_same_line p) plans)))
  next-hops n end p [] is at = hops-none all causes
  next-hops n end p (q ∷ plans) is at = go (is_same_line p q) (next-hops (n + length q.acts + 1) end p plans is at.1) where
    go : (b : Bool) → AreHops all causes (line_edge (point_id end) (next_end p (n + length q.acts + 1) plans)) (map (hop line) (line_gap p (find (is_same_line p) plans)))
        → AreHops all causes (line_edge (point_id end) (cond b (Some (point_id (n + length q.acts))) (next_end p (n + length q.acts + 1) plans))) (map (hop line) (line_gap p (cond b (Some q) (find (is_same_line p) plans))))
    go true rest =
        let next = end-at n q at.0 in
        let a = numbered-in all 0 end (end_spot p) is in
        let b = numbered-in all 0 (n + length q.acts) (end_spot q) next in
        let k = ap (kind_of all) plain.line in
        let within = slice_get_within (table_of all) end (end_spot p) is in
        let behind = slice_get_within (table_of all) (n + length q.acts) (end_spot q) next in
        hops-one all causes (edge_of (point_id end) (point_id (n + length q.acts)) (pos 1) line_tag) (hop line (gap (end_spot p) (end_spot q) (pos 1))) (λ i. hop (k i) (gap (a i) (b i) (pos 1)))
        (record { from = within; to = behind; least = omega (arith, ints); most = omega (arith, ints) }) (few-tags line_tag (omega arith)) (inl (omega arith))
    go false rest = rest

  pub timelines-hops : (n : ℕ) (plans : List Plan) → AreNumbered (table_of all) n plans → AreHops all causes (lines_edges n plans) (map (hop line) (line_gaps plans))
  timelines-hops n [] at = hops-none all causes
  timelines-hops n (p ∷ plans) at =
      subst (AreHops all causes (lines_edges n (p ∷ plans))) (sym (map-append (hop line) (line_gap p (find (is_same_line p) plans)) (line_gaps plans)))
      (hops-append all causes (line_edge (point_id (n + length p.acts)) (next_end p (n + length p.acts + 1) plans)) (lines_edges (n + length p.acts + 1) plans) (map (hop line) (line_gap p (find (is_same_line p) plans))) (map (hop line) (line_gaps plans))
      (next-hops (n + length p.acts + 1) (n + length p.acts) p plans (end-at n p at.0) at.1)
      (timelines-hops (n + length p.acts + 1) plans at.1))

-- how many edges there are
pub acts-count : (machine : Machine) (n : ℕ) (acts : List ActId) → length (acts_edges machine n acts) ≤ 2 * length acts
acts-count machine n [] = omega arith
acts-count machine n (act ∷ acts) =
    let a = length-append (act_edges (action_at machine act.0) n) (acts_edges machine (n + 1) acts) in
    let one = few (action_at machine act.0) in
    let rest = acts-count machine (n + 1) acts in
    omega arith where
      few : (o : Option Action) → length (act_edges o n) ≤ 2
      few None = omega arith
      few (Some x) = omega arith

pub durations-count : (machine : Machine) (n : ℕ) (plans : List Plan) → All (λ p. length p.acts ≤ 64) plans → length (plans_edges machine n plans) ≤ 128 * length plans
durations-count machine n [] few = omega arith
durations-count machine n (p ∷ plans) few =
    let a = length-append (acts_edges machine n p.acts) (plans_edges machine (n + length p.acts + 1) plans) in
    let one = acts-count machine n p.acts in
    let acts : length p.acts ≤ 64 = All-head (λ q. length q.acts ≤ 64) p plans few in
    let rest = durations-count machine (n + length p.acts + 1) plans (All-tail (λ q. length q.acts ≤ 64) p plans few) in
    omega arith

pub timelines-count : (n : ℕ) (plans : List Plan) → length (lines_edges n plans) ≤ length plans
timelines-count n [] = omega arith
timelines-count n (p ∷ plans) =
    let a = length-append (line_edge (point_id (n + length p.acts)) (next_end p (n + length p.acts + 1) plans)) (lines_edges (n + length p.acts + 1) plans) in
    let one = few (next_end p (n + length p.acts + 1) plans) in
    let rest = timelines-count (n + length p.acts + 1) plans in
    omega arith where
      few : (o : Option PointId) → length (line_edge (point_id (n + length p.acts)) o) ≤ 1
      few None = omega arith
      few (Some x) = omega arith
