-- An order with one place more, and the network of a suffix with it.
use Rattle.std.proofs.Common.{◌≡◌, ℕ, suc, ◌+◌, ◌-◌, ◌<◌, ◌≤◌, Bool, true, false, cond, List, [], ◌∷◌, ◌++◌, length, map, refl, ap, sym, ◌∙◌, subst, arith, Some, All}
use Rattle.std.specs.Prelude.{◌==◌, slice_set}
use Rattle.std.specs.List.{slice_get, insert}
use Rattle.std.proofs.lemmas.Bool.Decides.{nat_tests}
use Rattle.std.proofs.lemmas.List.{length-append, get_or-set_same, get_or-set_other}
use Rattle.std.proofs.lemmas.List.Edits.{length-insert}
use Rattle.std.proofs.lemmas.List.Elements.{All-append, All-cons, All-nil}
use Rattle.std.proofs.lemmas.List.Sums.{sum_by-set}
use Rattle.tp_base.proofs.SliceFacts.{slice_get_last}
use Rattle.tp_base.specs.declared.edges.Edge.{Edge}
use Rattle.tp_base.specs.Net.{Net, HasLeast, HasNoSolution, with_edges}
use Rattle.tp_machine.specs.Modes.{gap_at}
use Rattle.tp_machine.specs.ModuleUse.{action_at}
use Rattle.tp_machine.specs.declared.parts.HoldRule.{HoldRule}
use Rattle.tp_machine.specs.declared.machine.Machine.{Machine}
use Rattle.tp_schedule.specs.Answers.{kept_of}
use Rattle.tp_schedule.specs.Choices.{Choice, placed}
use Rattle.tp_schedule.specs.Holders.{holds_of_act}
use Rattle.tp_schedule.specs.Spots.{Spot, Slot, Ticks, slot_order}
use Rattle.tp_schedule.specs.Spots.Spot.{own}
use Rattle.tp_schedule.specs.declared.parts.Ask.{Ask}
use Rattle.tp_schedule.specs.declared.parts.Plan.{Plan}
use Rattle.tp_timelines.specs.Orders.{order_on, total}
use Rattle.tp_constraints.specs.Hops.{place_hops}
use Rattle.tp_constraints.specs.Nets.{PlaceNet, BoardLate, IsBoardNet}
use Rattle.tp_constraints.specs.Numbers.{gap_by, table_of, IsEdgeOf}
use Rattle.tp_constraints.specs.Suffixes.{Suffix, SuffixTimes, choice_slot, order_in, place_gaps, with_place}
use Rattle.tp_constraints.proofs.PlaceGaps.{put_places-push}
use Rattle.tp_placing.specs.declared.causes.EdgeCause.{EdgeCause}
use Rattle.tp_placing.specs.declared.parts.Held.{Held}
use Rattle.tp_placing.specs.declared.parts.Step.{Step}
use Rattle.tp_placing.specs.Causes.{ArePlain, causes_around, step_tag}
use Rattle.tp_placing.specs.Edges.{edges_around, held_before, held_behind}
use Rattle.tp_placing.specs.LoadedBoard.{IsAtWith, IsAtHand, IsSlotOf, AreSlots, HasSmallOffsets, AreFewSteps, table_with}
use Rattle.tp_base.specs.Grows.{IsKnown}
use Rattle.tp_placing.proofs.CauseFacts.{AreMade}
use Rattle.tp_placing.proofs.NeighbourFacts.{two-neighbours}
use Rattle.tp_placing.proofs.SlotFacts.{neighbour-gaps, slots-grown-held, slots-insert}
use Rattle.tp_placing.proofs.SlotResources.{order-in-on}
use Rattle.tp_placing.proofs.StepHops.{place-made}
use Rattle.tp_placing.proofs.StepFacts.{at-hand-push, edges-more}
use Rattle.tp_placing.proofs.TableFacts.{table-own}

-- ---- orders with one number more
pub order-same : (timelines : List (List ℕ)) (r : ℕ) (ids : List ℕ) → r < length timelines → order_on (slice_set timelines r ids) r ≡ ids
order-same timelines r ids h = get_or-set_same timelines r ids [] h

pub total-more : (timelines : List (List ℕ)) (r place id : ℕ) → r < length timelines → place ≤ length (order_on timelines r) → total (slice_set timelines r (insert (order_on timelines r) place id)) ≡ total timelines + 1
total-more timelines r place id h w =
    let s = sum_by-set length timelines r (insert (order_on timelines r) place id) [] h in
    let l = length-insert (order_on timelines r) place id w in
    omega arith

pub edges-of : (points : List Spot) (es : List Edge) → All (IsKnown (length points)) es → All (IsEdgeOf points) es
edges-of points es can = λ k d w. ((can k d w).from, (can k d w).to)

-- ---- the suffix with a newest choice c, and one place more
module _ (m : Machine) (plans : List Plan) (ask : Ask) (c : Choice) (choices : List Choice) (rooms : List ℕ) (stopped : Bool) (rule : HoldRule) (place : ℕ)
    (is_rule : slice_get (holds_of_act (action_at m c.act.0)) (length c.places) ≡ Some rule) where
  abbrev x : Suffix
  x = record { choices = c ∷ choices; rooms = rooms; stopped = stopped }

  abbrev table : List Spot
  table = table_with plans (suc (suc (length choices)))

  abbrev slot : Slot
  slot = choice_slot rule (length choices)

  order-after : (q : ℕ) → order_in m plans (with_place place x) q ≡ cond (rule.resource.0 == q) (insert (order_in m plans x q) place slot) (order_in m plans x q)
  order-after q = put_places-push q (own (suc (length choices))) (own (length choices)) (holds_of_act (action_at m c.act.0)) c.places place rule (placed m q (slot_order m plans q) choices) is_rule

  order-there : order_in m plans (with_place place x) rule.resource.0 ≡ insert (order_in m plans x rule.resource.0) place slot
  order-there = let e : (rule.resource.0 == rule.resource.0) ≡ true = grind (arith, nat_tests) in
      order-after rule.resource.0 ∙ ap (λ b. cond b (insert (order_in m plans x rule.resource.0) place slot) (order_in m plans x rule.resource.0)) e

  order-else : (q : ℕ) → (rule.resource.0 ≡ q → ⊥) → order_in m plans (with_place place x) q ≡ order_in m plans x q
  order-else q ne = let e : (rule.resource.0 == q) ≡ false = grind (arith, nat_tests) in
      order-after q ∙ ap (λ b. cond b (insert (order_in m plans x q) place slot) (order_in m plans x q)) e

  few-place : (count steps : ℕ) → length c.places < 4 → AreFewSteps count (Some x) steps → AreFewSteps count (Some (with_place place x)) (steps + 1)
  few-place count steps four few =
      let f = few.0 in let l = length-append c.places (place ∷ []) in
      (omega arith, few.1, omega arith)

  module _ (steps : List Step) (n : Net) (timelines : List (List ℕ)) (holds : List Held) (h : Held) (newest : Step)
      (at : IsAtWith m plans ask (Some x) steps n timelines holds) (hand : IsAtHand (length (table_of plans)) (Some x) newest) (some : 0 < length steps)
      (known : rule.resource.0 < length timelines) (resource : rule.resource.0 < length m.resources) (within : place ≤ length (order_in m plans x rule.resource.0)) (four : length c.places < 4) (fits : place ≤ length (order_on timelines rule.resource.0))
      (rule_is : h.rule ≡ rule) (start_is : h.start ≡ newest.first) (end_is : h.end.0 ≡ newest.first.0 - 1) where
    abbrev order : List ℕ
    order = order_on timelines rule.resource.0

    abbrev es : List Edge
    es = edges_around (gap_at m rule.resource.0) (held_before holds order place) h (held_behind holds order place) (step_tag (length steps))

    pub start-own : slice_get table h.start.0 ≡ Some (own (suc (length choices)))
    start-own =
        let e : h.start.0 ≡ length (table_of plans) + suc (length choices) = ap (λ p. p.0) start_is ∙ hand.1 in
        ap (λ k. slice_get table k) e ∙ table-own plans (suc (suc (length choices))) (suc (length choices)) (omega arith)

    pub end-own : slice_get table h.end.0 ≡ Some (own (length choices))
    end-own =
        let f = hand.1 in
        let e : h.end.0 ≡ length (table_of plans) + length choices = omega arith in
        ap (λ k. slice_get table k) e ∙ table-own plans (suc (suc (length choices))) (length choices) (omega arith)

    gaps : map (gap_by table) es ≡ place_gaps (gap_at m rule.resource.0) (order_in m plans x rule.resource.0) place slot
    gaps = neighbour-gaps (gap_at m rule.resource.0) table holds order (order_in m plans x rule.resource.0) place h slot (at.orders rule.resource.0 resource) rule_is start-own end-own (step_tag (length steps))

    pub place-refused : PlaceNet → BoardLate → All (IsEdgeOf table) es → HasNoSolution (with_edges n es) → (t : Ticks) → ¬ SuffixTimes m plans ask (with_place place x) t
    place-refused place_net late in' none =
        (late m plans ask (with_place place x) table (with_edges n es) (place_net m plans ask x c choices rule place table n es refl is_rule within at.net in' gaps)).0 none

    pub place-net : PlaceNet → All (IsEdgeOf table) es → IsBoardNet m plans ask (with_place place x) table (with_edges n es)
    place-net place_net in' = place_net m plans ask x c choices rule place table n es refl is_rule within at.net in' gaps

    pub place-hops : (causes : List EdgeCause) → ArePlain causes → length steps + 1 ≤ 330 → All (IsEdgeOf table) es
        → AreMade (length steps + 1) plans (causes_around (held_before holds order place) h (held_behind holds order place) (step_tag (length steps)) causes) es (place_hops m rule.resource.0 (order_in m plans x rule.resource.0) place slot)
    place-hops causes plain few in' =
        place-made m plans (suc (suc (length choices))) holds order (order_in m plans x rule.resource.0) place rule.resource.0 (length steps) h slot causes
        (at.orders rule.resource.0 resource) (order-in-on m plans x rule.resource.0) refl rule_is start-own end-own (omega arith) plain.slots in'

    new-slot : IsSlotOf table (holds ++ h ∷ []) (length holds) slot
    new-slot = record { hold = h; at = slice_get_last holds h; rule = rule_is; start = start-own; end = end-own }

    orders-after : (q : ℕ) → q < length m.resources → AreSlots table (holds ++ h ∷ []) (order_on (slice_set timelines rule.resource.0 (insert order place (length holds))) q) (order_in m plans (with_place place x) q)
    orders-after q q_known = go (rule.resource.0 == q) refl where
      go : (b : Bool) → (rule.resource.0 == q) ≡ b → AreSlots table (holds ++ h ∷ []) (order_on (slice_set timelines rule.resource.0 (insert order place (length holds))) q) (order_in m plans (with_place place x) q)
      go true e =
          let same : rule.resource.0 ≡ q = grind (arith, nat_tests) in
          let old = slots-grown-held table holds (h ∷ []) order (order_in m plans x rule.resource.0) (at.orders rule.resource.0 resource) in
          let new = slots-insert table (holds ++ h ∷ []) order (order_in m plans x rule.resource.0) place (length holds) slot old new-slot in
          subst (λ k. AreSlots table (holds ++ h ∷ []) (order_on (slice_set timelines rule.resource.0 (insert order place (length holds))) k) (order_in m plans (with_place place x) k)) same
          (subst (λ ids. AreSlots table (holds ++ h ∷ []) ids (order_in m plans (with_place place x) rule.resource.0)) (sym (order-same timelines rule.resource.0 (insert order place (length holds)) known))
          (subst (AreSlots table (holds ++ h ∷ []) (insert order place (length holds))) (sym order-there) new))
      go false e =
          let ne : rule.resource.0 ≡ q → ⊥ = (λ same. grind (arith, nat_tests)) in
          let old = slots-grown-held table holds (h ∷ []) (order_on timelines q) (order_in m plans x q) (at.orders q q_known) in
          subst (λ ids. AreSlots table (holds ++ h ∷ []) ids (order_in m plans (with_place place x) q)) (sym (get_or-set_other timelines rule.resource.0 q (insert order place (length holds)) [] (λ e. ne (sym e))))
          (subst (AreSlots table (holds ++ h ∷ []) (order_on timelines q)) (sym (order-else q ne)) old)

    pub place-at : PlaceNet → All (IsEdgeOf table) es → HasLeast (with_edges n es) → HasSmallOffsets h.rule → (s : Step) → IsAtHand (length (table_of plans)) (Some x) s
        → IsAtWith m plans ask (Some (with_place place x)) (steps ++ s ∷ []) (with_edges n es) (slice_set timelines rule.resource.0 (insert order place (length holds))) (holds ++ h ∷ [])
    place-at place_net in' solved offsets s at_hand =
        let l = length-append steps (s ∷ []) in
        let e = edges-more steps s some in
        let ne = length-append n.edges es in
        let two = two-neighbours (gap_at m rule.resource.0) (held_before holds order place) (held_behind holds order place) h (step_tag (length steps)) in
        let hl = length-append holds (h ∷ []) in
        let fe = at.few_edges in
        let fh = at.few_holds in
        record {
          net = place-net place_net in';
          says = tt;
          solved = solved;
          orders = orders-after;
          at_hand = at-hand-push (length (table_of plans)) (Some (with_place place x)) steps s at_hand;
          few_steps = subst (AreFewSteps (kept_of ask) (Some (with_place place x))) (sym l) (few-place (kept_of ask) (length steps) four at.few_steps);
          few_edges = omega arith;
          few_holds = omega arith;
          all_held = (let t = total-more timelines rule.resource.0 place (length holds) known fits in let a = at.all_held in omega arith);
          small = All-append (λ k. HasSmallOffsets k.rule) holds (h ∷ []) at.small (All-cons (λ k. HasSmallOffsets k.rule) h [] offsets (All-nil (λ k. HasSmallOffsets k.rule)));
        }
