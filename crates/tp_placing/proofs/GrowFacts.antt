-- A hold that is put in: the edges to its neighbours are hops, and the orders get its slot.
use Rattle.std.proofs.Common.{◌≡◌, ℕ, zero, suc, ◌+◌, ◌<◌, ◌≤◌, Bool, true, false, ◌==◌, inl, inr, List, [], ◌∷◌, ◌++◌, drop, length, map, take, ◌-◌, refl, ap, sym, ◌∙◌, subst, arith, Option, Some, None, All, get_or}
use Rattle.std.specs.Prelude.{slice_get, slice_set}
use Rattle.std.specs.List.{insert}
use Rattle.std.proofs.lemmas.Bool.{cases_eq}
use Rattle.std.proofs.lemmas.Bool.Decides.{nat_tests}
use Rattle.std.proofs.lemmas.List.{append_assoc, get_or-drop, get_or-set_other, length-append, length-drop, length-set, map-append, take_more}
use Rattle.std.proofs.lemmas.Option.{get_or_from_slice_get, same_Some, slice_get-get_or, slice_get_within}
use Rattle.tp_base.proofs.SliceFacts.{All-at, found, slice_get_left}
use Rattle.tp_base.specs.declared.edges.Edge.{Edge}
use Rattle.tp_machine.proofs.MachineFacts.{is_machine}
use Rattle.tp_machine.specs.Modes.{gap_at}
use Rattle.tp_machine.specs.declared.machine.Machine.{Machine}
use Rattle.tp_schedule.proofs.PutFacts.{All-insert}
use Rattle.tp_schedule.specs.Spots.{Slot, Spot}
use Rattle.tp_schedule.specs.declared.parts.Plan.{Plan}
use Rattle.tp_constraints.proofs.Lists.{map-each}
use Rattle.tp_constraints.specs.Gaps.{gap}
use Rattle.tp_constraints.specs.Hops.{Hop, hop, hop_after, hop_until, place_hops, slot_hop}
use Rattle.tp_constraints.specs.Numbers.{spot_at, spot_in, table_of}
use Rattle.tp_constraints.specs.Suffixes.{before_place}
use Rattle.tp_constraints.specs.Puts.{Put, put_hops, with_put, with_puts}
use Rattle.tp_constraints.proofs.PutFacts.{IsOf, put-here, put_hops-push, puts-on, puts-push, within-push}
use Rattle.tp_timelines.specs.Orders.{order_on, total}
use Rattle.tp_placing.specs.Causes.{cause_between, hop_by, kind_of, numbered, step_causes}
use Rattle.tp_placing.specs.Edges.{edge_after, edge_until, edges_around, held_before, held_behind, held_of, hold_edge}
use Rattle.tp_placing.specs.AddedEdges.{AreHops, HasPut, cause_before, cause_behind, causes_for, slot_by}
use Rattle.tp_placing.specs.LoadedNet.{AreIds}
use Rattle.tp_placing.specs.LoadedHolds.{IsHeldWithin}
use Rattle.tp_placing.specs.LoadedBoard.{AreSlots, HasSmallOffsets, IsSlotOf}
use Rattle.tp_placing.specs.declared.causes.EdgeCause.{EdgeCause}
use Rattle.tp_placing.specs.declared.parts.Held.{Held}
use Rattle.tp_placing.proofs.LoadHops.{hops-append, hops-none, hops-one}
use Rattle.tp_placing.proofs.LoadOrders.{hold-can, hold-hop}
use Rattle.tp_placing.proofs.NeighbourFacts.{two-neighbours}
use Rattle.tp_placing.proofs.PlaceFacts.{order-same, total-more}
use Rattle.tp_placing.proofs.SlotFacts.{AtPlace, length-slots, slots-at, slots-before, slots-insert}
use Rattle.tp_placing.proofs.SlotFacts.AtPlace.{none, some}
use Rattle.tp_placing.proofs.TableFacts.{get-right}

-- more causes behind
hop-grows : (plans : List Plan) (causes more : List EdgeCause) (e : Edge) → e.tag < length causes → hop_by plans (causes ++ more) e ≡ hop_by plans causes e
hop-grows plans causes more e within = ap (λ c. hop (kind_of plans c) (gap (numbered plans e.from.0) (numbered plans e.to.0) e.weight)) (slice_get_left causes more e.tag within)

pub hops-grow : (plans : List Plan) (causes more : List EdgeCause) (es : List Edge) (hs : List Hop) → AreHops plans causes es hs → AreHops plans (causes ++ more) es hs
hops-grow plans causes more es hs are = record {
  hops = map-each (hop_by plans (causes ++ more)) (hop_by plans causes) es (λ k d inside. hop-grows plans causes more (get_or es k d) (are.tags k d inside)) ∙ are.hops;
  can = are.can;
  tags = λ k d inside. (let t = are.tags k d inside in let l = length-append causes more in omega arith);
  safe = are.safe;
}

-- a hold by its slot
slot-is : (table : List Spot) (x : Held) (q : Slot) → x.rule ≡ q.rule → slice_get table x.start.0 ≡ Some q.from → slice_get table x.end.0 ≡ Some q.to → slot_by table x ≡ q
slot-is table x q rule start end =
    let a : spot_at table x.start.0 ≡ q.from = ap spot_in start in
    let b : spot_at table x.end.0 ≡ q.to = ap spot_in end in
    λ i. record { rule = rule i; from = a i; to = b i }

module _ (machine : Machine) (plans : List Plan) (causes : List EdgeCause) (r tag : ℕ) (held : List Held) (h : Held) (s : Slot)
    (inside : IsHeldWithin (length (table_of plans)) h) (small : HasSmallOffsets h.rule) (here : h.rule.resource.0 ≡ r) (is : slot_by (table_of plans) h ≡ s) (behind : step_causes ≤ tag) where
  abbrev g : ℕ
  g = gap_at machine r

  pub after-made : (o : Option Held) (q : Option Slot) → AtPlace (table_of plans) held o q → ((x : Held) → o ≡ Some x → HasSmallOffsets x.rule) → ((y : Slot) → q ≡ Some y → IsOf r y)
      → slice_get causes tag ≡ Some (cause_before o h) → AreHops plans causes (edge_after g o h tag) (hop_after machine r q s)
  after-made o q none smalls on at = hops-none plans causes
  after-made o q (some x y rule start end) smalls on at =
      let w : IsHeldWithin (length (table_of plans)) x = (slice_get_within (table_of plans) x.start.0 y.from start, slice_get_within (table_of plans) x.end.0 y.to end) in
      let there : x.rule.resource.0 ≡ r = ap (λ k. k.resource.0) rule ∙ on y refl in
      let slot = slot-is (table_of plans) x y rule start end in
      hops-one plans causes (hold_edge g x h tag) (slot_hop machine r y s)
      (hold-hop machine plans causes r tag x h w inside there at ∙ (λ i. slot_hop machine r (slot i) (is i)))
      (hold-can g (length (table_of plans)) tag x h ((is_machine machine).gaps r) w inside (smalls x refl) small)
      (slice_get_within causes tag (cause_between x h) at) (inr behind)

  pub until-made : (o : Option Held) (q : Option Slot) → AtPlace (table_of plans) held o q → ((x : Held) → o ≡ Some x → HasSmallOffsets x.rule)
      → slice_get causes tag ≡ Some (cause_behind h o) → AreHops plans causes (edge_until g h o tag) (hop_until machine r s q)
  until-made o q none smalls at = hops-none plans causes
  until-made o q (some x y rule start end) smalls at =
      let w : IsHeldWithin (length (table_of plans)) x = (slice_get_within (table_of plans) x.start.0 y.from start, slice_get_within (table_of plans) x.end.0 y.to end) in
      let slot = slot-is (table_of plans) x y rule start end in
      hops-one plans causes (hold_edge g h x tag) (slot_hop machine r s y)
      (hold-hop machine plans causes r tag h x inside w here at ∙ (λ i. slot_hop machine r (is i) (slot i)))
      (hold-can g (length (table_of plans)) tag h x ((is_machine machine).gaps r) inside w small (smalls x refl))
      (slice_get_within causes tag (cause_between h x) at) (inr behind)

-- a hold of an order is one of the holds
held-of : (P : Held → Type 0) (held : List Held) (o : Option ℕ) (x : Held) → All P held → held_of held o ≡ Some x → P x
held-of P held None x all e = absurd cc
held-of P held (Some id) x all e = All-at P held id x all e

held-before : (P : Held → Type 0) (held : List Held) (ids : List ℕ) (place : ℕ) (x : Held) → All P held → held_before held ids place ≡ Some x → P x
held-before P held ids zero x all e = absurd cc
held-before P held ids (suc place) x all e = held-of P held (slice_get ids place) x all e

slot-before : (P : Slot → Type 0) (xs : List Slot) (place : ℕ) (y : Slot) → All P xs → before_place xs place ≡ Some y → P y
slot-before P xs zero y all e = absurd cc
slot-before P xs (suc place) y all e = All-at P xs place y all e

module _ (machine : Machine) (plans : List Plan) (before : ℕ → List Slot) (held : List Held) (timelines : List (List ℕ)) (edges : List Edge) (causes : List EdgeCause) (slots : List Slot)
    (put : HasPut machine plans before held timelines edges causes slots) (on : (r : ℕ) → All (IsOf r) (before r)) (smalls : All (λ x. HasSmallOffsets x.rule) held)
    (number place : ℕ) (h : Held) (at : slice_get held number ≡ Some h) (inside : IsHeldWithin (length (table_of plans)) h)
    (resource : h.rule.resource.0 < length machine.resources) (known : h.rule.resource.0 < length timelines) (fits : place ≤ length (order_on timelines h.rule.resource.0)) (base : step_causes ≤ length causes) where
  abbrev r : ℕ
  r = h.rule.resource.0

  abbrev table : List Spot
  table = table_of plans

  abbrev order : List ℕ
  order = order_on timelines r

  abbrev now : List Slot
  now = with_puts put.puts before r

  abbrev x : Put
  x = record { slot = slot_by table h; place = place }

  abbrev before_held : Option Held
  before_held = held_before held order place

  abbrev behind_held : Option Held
  behind_held = held_behind held order place

  abbrev all_causes : List EdgeCause
  all_causes = causes ++ causes_for before_held h behind_held

  are : AreSlots table held order now
  are = put.orders r resource

  small : HasSmallOffsets h.rule
  small = All-at (λ y. HasSmallOffsets y.rule) held number h smalls at

  first-cause : slice_get all_causes (length causes) ≡ Some (cause_before before_held h)
  first-cause = let e : length causes + 0 ≡ length causes = omega arith in ap (slice_get all_causes) (sym e) ∙ get-right causes (causes_for before_held h behind_held) 0

  second-cause : slice_get all_causes (length causes + 1) ≡ Some (cause_behind h behind_held)
  second-cause = get-right causes (causes_for before_held h behind_held) 1

  around : AreHops plans all_causes (edges_around (gap_at machine r) before_held h behind_held (length causes)) (place_hops machine r now place (slot_by table h))
  around =
      let here = slots-before table held order now place are in
      let there = slots-at table held order now place are in
      let of = puts-on put.puts before on r in
      hops-append plans all_causes (edge_after (gap_at machine r) before_held h (length causes)) (edge_until (gap_at machine r) h behind_held (length causes + 1))
      (hop_after machine r (before_place now place) (slot_by table h)) (hop_until machine r (slot_by table h) (slice_get now place))
      (after-made machine plans all_causes r (length causes) held h (slot_by table h) inside small refl refl base before_held (before_place now place) here
      (λ y e. held-before (λ z. HasSmallOffsets z.rule) held order place y smalls e) (λ y e. slot-before (IsOf r) now place y of e) first-cause)
      (until-made machine plans all_causes r (length causes + 1) held h (slot_by table h) inside small refl refl (omega arith) behind_held (slice_get now place) there
      (λ y e. held-of (λ z. HasSmallOffsets z.rule) held (slice_get order place) y smalls e) second-cause)

  new-slot : IsSlotOf table held number (slot_by table h)
  new-slot = record { hold = h; at = at; rule = refl; start = there h.start.0 inside.0; end = there h.end.0 inside.1 } where
    there : (n : ℕ) → n < length (table_of plans) → slice_get (table_of plans) n ≡ Some (spot_at (table_of plans) n)
    there n below = let f = found (table_of plans) n below in f.1 ∙ ap Some (sym (ap spot_in f.1))

  pub put-more : HasPut machine plans before held (slice_set timelines r (insert order place number)) (edges ++ edges_around (gap_at machine r) before_held h behind_held (length causes)) all_causes (slots ++ slot_by table h ∷ [])
  put-more = record {
    puts = put.puts ++ x ∷ [];
    holds = map-append (λ (y : Put). y.slot) put.puts (x ∷ []) ∙ ap (λ ss. ss ++ slot_by table h ∷ []) put.holds;
    within = within-push put.puts x before put.within (let l = length-slots table held order now are in omega arith);
    hops = subst (AreHops plans all_causes (edges ++ edges_around (gap_at machine r) before_held h behind_held (length causes))) (sym (put_hops-push machine put.puts x before))
        (hops-append plans all_causes edges (edges_around (gap_at machine r) before_held h behind_held (length causes)) (put_hops machine put.puts before) (place_hops machine r now place (slot_by table h))
        (hops-grow plans causes (causes_for before_held h behind_held) edges (put_hops machine put.puts before) put.hops) around);
    orders = λ q below. subst (λ (f : ℕ → List Slot). AreSlots table held (order_on (slice_set timelines r (insert order place number)) q) (f q)) (sym (puts-push put.puts x before)) (go q below (r == q) refl);
  } where
    go : (q : ℕ) → q < length machine.resources → (b : Bool) → (h.rule.resource.0 == q) ≡ b
        → AreSlots (table_of plans) held (order_on (slice_set timelines h.rule.resource.0 (insert (order_on timelines h.rule.resource.0) place number)) q) (with_put (record { slot = slot_by (table_of plans) h; place = place }) (with_puts put.puts before) q)
    go q below true e =
        let same : h.rule.resource.0 ≡ q = grind (arith, nat_tests) in
        subst (λ k. AreSlots (table_of plans) held (order_on (slice_set timelines h.rule.resource.0 (insert (order_on timelines h.rule.resource.0) place number)) k) (with_put (record { slot = slot_by (table_of plans) h; place = place }) (with_puts put.puts before) k)) same
        (subst (λ ids. AreSlots (table_of plans) held ids (with_put (record { slot = slot_by (table_of plans) h; place = place }) (with_puts put.puts before) h.rule.resource.0)) (sym (order-same timelines h.rule.resource.0 (insert (order_on timelines h.rule.resource.0) place number) known))
        (subst (AreSlots (table_of plans) held (insert (order_on timelines h.rule.resource.0) place number)) (sym (put-here (record { slot = slot_by (table_of plans) h; place = place }) (with_puts put.puts before)))
        (slots-insert (table_of plans) held (order_on timelines h.rule.resource.0) (with_puts put.puts before h.rule.resource.0) place number (slot_by (table_of plans) h) are new-slot)))
    go q below false e =
        let ne : h.rule.resource.0 ≡ q → ⊥ = (λ same. grind (arith, nat_tests)) in
        subst (λ ids. AreSlots (table_of plans) held ids (with_put (record { slot = slot_by (table_of plans) h; place = place }) (with_puts put.puts before) q)) (sym (get_or-set_other timelines h.rule.resource.0 q (insert (order_on timelines h.rule.resource.0) place number) [] (λ f. ne (sym f))))
        (rw e (put.orders q below))

pub put-none : (machine : Machine) (plans : List Plan) (before : ℕ → List Slot) (held : List Held) (timelines : List (List ℕ)) (causes : List EdgeCause)
    → ((r : ℕ) → r < length machine.resources → AreSlots (table_of plans) held (order_on timelines r) (before r)) → HasPut machine plans before held timelines [] causes []
put-none machine plans before held timelines causes orders = record { puts = []; holds = refl; within = tt; hops = hops-none plans causes; orders = orders }

-- the numbers of an order stay those of holds
pub ids-more : (held : List Held) (timelines : List (List ℕ)) (r place number : ℕ) → r < length timelines → number < length held → ((q : ℕ) → q < length timelines → AreIds held (order_on timelines q))
    → (q : ℕ) → q < length timelines → AreIds held (order_on (slice_set timelines r (insert (order_on timelines r) place number)) q)
ids-more held timelines r place number known inside ids q below = elim (cases_eq q r) [
  | inl e ↦ subst (λ k. AreIds held (order_on (slice_set timelines r (insert (order_on timelines r) place number)) k)) (sym e)
      (subst (AreIds held) (sym (order-same timelines r (insert (order_on timelines r) place number) known)) (All-insert (λ id. id < length held) (order_on timelines r) place number (ids r known) inside))
  | inr ne ↦ subst (AreIds held) (sym (get_or-set_other timelines r q (insert (order_on timelines r) place number) [] ne)) (ids q below)
]

-- ---- one turn of the loop
slots-push : (table : List Spot) (held : List Held) (from number : ℕ) (h : Held) → from ≤ number → slice_get held number ≡ Some h
    → map (slot_by table) (take (number - from) (drop from held)) ++ slot_by table h ∷ [] ≡ map (slot_by table) (take (number + 1 - from) (drop from held))
slots-push table held from number h le at =
    let within = slice_get_within held number h at in
    let n = length-drop from held in
    let sum : from + (number - from) ≡ number = omega arith in
    let next : number - from + 1 ≡ number + 1 - from = omega arith in
    let read : get_or (drop from held) (number - from) h ≡ h = get_or-drop from held (number - from) h ∙ ap (λ k. get_or held k h) sum ∙ sym (same_Some h (get_or held number h) (sym at ∙ slice_get-get_or held number h within)) in
    let more = take_more (drop from held) (number - from) h (omega arith) in
    sym (map-append (slot_by table) (take (number - from) (drop from held)) (h ∷ []))
    ∙ ap (map (slot_by table)) (ap (λ x. take (number - from) (drop from held) ++ x ∷ []) (sym read) ∙ sym more ∙ ap (λ k. take k (drop from held)) next)

pub put-step : (machine : Machine) (plans : List Plan) (held : List Held) (timelines timelines' : List (List ℕ)) (first edges edges' : List Edge) (causes causes' : List EdgeCause) (from number place apart : ℕ) (h : Held)
    → edges' ≡ edges ++ edges_around apart (held_before held (order_on timelines h.rule.resource.0) place) h (held_behind held (order_on timelines h.rule.resource.0) place) (length causes)
    → causes' ≡ causes ++ causes_for (held_before held (order_on timelines h.rule.resource.0) place) h (held_behind held (order_on timelines h.rule.resource.0) place)
    → timelines' ≡ slice_set timelines h.rule.resource.0 (insert (order_on timelines h.rule.resource.0) place number)
    → apart ≡ gap_at machine h.rule.resource.0 → slice_get held number ≡ Some h → from ≤ number
    → All (λ x. HasSmallOffsets x.rule) held → IsHeldWithin (length (table_of plans)) h → h.rule.resource.0 < length machine.resources → h.rule.resource.0 < length timelines
    → place ≤ length (order_on timelines h.rule.resource.0) → step_causes ≤ length causes
    → (before : ℕ → List Slot) → ((r : ℕ) → All (IsOf r) (before r))
    → (es : List Edge) × (edges ≡ first ++ es) × HasPut machine plans before held timelines es causes (map (slot_by (table_of plans)) (take (number - from) (drop from held)))
    → (es : List Edge) × (edges' ≡ first ++ es) × HasPut machine plans before held timelines' es causes' (map (slot_by (table_of plans)) (take (number + 1 - from) (drop from held)))
put-step machine plans held timelines timelines' first edges edges' causes causes' from number place apart h edges-are causes-are timelines-are gap-is at le smalls inside resource known fits base before on (es, is, put) =
    let around = edges_around apart (held_before held (order_on timelines h.rule.resource.0) place) h (held_behind held (order_on timelines h.rule.resource.0) place) (length causes) in
    let more = put-more machine plans before held timelines es causes (map (slot_by (table_of plans)) (take (number - from) (drop from held))) put on smalls number place h at inside resource known fits base in (
      es ++ around,
      edges-are ∙ ap (λ xs. xs ++ around) is ∙ append_assoc first es around,
      subst (λ ls. HasPut machine plans before held ls (es ++ around) causes' (map (slot_by (table_of plans)) (take (number + 1 - from) (drop from held)))) (sym timelines-are)
          (subst (λ cs. HasPut machine plans before held (slice_set timelines h.rule.resource.0 (insert (order_on timelines h.rule.resource.0) place number)) (es ++ around) cs (map (slot_by (table_of plans)) (take (number + 1 - from) (drop from held)))) (sym causes-are)
          (subst (HasPut machine plans before held (slice_set timelines h.rule.resource.0 (insert (order_on timelines h.rule.resource.0) place number)) (es ++ around) (causes ++ causes_for (held_before held (order_on timelines h.rule.resource.0) place) h (held_behind held (order_on timelines h.rule.resource.0) place))) (slots-push (table_of plans) held from number h le at)
          (subst (λ g. HasPut machine plans before held (slice_set timelines h.rule.resource.0 (insert (order_on timelines h.rule.resource.0) place number)) (es ++ edges_around g (held_before held (order_on timelines h.rule.resource.0) place) h (held_behind held (order_on timelines h.rule.resource.0) place) (length causes)) (causes ++ causes_for (held_before held (order_on timelines h.rule.resource.0) place) h (held_behind held (order_on timelines h.rule.resource.0) place)) (map (slot_by (table_of plans)) (take (number - from) (drop from held)) ++ slot_by (table_of plans) h ∷ [])) (sym gap-is) more))),
    )

-- what one turn does to sizes and numbers
pub record HasTurned (held : List Held) (timelines timelines' : List (List ℕ)) (edges edges' : List Edge) (causes causes' : List EdgeCause) : Type 0 where
  pub two_causes : length causes' ≡ length causes + 2
  pub few_edges : length edges' ≤ length edges + 2
  pub one_more : total timelines' ≡ total timelines + 1
  pub same_count : length timelines' ≡ length timelines
  pub ids : (q : ℕ) → q < length timelines' → AreIds held (order_on timelines' q)
  pub behind : (base more : List EdgeCause) → causes ≡ base ++ more → (all : List EdgeCause) × (causes' ≡ base ++ all)

pub turned : (held : List Held) (timelines timelines' : List (List ℕ)) (edges edges' : List Edge) (causes causes' : List EdgeCause) (number place apart : ℕ) (h : Held)
    → edges' ≡ edges ++ edges_around apart (held_before held (order_on timelines h.rule.resource.0) place) h (held_behind held (order_on timelines h.rule.resource.0) place) (length causes)
    → causes' ≡ causes ++ causes_for (held_before held (order_on timelines h.rule.resource.0) place) h (held_behind held (order_on timelines h.rule.resource.0) place)
    → timelines' ≡ slice_set timelines h.rule.resource.0 (insert (order_on timelines h.rule.resource.0) place number)
    → h.rule.resource.0 < length timelines → place ≤ length (order_on timelines h.rule.resource.0) → number < length held → ((q : ℕ) → q < length timelines → AreIds held (order_on timelines q))
    → HasTurned held timelines timelines' edges edges' causes causes'
turned held timelines timelines' edges edges' causes causes' number place apart h edges-are causes-are timelines-are known fits inside ids =
    let e = ap length edges-are ∙ length-append edges (edges_around apart (held_before held (order_on timelines h.rule.resource.0) place) h (held_behind held (order_on timelines h.rule.resource.0) place) (length causes)) in
    let two = two-neighbours apart (held_before held (order_on timelines h.rule.resource.0) place) (held_behind held (order_on timelines h.rule.resource.0) place) h (length causes) in
    let n = ap length timelines-are ∙ length-set timelines h.rule.resource.0 (insert (order_on timelines h.rule.resource.0) place number) in
    record {
      two_causes = ap length causes-are ∙ length-append causes (causes_for (held_before held (order_on timelines h.rule.resource.0) place) h (held_behind held (order_on timelines h.rule.resource.0) place));
      few_edges = omega arith;
      one_more = ap total timelines-are ∙ total-more timelines h.rule.resource.0 place number known fits;
      same_count = n;
      ids = λ q below. subst (λ ls. AreIds held (order_on ls q)) (sym timelines-are) (ids-more held timelines h.rule.resource.0 place number known inside ids q (omega arith));
      behind = λ base more is. (
        more ++ causes_for (held_before held (order_on timelines h.rule.resource.0) place) h (held_behind held (order_on timelines h.rule.resource.0) place),
        causes-are ∙ ap (λ cs. cs ++ causes_for (held_before held (order_on timelines h.rule.resource.0) place) h (held_behind held (order_on timelines h.rule.resource.0) place)) is
            ∙ append_assoc base more (causes_for (held_before held (order_on timelines h.rule.resource.0) place) h (held_behind held (order_on timelines h.rule.resource.0) place)),
      );
    }

-- what holds of the elements from a number on
pub at-drop : {X : Type 0} (P : X → Type 0) (from number : ℕ) (xs : List X) (x : X) → from ≤ number → slice_get xs number ≡ Some x → All P (drop from xs) → P x
at-drop P from number xs x le at all =
    let n = length-drop from xs in
    let within = slice_get_within xs number x at in
    let sum : from + (number - from) ≡ number = omega arith in
    let same = get_or-drop from xs (number - from) x ∙ ap (λ k. get_or xs k x) sum ∙ get_or_from_slice_get xs number x x at in
    subst P same (all (number - from) x (omega arith))

-- a hold of an order lies between points of the table
pub slot-within : (table : List Spot) (held : List Held) (ids : List ℕ) (slots : List Slot) → AreSlots table held ids slots → (k id : ℕ) (h : Held) → slice_get ids k ≡ Some id → slice_get held id ≡ Some h → IsHeldWithin (length table) h
slot-within table held [] slots are k id h at here = absurd cc
slot-within table held (i ∷ ids) [] are k id h at here = absurd are
slot-within table held (i ∷ ids) (s ∷ slots) are zero id h at here =
    let same : i ≡ id = cc in
    let a = are.0 in
    let one = same_Some a.hold h (sym a.at ∙ ap (slice_get held) same ∙ here) in
    subst (IsHeldWithin (length table)) one (slice_get_within table a.hold.start.0 s.from a.start, slice_get_within table a.hold.end.0 s.to a.end)
slot-within table held (i ∷ ids) (s ∷ slots) are (suc k) id h at here = slot-within table held ids slots are.1 k id h at here

-- the same with plans, holds, causes and a number by other names
pub put-as : (machine : Machine) (plans plans' : List Plan) (before : ℕ → List Slot) (held held' : List Held) (timelines : List (List ℕ)) (es : List Edge) (causes causes' : List EdgeCause) (from from' : ℕ) → plans ≡ plans' → held ≡ held' → causes ≡ causes' → from ≡ from'
    → HasPut machine plans before held timelines es causes (map (slot_by (table_of plans)) (drop from held)) → HasPut machine plans' before held' timelines es causes' (map (slot_by (table_of plans')) (drop from' held'))
put-as machine plans plans' before held held' timelines es causes causes' from from' a b c d put =
    subst (λ ps. HasPut machine ps before held' timelines es causes' (map (slot_by (table_of ps)) (drop from' held'))) a
    (subst (λ hs. HasPut machine plans before hs timelines es causes' (map (slot_by (table_of plans)) (drop from' hs))) b
    (subst (λ cs. HasPut machine plans before held timelines es cs (map (slot_by (table_of plans)) (drop from' held))) c
    (subst (λ k. HasPut machine plans before held timelines es causes (map (slot_by (table_of plans)) (drop k held))) d put)))
