-- Slots at ticks that agree on their points, and the order of a schedule less the plans of some copies.
use Rattle.std.proofs.Common.{◌≡◌, inl, inr, ℕ, suc, Bool, true, List, filter, refl, sym, arith, Contains, All, AllPairs, subst, get_or}
use Rattle.std.specs.Prelude.{◌<ℤ◌}
use Rattle.std.proofs.lemmas.List.Elements.{All-contains, Contains-get_or}
use Rattle.std.proofs.lemmas.List.Kept.{AllPairs-filter}
use Rattle.std.proofs.lemmas.List.Sorted.{Contains-permutation, IsPermutation-sym}
use Rattle.tp_machine.proofs.MachineFacts.{is_machine}
use Rattle.tp_machine.specs.Modes.{gap_at}
use Rattle.tp_machine.specs.declared.machine.Machine.{Machine}
use Rattle.tp_schedule.specs.declared.parts.Plan.{Plan}
use Rattle.tp_schedule.specs.declared.parts.SheetId.{SheetId}
use Rattle.tp_schedule.specs.Legality.{IsLegal}
use Rattle.tp_schedule.specs.Plans.{IsEarlier, IsTimedPlan}
use Rattle.std.proofs.lemmas.Int.{ints}
use Rattle.tp_schedule.specs.Spots.{Ticks, Slot, IsApart, AreApart, IsSoundSlot, begin_at, end_at, slots, slot_order, ticks_of}
use Rattle.tp_schedule.proofs.LegalOrders.{legal_apart, LastsBy-plans, sound_plans}
use Rattle.tp_schedule.proofs.Membership.{Contains-filter, Contains-filter_from}
use Rattle.tp_schedule.proofs.Pairs.{AllPairs-each}
use Rattle.tp_schedule.proofs.SlotOrder.{IsPermutation-by_begin, rising_unique}
use Rattle.tp_choices.proofs.PlansLeft.{staying, stays, slots-staying, ticks-staying, legal-staying}
use Rattle.tp_choices.proofs.TimedSlots.{All-slots}

-- the ticks agree on the points of the slot
pub record IsSameAt (t t' : Ticks) (s : Slot) : Type 0 where
  pub from : t' s.from ≡ t s.from
  pub to : t' s.to ≡ t s.to

pub same-back : (t t' : Ticks) (s : Slot) → IsSameAt t t' s → IsSameAt t' t s
same-back t t' s same = record { from = sym same.from; to = sym same.to }

pub begin-same : (t t' : Ticks) (s : Slot) → IsSameAt t t' s → begin_at t' s ≡ begin_at t s
begin-same t t' s same = rw (same.from, same.to) refl

pub end-same : (t t' : Ticks) (s : Slot) → IsSameAt t t' s → end_at t' s ≡ end_at t s
end-same t t' s same = rw (same.from, same.to) refl

pub apart-same : (gap : ℕ) (t t' : Ticks) (x y : Slot) → IsSameAt t t' x → IsSameAt t t' y → IsApart gap t x y → IsApart gap t' x y
apart-same gap t t' x y same-x same-y apart = rw (end-same t t' x same-x, begin-same t t' y same-y) apart

pub both-apart-same : (gap : ℕ) (t t' : Ticks) (x y : Slot) → IsSameAt t t' x → IsSameAt t t' y → AreApart gap t x y → AreApart gap t' x y
both-apart-same gap t t' x y same-x same-y (inl h) = inl (apart-same gap t t' x y same-x same-y h)
both-apart-same gap t t' x y same-x same-y (inr h) = inr (apart-same gap t t' y x same-y same-x h)

-- the slots of the copies that stay have the same ticks in the schedule less the others
pub same-staying : (b : Bool) (f : SheetId → Bool) (machine : Machine) (resource : ℕ) (plans : List Plan) (s : Slot) → Contains (slots machine resource plans) s → stays b f s ≡ true → IsSameAt (ticks_of plans) (ticks_of (staying f plans)) s
same-staying b f machine resource plans s in' =
    All-contains (λ s. stays b f s ≡ true → IsSameAt (ticks_of plans) (ticks_of (staying f plans)) s) (slots machine resource plans) s
    (All-slots (λ s. stays b f s ≡ true → IsSameAt (ticks_of plans) (ticks_of (staying f plans)) s) machine resource plans
    (λ p _ i within rule e. record { from = ticks-staying f p.sheet plans i e; to = ticks-staying f p.sheet plans (suc i) e })) in'

pub in-slots : (machine : Machine) (plans : List Plan) (resource : ℕ) (s : Slot) → Contains (slot_order machine plans resource) s → Contains (slots machine resource plans) s
in-slots machine plans resource s = Contains-permutation (slot_order machine plans resource) (slots machine resource plans) s (IsPermutation-sym (slots machine resource plans) (slot_order machine plans resource) (IsPermutation-by_begin (ticks_of plans) (slots machine resource plans)))

pub in-order : (machine : Machine) (plans : List Plan) (resource : ℕ) (s : Slot) → Contains (slots machine resource plans) s → Contains (slot_order machine plans resource) s
in-order machine plans resource s = Contains-permutation (slots machine resource plans) (slot_order machine plans resource) s (IsPermutation-by_begin (ticks_of plans) (slots machine resource plans))

-- sound slots that are apart have one order, so lists of the same ones are equal
pub order-by-elements : (gap : ℕ) (t : Ticks) (xs ys : List Slot) → ((s : Slot) → Contains xs s → IsSoundSlot t s) → AllPairs (IsApart gap t) xs → AllPairs (IsApart gap t) ys
    → ((s : Slot) → Contains xs s → Contains ys s) → ((s : Slot) → Contains ys s → Contains xs s) → xs ≡ ys
order-by-elements gap t xs ys sound p q there back =
    rising_unique (λ x y. begin_at t x <ℤ begin_at t y) (λ x y a b. omega (arith, ints)) xs ys
    (λ i j d before within. let one = p i j d before within in let long = sound (get_or xs i d) (Contains-get_or xs i d (omega arith)) in omega (arith, ints))
    (λ i j d before within. let one = q i j d before within in let long = sound (get_or ys i d) (back (get_or ys i d) (Contains-get_or ys i d (omega arith))) in omega (arith, ints))
    there back

-- the slots of plans in the order of copies, each a timed plan, are sound
pub sound-slots : (machine : Machine) (plans : List Plan) (resource : ℕ) (s : Slot) → AllPairs IsEarlier plans → All (IsTimedPlan machine) plans → Contains (slots machine resource plans) s → IsSoundSlot (ticks_of plans) s
sound-slots machine plans resource s in_order timed in' =
    All-contains (IsSoundSlot (ticks_of plans)) (slots machine resource plans) s (sound_plans machine (is_machine machine) (ticks_of plans) resource plans (LastsBy-plans machine plans in_order timed)) in'

-- the order of the schedule less some plans is the order less their holds
pub order-staying : (b : Bool) (f : SheetId → Bool) (machine : Machine) (plans : List Plan) (resource : ℕ) → IsLegal machine plans → slot_order machine (staying f plans) resource ≡ filter (stays b f) (slot_order machine plans resource)
order-staying b f machine plans resource legal =
    let legal' = legal-staying f machine plans legal in
    let apart : AllPairs (IsApart (gap_at machine resource) (ticks_of (staying f plans))) (filter (stays b f) (slot_order machine plans resource)) =
    AllPairs-each (IsApart (gap_at machine resource) (ticks_of plans)) (IsApart (gap_at machine resource) (ticks_of (staying f plans))) (filter (stays b f) (slot_order machine plans resource))
    (AllPairs-filter (IsApart (gap_at machine resource) (ticks_of plans)) (stays b f) (slot_order machine plans resource) (legal_apart machine plans (is_machine machine) legal resource))
    (λ x y in-x in-y h. apart-same (gap_at machine resource) (ticks_of plans) (ticks_of (staying f plans)) x y (same x in-x) (same y in-y) h) in
    order-by-elements (gap_at machine resource) (ticks_of (staying f plans)) (slot_order machine (staying f plans) resource) (filter (stays b f) (slot_order machine plans resource))
    (λ s in'. sound-slots machine (staying f plans) resource s legal'.in_order legal'.timed (in-slots machine (staying f plans) resource s in'))
    (legal_apart machine (staying f plans) (is_machine machine) legal' resource) apart there back where
      same : (s : Slot) → Contains (filter (stays b f) (slot_order machine plans resource)) s → IsSameAt (ticks_of plans) (ticks_of (staying f plans)) s
      same s in' =
          let from = Contains-filter_from (stays b f) (slot_order machine plans resource) s in' in
          same-staying b f machine resource plans s (in-slots machine plans resource s from.0) from.1

      there : (s : Slot) → Contains (slot_order machine (staying f plans) resource) s → Contains (filter (stays b f) (slot_order machine plans resource)) s
      there s in' =
          let from = Contains-filter_from (stays b f) (slots machine resource plans) s (subst (λ xs. Contains xs s) (slots-staying b f machine resource plans) (in-slots machine (staying f plans) resource s in')) in
          Contains-filter (stays b f) (slot_order machine plans resource) s (in-order machine plans resource s from.0) from.1

      back : (s : Slot) → Contains (filter (stays b f) (slot_order machine plans resource)) s → Contains (slot_order machine (staying f plans) resource) s
      back s in' =
          let from = Contains-filter_from (stays b f) (slot_order machine plans resource) s in' in
          in-order machine (staying f plans) resource s
          (subst (λ xs. Contains xs s) (sym (slots-staying b f machine resource plans)) (Contains-filter (stays b f) (slots machine resource plans) s (in-slots machine plans resource s from.0) from.1))
