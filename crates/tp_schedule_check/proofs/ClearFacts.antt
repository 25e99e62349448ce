-- Sorted holds of which no neighbours overlap lie apart on each resource, and neighbours that overlap are no legal schedule.
use Rattle.std.proofs.Common.{◌≡◌, ℕ, zero, suc, ◌+◌, ◌-◌, ◌<◌, ◌≤◌, ◌==◌, ◌&&◌, inl, inr, Bool, true, false, List, [], ◌∷◌, filter, get_or, refl, sym, ap, subst, ◌∙◌, arith, All, AllPairs, Contains, Some, eqb-true}
use Rattle.std.specs.Prelude.{IsPermutation, ℤ, pos, int_lt, ◌+ℤ◌, ◌≤ℤ◌, ◌<ℤ◌, slice_get}
use Rattle.std.proofs.lemmas.Bool.{and_parts, cases_lt}
use Rattle.std.proofs.lemmas.Bool.Decides.{nat_tests}
use Rattle.std.proofs.lemmas.Int.{ints}
use Rattle.std.proofs.lemmas.List.Elements.{All-cons, All-contains, All-head, All-nil, All-tail, All-weaker}
use Rattle.std.proofs.lemmas.List.Kept.{AllPairs-filter}
use Rattle.std.proofs.lemmas.List.Sorted.{All-permutation, Contains-permutation, IsPermutation-sym}
use Rattle.tp_machine.specs.Modes.{gap_at, gap_between}
use Rattle.tp_machine.specs.declared.machine.Machine.{Machine}
use Rattle.tp_machine.proofs.MachineFacts.{is_machine}
use Rattle.tp_schedule.specs.Legality.{IsLegal}
use Rattle.tp_schedule.specs.Plans.{IsFormed, IsTimedPlan}
use Rattle.tp_schedule.specs.Spots.{AreApart, IsApart, IsSoundSlot, Ticks, begin_at, end_at, hold_in, slot_order, slots, ticks_of}
use Rattle.tp_schedule.specs.declared.parts.Hold.{Hold}
use Rattle.tp_schedule.specs.declared.parts.Plan.{Plan}
use Rattle.tp_schedule.proofs.CopyFacts.{InOrder}
use Rattle.tp_schedule.proofs.LegalOrders.{IsTimedBy-plans, LastsBy-plans, legal_apart, sound_plans}
use Rattle.tp_schedule.proofs.Membership.{All-from_contains, Contains-filter, Contains-filter_from, Contains-map}
use Rattle.tp_schedule.proofs.Pairs.{AllPairs-cons, AllPairs-either, AllPairs-head, AllPairs-map, AllPairs-nil, AllPairs-tail}
use Rattle.tp_schedule.proofs.SlotOrder.{IsPermutation-by_begin, apart_behind}
use Rattle.tp_constraints.proofs.Lists.{contains-get}
use Rattle.tp_schedule_check.specs.Clashes.{AreHoldsApart, DoOverlap}
use Rattle.tp_schedule_check.specs.Holds.{AreClear, AreNeighbours, IsAhead, free_at, held_plans, overlaps, slot_of}
use Rattle.tp_schedule_check.specs.declared.held.NumberedHold.{NumberedHold}
use Rattle.tp_schedule_check.proofs.HeldFacts.{AreTwo, IsHeldAt, at-plans, is_on, row-plans, two-plans}
use Rattle.tp_schedule_check.proofs.ListFacts.{get-is}
use Rattle.tp_schedule_check.proofs.PairFacts.{pairs-permuted}
use Rattle.tp_schedule_check.proofs.TimedFacts.{timed-formed}

pair-at : {X : Type 0} (R : X → X → Type 0) (xs : List X) (k : ℕ) (x y : X) → AllPairs R xs → slice_get xs k ≡ Some x → slice_get xs (suc k) ≡ Some y → R x y
pair-at R [] k x y pairs e f = absurd cc
pair-at R (a ∷ []) zero x y pairs e f = absurd cc
pair-at R (a ∷ b ∷ xs) zero x y pairs e f =
    let p : a ≡ x = cc in
    let q : b ≡ y = cc in
    subst (λ u. R u y) p (subst (R a) q (pairs 0 1 a (omega arith) (omega arith)))
pair-at R (a ∷ xs) (suc k) x y pairs e f = pair-at R xs k x y (AllPairs-tail R a xs pairs) e f

-- what the test of two holds says
pub overlap-says : (machine : Machine) (x y : NumberedHold) → overlaps machine x y ≡ true
    → (x.rule.resource.0 ≡ y.rule.resource.0) × (y.begin <ℤ (free_at machine x y))
overlap-says machine x y e =
    let both = and_parts (x.rule.resource.0 == y.rule.resource.0) (int_lt y.begin (free_at machine x y)) e in
    (eqb-true x.rule.resource.0 y.rule.resource.0 both.0, late y.begin (free_at machine x y) both.1) where
      late : (a b : ℤ) → int_lt a b ≡ true → a <ℤ b
      late a b f = grind (arith, ints)

clear-says : (machine : Machine) (x y : NumberedHold) → overlaps machine x y ≡ false → x.rule.resource.0 ≡ y.rule.resource.0
    → (free_at machine x y) ≤ℤ y.begin
clear-says machine x y e same = go (x.rule.resource.0 == y.rule.resource.0) refl (int_lt y.begin (free_at machine x y)) refl e where
  late : (a b : ℤ) → int_lt a b ≡ false → b ≤ℤ a
  late a b f = grind (arith, ints)

  go : (p : Bool) → (x.rule.resource.0 == y.rule.resource.0) ≡ p → (q : Bool) → int_lt y.begin (free_at machine x y) ≡ q → (p && q) ≡ false
      → (free_at machine x y) ≤ℤ y.begin
  go false f q g h = absurd (grind (arith, nat_tests))
  go true f true g h = absurd cc
  go true f false g h = late y.begin (free_at machine x y) g

module _ (machine : Machine) (t : Ticks) where
  -- of one resource, the first hold stands apart before the second, or whichever is earlier before the other
  abbrev pub IsBefore : NumberedHold → NumberedHold → Type 0
  IsBefore x y = x.rule.resource.0 ≡ y.rule.resource.0 → IsApart (gap_at machine x.rule.resource.0) t (slot_of x) (slot_of y)

  abbrev IsEither : NumberedHold → NumberedHold → Type 0
  IsEither x y = x.rule.resource.0 ≡ y.rule.resource.0 → AreApart (gap_at machine x.rule.resource.0) t (slot_of x) (slot_of y)

  either-back : (x y : NumberedHold) → IsEither x y → IsEither y x
  either-back x y e same = subst (λ r. AreApart (gap_at machine r) t (slot_of y) (slot_of x)) (sym same) (turned (e (sym same))) where
    turned : AreApart (gap_at machine x.rule.resource.0) t (slot_of x) (slot_of y) → AreApart (gap_at machine x.rule.resource.0) t (slot_of y) (slot_of x)
    turned (inl a) = inr a
    turned (inr a) = inl a

  next-before : (x y : NumberedHold) → IsHeldAt t x → IsHeldAt t y → overlaps machine x y ≡ false → IsBefore x y
  next-before x y at-x at-y e same = let le = clear-says machine x y e same in let f = at-x.1 in let b = at-y.0 in rw (← f, ← b) le

  -- neighbours that are clear are all before one another
  pub all-before : (hs : List NumberedHold) → All (IsHeldAt t) hs → All (λ h. IsSoundSlot t (slot_of h)) hs → AllPairs IsAhead hs → AreClear machine hs → AllPairs IsBefore hs
  all-before [] at sound ahead clear = AllPairs-nil IsBefore
  all-before (x ∷ []) at sound ahead clear = AllPairs-cons IsBefore x [] (All-nil (IsBefore x)) (AllPairs-nil IsBefore)
  all-before (x ∷ y ∷ hs) at sound ahead clear =
      let at-y = All-tail (IsHeldAt t) x (y ∷ hs) at in
      let sound-y = All-tail (λ h. IsSoundSlot t (slot_of h)) x (y ∷ hs) sound in
      let ahead-y = AllPairs-tail IsAhead x (y ∷ hs) ahead in
      let rest = all-before (y ∷ hs) at-y sound-y ahead-y (λ k a b p q. clear (suc k) a b p q) in
      let first = next-before x y (All-head (IsHeldAt t) x (y ∷ hs) at) (All-head (IsHeldAt t) y hs at-y) (clear 0 x y refl refl) in
      AllPairs-cons IsBefore x (y ∷ hs)
      (All-cons (IsBefore x) y hs first (λ k d within.
      later (get_or hs k d) first (All-head (IsAhead x) y hs (AllPairs-head IsAhead x (y ∷ hs) ahead)) (AllPairs-head IsAhead y hs ahead-y k d within)
      (All-head (λ h. IsSoundSlot t (slot_of h)) y hs sound-y) (AllPairs-head IsBefore y hs rest k d within)))
      rest
    where
      between : (a b c : NumberedHold) → IsAhead a b → IsAhead b c → a.rule.resource.0 ≡ c.rule.resource.0 → a.rule.resource.0 ≡ b.rule.resource.0
      between a b c (inl p) (inl q) same = absurd (omega arith)
      between a b c (inl p) (inr q) same = let e = q.0 in absurd (omega arith)
      between a b c (inr p) q same = p.0

      later : (z : NumberedHold) → IsBefore x y → IsAhead x y → IsAhead y z → IsSoundSlot t (slot_of y) → IsBefore y z → IsBefore x z
      later z x-y a b sound-one y-z same =
          let one = between x y z a b same in
          apart_behind (gap_at machine x.rule.resource.0) t (slot_of x) (slot_of y) (slot_of z) sound-one (x-y one)
          (subst (λ r. IsApart (gap_at machine r) t (slot_of y) (slot_of z)) (sym one) (y-z (sym one ∙ same)))

module _ (machine : Machine) (plans : List Plan) (order : InOrder plans) (timed : All (IsTimedPlan machine) plans) (hs : List NumberedHold) (same : IsPermutation (held_plans machine 0 plans) hs) (ahead : AllPairs IsAhead hs) where
  formed : All IsFormed plans
  formed = All-weaker (IsTimedPlan machine) IsFormed (timed-formed machine) plans timed

  -- the holds have their times, and each is one of the plans'
  pub held-at : All (IsHeldAt (ticks_of plans)) hs
  held-at = All-permutation (IsHeldAt (ticks_of plans)) (held_plans machine 0 plans) hs same (at-plans machine (ticks_of plans) 0 plans (IsTimedBy-plans machine plans order timed))

  pub in-slots : (h : NumberedHold) → Contains hs h → Contains (slots machine h.rule.resource.0 plans) (slot_of h)
  in-slots h in' =
      let was : Contains (held_plans machine 0 plans) h = Contains-permutation hs (held_plans machine 0 plans) h (IsPermutation-sym (held_plans machine 0 plans) hs same) in' in
      subst (λ ss. Contains ss (slot_of h)) (row-plans machine h.rule.resource.0 0 plans formed)
      (Contains-map slot_of (filter (is_on h.rule.resource.0) (held_plans machine 0 plans)) h (Contains-filter (is_on h.rule.resource.0) (held_plans machine 0 plans) h was (itself h.rule.resource.0))) where
        itself : (n : ℕ) → (n == n) ≡ true
        itself n = grind (arith, nat_tests)

  pub held-sound : All (λ h. IsSoundSlot (ticks_of plans) (slot_of h)) hs
  held-sound = All-from_contains (λ h. IsSoundSlot (ticks_of plans) (slot_of h)) hs (λ h in'.
      All-contains (IsSoundSlot (ticks_of plans)) (slots machine h.rule.resource.0 plans) (slot_of h)
      (sound_plans machine (is_machine machine) (ticks_of plans) h.rule.resource.0 plans (LastsBy-plans machine plans order timed)) (in-slots h in'))

  pub held-before : AreClear machine hs → AllPairs (IsBefore machine (ticks_of plans)) hs
  held-before clear = all-before machine (ticks_of plans) hs held-at held-sound ahead clear

  -- so they lie apart on each resource
  pub clear-apart : AreClear machine hs → AreHoldsApart machine plans
  clear-apart clear resource =
      let t = ticks_of plans in
      let held = held_plans machine 0 plans in
      let pairs : AllPairs (IsEither machine t) held = pairs-permuted (IsEither machine t) (either-back machine t) hs held (IsPermutation-sym held hs same) (λ i j d before within one. inl (held-before clear i j d before within one)) in
      subst (AllPairs (AreApart (gap_at machine resource) t)) (row-plans machine resource 0 plans formed)
      (AllPairs-map (IsEither machine t) (AreApart (gap_at machine resource) t) (λ h. is_on resource h ≡ true) slot_of (filter (is_on resource) held)
      (All-from_contains (λ h. is_on resource h ≡ true) (filter (is_on resource) held) (λ h in'. (Contains-filter_from (is_on resource) held h in').1))
      (AllPairs-filter (IsEither machine t) (is_on resource) held pairs)
      (λ x y on-x on-y either.
      let a = eqb-true x.rule.resource.0 resource on-x in
      let b = eqb-true y.rule.resource.0 resource on-y in
      subst (λ r. AreApart (gap_at machine r) t (slot_of x) (slot_of y)) a (either (a ∙ sym b))))

  held-two : AllPairs AreTwo hs
  held-two = pairs-permuted AreTwo (λ x y two one hold. two (sym one) (sym hold)) (held_plans machine 0 plans) hs same (two-plans machine 0 plans order)

  -- neighbours that overlap
  pub overlap-of : (x y : NumberedHold) → AreNeighbours hs x y → overlaps machine x y ≡ true
      → DoOverlap machine plans x.hold y.hold (free_at machine x y) y.begin
  overlap-of x y near e =
      let says = overlap-says machine x y e in
      let in-x = contains-get hs near.place x near.one in
      let in-y = contains-get hs (suc near.place) y near.other in
      let at-x = All-contains (IsHeldAt (ticks_of plans)) hs x held-at in-x in
      let at-y = All-contains (IsHeldAt (ticks_of plans)) hs y held-at in-y in
      record {
        resource = x.rule.resource.0;
        one = slot_of x;
        other = slot_of y;
        one_held = in-slots x in-x;
        other_held = subst (λ r. Contains (slots machine r plans) (slot_of y)) (sym says.0) (in-slots y in-y);
        differ = λ hold. pair-at AreTwo hs near.place x y held-two near.one near.other says.0 hold;
        earlier_is = refl;
        later_is = refl;
        free_is = λ i. sym at-x.1 i +ℤ pos (gap_between (gap_at machine x.rule.resource.0) x.rule y.rule);
        begin_is = sym at-y.0;
        first = begins x y at-x at-y says.0 (pair-at IsAhead hs near.place x y ahead near.one near.other);
        clash = says.1;
      } where
        begins : (x y : NumberedHold) → IsHeldAt (ticks_of plans) x → IsHeldAt (ticks_of plans) y → x.rule.resource.0 ≡ y.rule.resource.0 → IsAhead x y → begin_at (ticks_of plans) (slot_of x) ≤ℤ begin_at (ticks_of plans) (slot_of y)
        begins x y at-x at-y one (inl less) = absurd (omega arith)
        begins x y at-x at-y one (inr le) = let a = at-x.0 in let b = at-y.0 in rw (← a, ← b) le.1

-- holds that overlap are no legal schedule
pub overlap-illegal : (machine : Machine) (plans : List Plan) (earlier later : Hold) (free begin : ℤ) → DoOverlap machine plans earlier later free begin → IsLegal machine plans → ⊥
overlap-illegal machine plans earlier later free begin o legal =
    let t = ticks_of plans in
    let there = slots machine o.resource plans in
    let order = slot_order machine plans o.resource in
    let same = IsPermutation-by_begin t there in
    let sound = sound_plans machine (is_machine machine) t o.resource plans (LastsBy-plans machine plans legal.in_order legal.timed) in
    let other-sound : IsSoundSlot t o.other = All-contains (IsSoundSlot t) there o.other sound o.other_held in
    elim (AllPairs-either (IsApart (gap_at machine o.resource) t) order o.one o.other (legal_apart machine plans (is_machine machine) legal o.resource)
    (Contains-permutation there order o.one same o.one_held) (Contains-permutation there order o.other same o.other_held)
    (λ one. o.differ (sym o.earlier_is ∙ ap hold_in one ∙ o.later_is))) [
      | inl a ↦ before a
      | inr a ↦ behind other-sound a
    ] where
      before : IsApart (gap_at machine o.resource) (ticks_of plans) o.one o.other → ⊥
      before a =
          let b = o.begin_is in
          let c = o.clash in
          let a' : free ≤ℤ begin = subst (λ z. z ≤ℤ begin) o.free_is (subst (λ z. (end_at (ticks_of plans) o.one +ℤ pos (gap_between (gap_at machine o.resource) o.one.rule o.other.rule)) ≤ℤ z) b a) in
          omega (arith, ints)

      behind : IsSoundSlot (ticks_of plans) o.other → IsApart (gap_at machine o.resource) (ticks_of plans) o.other o.one → ⊥
      behind sound a = let first = o.first in let long = sound.long in omega (arith, ints)

-- one pair of neighbours more that does not overlap
pub clear-more : (machine : Machine) (holds : List NumberedHold) (at : ℕ) (d e : NumberedHold) → 1 ≤ at → ((k : ℕ) (x y : NumberedHold) → suc k < at → slice_get holds k ≡ Some x → slice_get holds (suc k) ≡ Some y → overlaps machine x y ≡ false)
    → overlaps machine (get_or holds (at - 1) d) (get_or holds at e) ≡ false
    → (k : ℕ) (x y : NumberedHold) → suc k < at + 1 → slice_get holds k ≡ Some x → slice_get holds (suc k) ≡ Some y → overlaps machine x y ≡ false
clear-more machine holds at d e some was now k x y less one other = elim (cases_lt (suc k) at) [
  | inl before ↦ was k x y before one other
  | inr more ↦ (
      let here : suc k ≡ at = omega arith in
      let k-is : k ≡ at - 1 = omega arith in
      let a : get_or holds (at - 1) d ≡ x = ap (λ n. get_or holds n d) (sym k-is) ∙ get-is holds k x d one in
      let b : get_or holds at e ≡ y = ap (λ n. get_or holds n e) (sym here) ∙ get-is holds (suc k) y e other in
      subst (λ u. overlaps machine u y ≡ false) a (subst (λ v. overlaps machine (get_or holds (at - 1) d) v ≡ false) b now))
]
