-- Marks that go on from the least ticks along steps without room: all points are marked exactly where a schedule is least.
use Rattle.std.proofs.Common.{◌≡◌, inl, inr, ℕ, zero, suc, ◌+◌, ◌<◌, ◌≤◌, Bool, true, false, List, [], ◌∷◌, ◌++◌, length, filter, get_or, slice_get, refl, sym, ap, subst, ◌∙◌, arith, eqb-true, All, AllPairs, Contains, Option, Some, None}
use Rattle.std.specs.Prelude.{IsPermutation, unwrap_or, ◌<ℤ◌, ◌↔◌, IfSome, IsNone, MatchOption}
use Rattle.std.proofs.lemmas.Bool.Decides.{nat_tests}
use Rattle.std.proofs.lemmas.Int.{ints}
use Rattle.std.proofs.lemmas.List.Elements.{All-contains, All-contains_itself, All-head, All-tail, Contains-get_or}
use Rattle.std.proofs.lemmas.List.Kept.{AllPairs-filter}
use Rattle.std.proofs.lemmas.List.Sorted.{All-permutation, Contains-permutation, IsPermutation-sym}
use Rattle.tp_machine.specs.Modes.{gap_at}
use Rattle.tp_machine.specs.declared.machine.Machine.{Machine}
use Rattle.tp_machine.proofs.MachineFacts.{is_machine}
use Rattle.tp_schedule.specs.Answers.{IsLeast, KeepsHorizon}
use Rattle.tp_schedule.specs.Legality.{IsLegal}
use Rattle.tp_schedule.specs.Plans.{IsFormed, point}
use Rattle.tp_schedule.specs.Spots.{IsApart, IsSoundSlot, Slot, Spot, begin_at, slot_order, slots, Ticks, ticks_of}
use Rattle.tp_schedule.specs.Spots.Spot.{kept, own}
use Rattle.tp_schedule.specs.declared.parts.Plan.{Plan}
use Rattle.tp_schedule.specs.declared.parts.SheetId.{SheetId}
use Rattle.tp_schedule.proofs.CopyFacts.{plan_of-itself}
use Rattle.tp_schedule.proofs.LegalOrders.{IsTimedBy-plans, LastsBy-plans, legal_apart, sound_plans}
use Rattle.tp_schedule.proofs.Membership.{All-from_contains, Contains-filter, Contains-filter_from, Contains-map, Contains-map_from}
use Rattle.tp_schedule.proofs.Pairs.{AllPairs-each, AllPairs-map}
use Rattle.tp_schedule.proofs.SlotOrder.{IsPermutation-by_begin, rising_unique}
use Rattle.tp_constraints.specs.Gaps.{Gap, IsPoint, all_chains, duration_gaps, line_gaps, low_of}
use Rattle.tp_constraints.specs.Laws.{IsLoadable, plans_gaps}
use Rattle.tp_constraints.specs.Numbers.{number, table_of}
use Rattle.tp_constraints.specs.Supports.{IsMarking, IsSupportedIn, lows_of}
use Rattle.tp_constraints.specs.Supports.IsSupported.{at_low, by_gap}
use Rattle.tp_constraints.proofs.HeldSlots.{IsOn, order-on}
use Rattle.tp_constraints.proofs.Lists.{contains-get}
use Rattle.tp_constraints.proofs.PointNumbers.{number-at}
use Rattle.tp_constraints.proofs.PointTable.{table_law}
use Rattle.tp_constraints.proofs.SupportedPoints.{itself, retimed-keeps, supported-least, unmarked-later}
use Rattle.tp_choices.specs.Retimings.{IgnoresPoints}
use Rattle.tp_schedule_check.specs.Early.{AreMarked, AreTightSteps, IsEarly, IsTightStep, IsUnmarkedAt, IsUnmarkedIn, chain_steps, is_exempt, is_low, low_marks, pair_steps, plans_steps}
use Rattle.tp_schedule_check.specs.Holds.{AreClear, IsAhead, free_at, held_plans, overlaps, slot_of}
use Rattle.tp_schedule_check.specs.Lines.{line_pairs}
use Rattle.tp_schedule_check.specs.Marks.{IsMarked, IsReached, IsSpread, IsStepWithin}
use Rattle.tp_schedule_check.specs.Marks.IsReached.{at_first, by_step}
use Rattle.tp_schedule_check.specs.declared.early.Early.{Early}
use Rattle.tp_schedule_check.specs.declared.held.NumberedHold.{NumberedHold}
use Rattle.tp_schedule_check.specs.declared.marks.MarkStep.{MarkStep}
use Rattle.tp_schedule_check.proofs.ChainFacts.{chains-are}
use Rattle.tp_schedule_check.proofs.ClearFacts.{IsBefore, held-at, held-before, held-sound, in-slots, overlap-illegal, overlap-of}
use Rattle.tp_schedule_check.proofs.HeldFacts.{is_on, row, row-plans}
use Rattle.tp_schedule_check.proofs.LineFacts.{AllFrom, has-end}
use Rattle.tp_schedule_check.proofs.ListFacts.{get-within}
use Rattle.tp_schedule_check.proofs.NumberFacts.{MarksAt, from-both, from-contains, marks-count, marks-stand, number-get, numbered-plans, table-count, table-stands}
use Rattle.tp_schedule_check.proofs.StepFacts.{IsNumbered, StandsAt, both, durations-are, lines-are}
use Rattle.tp_schedule_check.proofs.TimedFacts.{timed-formed}
use Rattle.std.proofs.Common.{flat_map}
use Rattle.std.proofs.lemmas.List.Elements.{All-weaker}
use Rattle.tp_schedule.specs.Plans.{IsTimedPlan}

-- ---- the orders of a legal schedule are its sorted holds
module _ (machine : Machine) (plans : List Plan) (legal : IsLegal machine plans) (hs : List NumberedHold) (same : IsPermutation (held_plans machine 0 plans) hs) (ahead : AllPairs IsAhead hs) where
  legal-clear : AreClear machine hs
  legal-clear k x y one other = go (overlaps machine x y) refl where
    go : (b : Bool) → overlaps machine x y ≡ b → b ≡ false
    go false e = refl
    go true e =
        absurd (overlap-illegal machine plans x.hold y.hold (free_at machine x y) y.begin
        (overlap-of machine plans legal.in_order legal.timed hs same ahead x y (record { place = k; one = one; other = other }) e) legal)

  formed : All IsFormed plans
  formed = All-weaker (IsTimedPlan machine) IsFormed (timed-formed machine) plans legal.timed

  abbrev BeginsFirst : Slot → Slot → Type 0
  BeginsFirst x y = begin_at (ticks_of plans) x <ℤ begin_at (ticks_of plans) y

  apart-first : (g : ℕ) (x y : Slot) → IsSoundSlot (ticks_of plans) x → IsApart g (ticks_of plans) x y → BeginsFirst x y
  apart-first g x y sound apart = let long = sound.long in omega (arith, ints)

  module _ (r : ℕ) where
    held : List NumberedHold
    held = held_plans machine 0 plans

    slot-sound : (s : Slot) → Contains (slots machine r plans) s → IsSoundSlot (ticks_of plans) s
    slot-sound s in' = All-contains (IsSoundSlot (ticks_of plans)) (slots machine r plans) s (sound_plans machine (is_machine machine) (ticks_of plans) r plans (LastsBy-plans machine plans legal.in_order legal.timed)) in'

    in-order : (s : Slot) → Contains (slot_order machine plans r) s → Contains (slots machine r plans) s
    in-order s in' = Contains-permutation (slot_order machine plans r) (slots machine r plans) s (IsPermutation-sym (slots machine r plans) (slot_order machine plans r) (IsPermutation-by_begin (ticks_of plans) (slots machine r plans))) in'

    row-in : (s : Slot) → Contains (row r hs) s → (h : NumberedHold) × Contains (filter (is_on r) hs) h × (s ≡ slot_of h)
    row-in s in' = Contains-map_from slot_of (filter (is_on r) hs) s in'

    rise-order : AllPairs BeginsFirst (slot_order machine plans r)
    rise-order = AllPairs-each (IsApart (gap_at machine r) (ticks_of plans)) BeginsFirst (slot_order machine plans r) (legal_apart machine plans (is_machine machine) legal r)
        (λ x y in-x in-y apart. apart-first (gap_at machine r) x y (slot-sound x (in-order x in-x)) apart)

    rise-row : AllPairs BeginsFirst (row r hs)
    rise-row = AllPairs-map (IsBefore machine (ticks_of plans)) BeginsFirst (λ h. (is_on r h ≡ true) × IsSoundSlot (ticks_of plans) (slot_of h)) slot_of (filter (is_on r) hs)
        (All-from_contains (λ h. (is_on r h ≡ true) × IsSoundSlot (ticks_of plans) (slot_of h)) (filter (is_on r) hs) (λ h in'.
        let f = Contains-filter_from (is_on r) hs h in' in
        (f.1, All-contains (λ h. IsSoundSlot (ticks_of plans) (slot_of h)) hs h (held-sound machine plans legal.in_order legal.timed hs same ahead) f.0)))
        (AllPairs-filter (IsBefore machine (ticks_of plans)) (is_on r) hs (held-before machine plans legal.in_order legal.timed hs same ahead legal-clear))
        (λ x y on-x on-y before.
        let a = eqb-true x.rule.resource.0 r on-x.0 in
        let b = eqb-true y.rule.resource.0 r on-y.0 in
        apart-first (gap_at machine x.rule.resource.0) (slot_of x) (slot_of y) on-x.1 (before (a ∙ sym b)))

    there : (s : Slot) → Contains (slot_order machine plans r) s → Contains (row r hs) s
    there s in' =
        let among : Contains (row r (held_plans machine 0 plans)) s = subst (λ xs. Contains xs s) (sym (row-plans machine r 0 plans formed)) (in-order s in') in
        let h = Contains-map_from slot_of (filter (is_on r) (held_plans machine 0 plans)) s among in
        let f = Contains-filter_from (is_on r) (held_plans machine 0 plans) h.0 h.1 in
        subst (Contains (row r hs)) (sym h.2) (Contains-map slot_of (filter (is_on r) hs) h.0 (Contains-filter (is_on r) hs h.0 (Contains-permutation (held_plans machine 0 plans) hs h.0 same f.0) f.1))

    back : (s : Slot) → Contains (row r hs) s → Contains (slot_order machine plans r) s
    back s in' =
        let h = row-in s in' in
        let f = Contains-filter_from (is_on r) hs h.0 h.1 in
        let on : h.0.rule.resource.0 ≡ r = eqb-true h.0.rule.resource.0 r f.1 in
        let slot : Contains (slots machine r plans) (slot_of h.0) = subst (λ n. Contains (slots machine n plans) (slot_of h.0)) on (in-slots machine plans legal.in_order legal.timed hs same ahead h.0 f.0) in
        subst (Contains (slot_order machine plans r)) (sym h.2) (Contains-permutation (slots machine r plans) (slot_order machine plans r) (slot_of h.0) (IsPermutation-by_begin (ticks_of plans) (slots machine r plans)) slot)

    pub row-order : slot_order machine plans r ≡ row r hs
    row-order = rising_unique BeginsFirst (λ x y a b. omega (arith, ints)) (slot_order machine plans r) (row r hs) rise-order rise-row there back

  -- so the steps that are gathered are those of all gaps without room
  pub gathered-tight : AreTightSteps (table_of plans) (ticks_of plans) (plans_gaps machine plans) (plans_steps machine 0 plans ++ (flat_map pair_steps (line_pairs 0 plans) ++ chain_steps machine hs))
  gathered-tight =
      let table = table_of plans in
      let t = ticks_of plans in
      let chains = all_chains machine (slot_order machine plans) (length machine.resources) in
      both table t (duration_gaps machine plans) (line_gaps plans ++ chains) (plans_steps machine 0 plans) (flat_map pair_steps (line_pairs 0 plans) ++ chain_steps machine hs)
      (durations-are table t machine 0 plans (IsTimedBy-plans machine plans legal.in_order legal.timed) (table-stands plans))
      (both table t (line_gaps plans) chains (flat_map pair_steps (line_pairs 0 plans)) (chain_steps machine hs)
      (lines-are table t 0 plans (λ k d within. has-end plans legal.in_order (get_or plans k d) (Contains-get_or plans k d within)) (table-stands plans))
      (chains-are table t machine (slot_order machine plans) (length machine.resources) hs row-order
      (λ r s in'. All-contains (IsOn machine r) (slot_order machine plans r) s (order-on machine r plans) in')
      (held-at machine plans legal.in_order legal.timed hs same ahead)
      (All-permutation (IsNumbered table) (held_plans machine 0 plans) hs same (numbered-plans table machine 0 plans (table-stands plans)))
      ahead))

-- ---- marks
-- which plans are exempt does not hang on points
pub exempt-ignores : (exempt : Option SheetId) → IgnoresPoints (is_exempt exempt)
exempt-ignores None p points = refl
exempt-ignores (Some copy) p points = refl

-- an early point is not at its least tick
pub early-not_least : (machine : Machine) (now : ℕ) (exempt : Plan → Bool) (plans : List Plan) (early : Early) → IsEarly machine now exempt plans early → IsLeast machine now exempt plans → ⊥
early-not_least machine now exempt plans early is least =
    let le = least is.others is.retimed is.plan is.planned early.at is.at in
    let there : ticks_of is.others (kept is.plan.sheet early.at) ≡ early.earlier = subst (λ c. ticks_of is.others (kept c early.at) ≡ early.earlier) (sym is.of) is.there in
    let given = is.given in
    let less = is.less in
    omega arith

marked-from_all : (marks : List Bool) (n : ℕ) (plans : List Plan) → AreMarked marks n plans → AllFrom (λ p m. (i : ℕ) → i ≤ length p.acts → IsMarked marks (m + i)) n plans
marked-from_all marks n [] all = tt
marked-from_all marks n (p ∷ plans) all = (all.0, marked-from_all marks (n + (length p.acts + 1)) plans all.1)

unmarked-in : (whole : List Plan) (table : List Spot) (marks : List Bool) (early : Early) (n : ℕ) (plans : List Plan) → All (Contains whole) plans → AllFrom (StandsAt table) n plans → IsUnmarkedAt marks n plans early
    → (p : Plan) × Contains whole p × (m : ℕ) × StandsAt table p m × IsUnmarkedIn marks m p early
unmarked-in whole table marks early n [] among stands bare = absurd bare
unmarked-in whole table marks early n (p ∷ plans) among stands (inl here) = (p, All-head (Contains whole) p plans among, n, stands.0, here)
unmarked-in whole table marks early n (p ∷ plans) among stands (inr later) = unmarked-in whole table marks early (n + (length p.acts + 1)) plans (All-tail (Contains whole) p plans among) stands.1 later

module _ (machine : Machine) (now : ℕ) (exempt : Plan → Bool) (plans : List Plan) (load : IsLoadable machine now exempt plans) (only : IgnoresPoints exempt) (horizon : KeepsHorizon machine now plans)
    (steps : List MarkStep) (tight : AreTightSteps (table_of plans) (ticks_of plans) (plans_gaps machine plans) steps)
    (after : List Bool) (spread : IsSpread steps (low_marks (now + machine.lead) exempt plans) after) where
  count : length after ≡ length (table_of plans)
  count = spread.count ∙ marks-count (now + machine.lead) exempt plans ∙ sym (table-count plans)

  number-is : (k : ℕ) (s : Spot) → slice_get (table_of plans) k ≡ Some s → number (table_of plans) s ≡ k
  number-is k s e = number-at (table_of plans) (table_law plans load.legal.in_order).differ k s e

  -- the number of a point of a plan, and its first mark
  place : (p : Plan) → Contains plans p → (i : ℕ) → i ≤ length p.acts
      → (k : ℕ) × (slice_get (table_of plans) k ≡ Some (kept p.sheet i)) × (slice_get (low_marks (now + machine.lead) exempt plans) k ≡ Some (is_low (now + machine.lead) exempt p i))
  place p in' i le =
      let marks = low_marks (now + machine.lead) exempt plans in
      let m = from-contains (λ q n. StandsAt (table_of plans) q n × MarksAt (now + machine.lead) exempt marks q n) 0 plans p
      (from-both (StandsAt (table_of plans)) (MarksAt (now + machine.lead) exempt marks) 0 plans (table-stands plans) (marks-stand (now + machine.lead) exempt plans)) in' in
      (m.0 + i, m.1.0 i (m.0 + i) refl le, m.1.1 i (m.0 + i) refl le)

  low-is : (p : Plan) → Contains plans p → (i : ℕ) → is_low (now + machine.lead) exempt p i ≡ true → ticks_of plans (kept p.sheet i) ≡ lows_of machine now exempt plans (kept p.sheet i)
  low-is p in' i e = rw (plan_of-itself plans p load.legal.in_order in') (eqb-true (point p i) (low_of (now + machine.lead) exempt p i) e)

  low-back : (p : Plan) → Contains plans p → (i : ℕ) → ticks_of plans (kept p.sheet i) ≡ lows_of machine now exempt plans (kept p.sheet i) → is_low (now + machine.lead) exempt p i ≡ true
  low-back p in' i e =
      let same : point p i ≡ low_of (now + machine.lead) exempt p i = rw (plan_of-itself plans p load.legal.in_order in') at e in
      grind (arith, nat_tests)

  -- points of no number are marked
  abbrev marked : Spot → Bool
  marked s = unwrap_or (slice_get after (number (table_of plans) s)) true

  marked-from : (k : ℕ) (s : Spot) → slice_get (table_of plans) k ≡ Some s → IsMarked after k → marked s ≡ true
  marked-from k s e m = ap (λ n. unwrap_or (slice_get after n) true) (number-is k s e) ∙ ap (λ o. unwrap_or o true) m

  marked-to : (k : ℕ) (s : Spot) → slice_get (table_of plans) k ≡ Some s → marked s ≡ true → IsMarked after k
  marked-to k s e m = go (slice_get after k) refl (ap (λ n. unwrap_or (slice_get after n) true) (sym (number-is k s e)) ∙ m) where
    there : (xs : List Bool) (n : ℕ) → n < length xs → slice_get xs n ≡ None → ⊥
    there [] n less f = omega arith
    there (x ∷ xs) zero less f = cc
    there (x ∷ xs) (suc n) less f = there xs n (omega arith) f

    go : (o : Option Bool) → slice_get after k ≡ o → unwrap_or o true ≡ true → slice_get after k ≡ Some true
    go None f g = absurd (there after k (let c = count in let w = get-within (table_of plans) k s e in omega arith) f)
    go (Some b) f g = f ∙ ap Some g

  low-marked : (s : Spot) → IsPoint plans 0 s → ticks_of plans s ≡ lows_of machine now exempt plans s → marked s ≡ true
  low-marked (kept c i) (p, in', is, le) e =
      let at = place p in' i le in
      let low = low-back p in' i (subst (λ d. ticks_of plans (kept d i) ≡ lows_of machine now exempt plans (kept d i)) (sym is) e) in
      subst (λ d. marked (kept d i) ≡ true) is (marked-from at.0 (kept p.sheet i) at.1 (spread.first at.0 (at.2 ∙ ap Some low)))
  low-marked (own n) h e = absurd (omega (arith, h))

  zero-marked : (s : Spot) → ticks_of plans s ≡ 0 → marked s ≡ true
  zero-marked s e = go (slice_get after (number (table_of plans) s)) refl where
    known : number (table_of plans) s < length (table_of plans) → IsPoint plans 0 s
    known less = All-contains (IsPoint plans 0) (table_of plans) s (table_law plans load.legal.in_order).only (contains-get (table_of plans) (number (table_of plans) s) s (number-get (table_of plans) s less))

    go : (o : Option Bool) → slice_get after (number (table_of plans) s) ≡ o → unwrap_or o true ≡ true
    go None f = refl
    go (Some b) f =
        let point = known (let c = count in let w = get-within after (number (table_of plans) s) b f in omega arith) in
        let low = ((retimed-keeps machine now exempt plans load only plans (itself machine now exempt plans load only horizon)).0 s point).0 in
        let is : ticks_of plans s ≡ lows_of machine now exempt plans s = omega arith in
        ap (λ o. unwrap_or o true) (sym f) ∙ low-marked s point is

  marking : IsMarking machine now exempt plans marked
  marking = record {
    at_zero = zero-marked;
    lows = low-marked;
    goes_on = λ g in' leaves m. let r = tight.all g in' leaves in marked-from r.0.to g.to r.2.1 (spread.on r.0 r.1 (marked-to r.0.from g.from r.2.0 m));
  }

  -- a point that is not marked could stand earlier
  pub early-is : (early : Early) → IsUnmarkedAt after 0 plans early → IsEarly machine now exempt plans early
  early-is early bare =
      let u = unmarked-in plans (table_of plans) after early 0 plans (All-contains_itself plans) (table-stands plans) bare in
      let is : IsUnmarkedIn after u.2 u.0 early = u.4 in
      let k = u.2 + early.at in
      let off : marked (kept u.0.sheet early.at) ≡ false = ap (λ n. unwrap_or (slice_get after n) true) (number-is k (kept u.0.sheet early.at) (u.3 early.at k refl is.at)) ∙ ap (λ o. unwrap_or o true) is.bare in
      let later = unmarked-later machine now exempt plans load only horizon marked marking u.0 u.1 early.at is.at off in
      let one = later.2 in
      let given = is.given in
      let earlier = is.earlier in
      record {
        plan = u.0;
        planned = u.1;
        of = sym is.sheet;
        at = is.at;
        given = sym is.given;
        less = omega arith;
        others = later.0;
        retimed = later.1;
        there = subst (λ c. ticks_of later.0 (kept c early.at) ≡ early.earlier) (sym is.sheet) (omega arith);
      }

  -- what is reached is supported
  reached-supported : (n : ℕ) → IsReached (low_marks (now + machine.lead) exempt plans) steps n → (s : Spot) → slice_get (table_of plans) n ≡ Some s → IsSupportedIn machine now exempt plans s
  reached-supported _ (at_first n m) s e = go s e (All-contains (IsPoint plans 0) (table_of plans) s (table_law plans load.legal.in_order).only (contains-get (table_of plans) n s e)) where
    go : (s : Spot) → slice_get (table_of plans) n ≡ Some s → IsPoint plans 0 s → IsSupportedIn machine now exempt plans s
    go (kept c i) f (p, in', is, le) =
        let at = place p in' i le in
        let f' : slice_get (table_of plans) n ≡ Some (kept p.sheet i) = subst (λ d. slice_get (table_of plans) n ≡ Some (kept d i)) (sym is) f in
        let same : n ≡ at.0 = sym (number-is n (kept p.sheet i) f') ∙ number-is at.0 (kept p.sheet i) at.1 in
        let low : Some (is_low (now + machine.lead) exempt p i) ≡ Some true = sym at.2 ∙ ap (slice_get (low_marks (now + machine.lead) exempt plans)) (sym same) ∙ m in
        let low' : is_low (now + machine.lead) exempt p i ≡ true = cc in
        subst (λ d. IsSupportedIn machine now exempt plans (kept d i)) is (at_low (kept p.sheet i) (p, in', refl, le) (low-is p in' i low'))
    go (own k) f h = absurd (omega (arith, h))
  reached-supported _ (by_step st in' r) s e =
      let is = All-contains (IsTightStep (table_of plans) (ticks_of plans) (plans_gaps machine plans)) steps st tight.sound in' in
      let there : Some is.by.to ≡ Some s = sym is.of.1 ∙ e in
      let same : is.by.to ≡ s = cc in
      subst (IsSupportedIn machine now exempt plans) same (by_gap is.by is.among is.tight (reached-supported st.from r is.by.from is.of.0))

  pub marked-least : AreMarked after 0 plans → IsLeast machine now exempt plans
  marked-least all = supported-least machine now exempt plans load only each where
    each : (s : Spot) → IsPoint plans 0 s → IsSupportedIn machine now exempt plans s
    each (kept c i) (p, in', is, le) =
        let m = from-contains (λ q n. StandsAt (table_of plans) q n × ((j : ℕ) → j ≤ length q.acts → IsMarked after (n + j))) 0 plans p
        (from-both (StandsAt (table_of plans)) (λ q n. (j : ℕ) → j ≤ length q.acts → IsMarked after (n + j)) 0 plans (table-stands plans) (marked-from_all after 0 plans all)) in' in
        subst (λ d. IsSupportedIn machine now exempt plans (kept d i)) is
        (reached-supported (m.0 + i) (spread.only (m.0 + i) (m.1.1 i le)) (kept p.sheet i) (m.1.0 i (m.0 + i) refl le))
    each (own n) h = absurd (omega (arith, h))

  -- what is found says whether the schedule is least
  pub found-least : (found : Option Early) → MatchOption found (AreMarked after 0 plans) (IsUnmarkedAt after 0 plans) → IsNone found ↔ IsLeast machine now exempt plans
  found-least None all = (λ _. marked-least all, λ _. refl)
  found-least (Some early) bare = (λ e. absurd cc, λ least. absurd (early-not_least machine now exempt plans early (early-is early bare) least))

  pub found-early : (found : Option Early) → MatchOption found (AreMarked after 0 plans) (IsUnmarkedAt after 0 plans) → IfSome found (IsEarly machine now exempt plans)
  found-early None all = tt
  found-early (Some early) bare = early-is early bare

-- the steps lie between points of the table
pub steps-within : (table : List Spot) (t : Ticks) (gaps : List Gap) (steps : List MarkStep) (n : ℕ) → length table ≡ n → AreTightSteps table t gaps steps → All (IsStepWithin n) steps
steps-within table t gaps steps n same tight =
    All-weaker (IsTightStep table t gaps) (IsStepWithin n) (λ s is.
    let a = get-within table s.from is.by.from is.of.0 in
    let b = get-within table s.to is.by.to is.of.1 in
    (omega arith, omega arith)) steps tight.sound
