-- What is known of a loaded board and a plan more before the plan is added.
use Rattle.std.proofs.Common.{◌≡◌, ◌∙◌, ℕ, suc, ◌+◌, ◌<◌, ◌≤◌, false, List, [], ◌∷◌, ◌++◌, All, ap, arith, drop, flat_map, length, map, refl, subst, sym}
use Rattle.std.proofs.lemmas.List.{append-nil, drop-append-le, drop_all, length-append, length-map}
use Rattle.std.proofs.lemmas.List.Concat.{flat_map-append}
use Rattle.std.proofs.lemmas.List.Elements.{All-append, All-contains, All-cons, All-nil, All-weaker, Contains-append_left, Contains-push}
use Rattle.std.proofs.lemmas.Option.{slice_get_within}
use Rattle.tp_base.specs.Net.{Net}
use Rattle.tp_base.specs.declared.edges.PointId.{PointId}
use Rattle.tp_machine.proofs.MachineFacts.{is_machine}
use Rattle.tp_machine.specs.declared.machine.Machine.{Machine}
use Rattle.tp_schedule.proofs.Membership.{All-from_contains}
use Rattle.tp_schedule.specs.Spots.{Slot, Spot, slot_order}
use Rattle.tp_schedule.specs.declared.parts.Plan.{Plan}
use Rattle.tp_constraints.specs.Gaps.{cap_at, low_at}
use Rattle.tp_constraints.specs.Laws.{IsLoadable, no_own}
use Rattle.tp_constraints.specs.Numbers.{points_from, table_of}
use Rattle.tp_constraints.specs.AddedPlan.{with_plan}
use Rattle.tp_constraints.proofs.PlanNets.{table-more}
use Rattle.tp_timelines.specs.Orders.{order_on}
use Rattle.tp_placing.specs.Loaded.{CanLoad, IsLoaded}
use Rattle.tp_placing.specs.LoadedNet.{AreIds, HasBounds, HasPoints, caps_of, firsts_from, lows_of, point_count, point_id, with_bounds}
use Rattle.tp_placing.specs.LoadedHolds.{IsHeldWithin, IsRuleOf, held_from, ticks_in}
use Rattle.tp_placing.specs.LoadedBoard.{AreFirsts, AreSlots, HasSmallOffsets}
use Rattle.tp_placing.specs.declared.causes.EdgeCause.{EdgeCause}
use Rattle.tp_placing.specs.declared.parts.Held.{Held}
use Rattle.tp_placing.proofs.LiveFacts.{points-few}
use Rattle.tp_placing.proofs.LoadHolds.{from-ruled, from-within}
use Rattle.tp_placing.proofs.LoadPoints.{count-append, firsts-right}
use Rattle.tp_placing.proofs.LoadTable.{length-table-of}
use Rattle.tp_placing.proofs.LoadedTicks.{bounded, caps-map, few-acts, lows-map, ticks-count, timed}
use Rattle.tp_placing.proofs.SlotFacts.{slots-grown}

-- the first points are those that loading makes
firsts-are : (n : ℕ) (plans : List Plan) (firsts : List PointId) → AreFirsts n plans firsts → firsts ≡ firsts_from n plans
firsts-are n [] [] are = refl
firsts-are n [] (f ∷ firsts) are = absurd are
firsts-are n (p ∷ plans) [] are = absurd are
firsts-are n (p ∷ plans) (f ∷ firsts) are =
    let e : n + suc (length p.acts) ≡ n + length p.acts + 1 = omega arith in
    let rest = firsts-are (n + suc (length p.acts)) plans firsts are.1 ∙ ap (λ k. firsts_from k plans) e in
    let one = are.0 in
    λ i. record { 0 = one i } ∷ rest i

firsts-push : (n : ℕ) (plans : List Plan) (p : Plan) → firsts_from n (with_plan plans p) ≡ firsts_from n plans ++ point_id (n + point_count plans) ∷ []
firsts-push n [] p = let e : n ≡ n + 0 = omega arith in ap (λ k. point_id k ∷ []) e
firsts-push n (q ∷ plans) p =
    let e : n + length q.acts + 1 + point_count plans ≡ n + (length q.acts + 1 + point_count plans) = omega arith in
    ap (λ fs. point_id n ∷ fs) (firsts-push (n + length q.acts + 1) plans p ∙ ap (λ k. firsts_from (n + length q.acts + 1) plans ++ point_id k ∷ []) e)

-- the numbers of slots are those of holds within the table
slot-ids : (table : List Spot) (held : List Held) (ids : List ℕ) (slots : List Slot) → AreSlots table held ids slots → AreIds held ids
slot-ids table held [] slots are = All-nil (λ id. id < length held)
slot-ids table held (id ∷ ids) [] are = absurd are
slot-ids table held (id ∷ ids) (s ∷ slots) are = All-cons (λ i. i < length held) id ids (slice_get_within held id are.0.hold are.0.at) (slot-ids table held ids slots are.1)

module _ (machine : Machine) (now : ℕ) (plans : List Plan) (p : Plan) (can : CanLoad machine now (with_plan plans p)) (before : IsLoadable machine now (λ _. false) plans)
    (n : Net) (timelines : List (List ℕ)) (held : List Held) (firsts : List PointId) (causes : List EdgeCause) (old : IsLoaded machine now plans n timelines held firsts causes) (last : PointId) (at-last : last.0 ≡ point_count plans) where
  abbrev all : List Plan
  all = with_plan plans p

  abbrev new : List Held
  new = held_from machine last.0 p.acts

  pub first-is : last.0 ≡ length (table_of plans)
  first-is = at-last ∙ sym (length-table-of plans)

  pub can-before : CanLoad machine now plans
  can-before = record {
    now_at_most = can.now_at_most;
    loadable = before;
    horizon = λ q inside. can.horizon q (Contains-append_left plans (p ∷ []) q inside);
    few = let few = can.few in let l = length-append plans (p ∷ []) in omega arith;
  }

  pub few-own : length p.acts ≤ 64
  few-own = All-contains (λ (q : Plan). length q.acts ≤ 64) all p (few-acts machine now all can) (Contains-push plans p)

  pub few-before : length plans ≤ 255
  few-before = let few = can.few in let l = length-append plans (p ∷ []) in omega arith

  pub count-all : point_count all ≡ last.0 + length p.acts + 1
  count-all = let c = count-append plans (p ∷ []) in let l = at-last in omega arith

  pub few-points : last.0 + length p.acts + 1 ≤ 16640
  few-points = let few = points-few all (few-acts machine now all can) in let c = count-all in let l = can.few in omega arith

  pub bounds : HasBounds (now + machine.lead) (now + machine.window) p
  bounds = All-contains (HasBounds (now + machine.lead) (now + machine.window)) all p (bounded machine now all can) (Contains-push plans p)

  pub points-before : length n.lows ≡ last.0
  points-before = ap length old.net.lows ∙ length-map (table_of plans) (low_at (now + machine.lead) (λ _. false) plans no_own) ∙ sym first-is

  pub formed : All HasPoints all
  formed = All-from_contains HasPoints all (λ q inside. (timed machine now all can q inside).one_more)

  pub ticks-all : length (ticks_in all) ≡ length (table_of all)
  ticks-all = ticks-count machine now all can ∙ sym (length-table-of all)

  pub firsts-all : firsts ++ last ∷ [] ≡ firsts_from 0 all
  firsts-all =
      let e : last.0 ≡ 0 + point_count plans = omega (arith, at-last) in
      ap (λ fs. fs ++ last ∷ []) (firsts-are 0 plans firsts old.at_firsts) ∙ ap (λ k. firsts_from 0 plans ++ point_id k ∷ []) e ∙ sym (firsts-push 0 plans p)

  pub at-firsts : AreFirsts 0 all (firsts ++ last ∷ [])
  at-firsts = subst (AreFirsts 0 all) (sym firsts-all) (firsts-right 0 all)

  -- the new holds
  pub new-held : drop (length held) (held ++ new) ≡ new
  new-held = drop-append-le (length held) held new (omega arith) ∙ ap (λ hs. hs ++ new) (drop_all (length held) held (omega arith))

  pub new-within : All (IsHeldWithin (length (ticks_in all))) new
  new-within = from-within machine (length (ticks_in all)) last.0 p.acts (let t = ticks-count machine now all can in let c = count-all in omega arith)

  pub new-ruled : All (λ h. IsRuleOf (length machine.resources) h.rule) new
  new-ruled = from-ruled machine (is_machine machine) last.0 p.acts

  pub small : All (λ h. HasSmallOffsets h.rule) (held ++ new)
  small = All-append (λ (h : Held). HasSmallOffsets h.rule) held new old.small (All-weaker (λ (h : Held). IsRuleOf (length machine.resources) h.rule) (λ (h : Held). HasSmallOffsets h.rule) (λ h r. r.1) new new-ruled)

  pub orders-before : (r : ℕ) → r < length machine.resources → AreSlots (table_of all) (held ++ new) (order_on timelines r) (slot_order machine plans r)
  orders-before r below =
      subst (λ table. AreSlots table (held ++ new) (order_on timelines r) (slot_order machine plans r)) (sym (table-more plans p))
      (slots-grown (table_of plans) (points_from p.sheet 0 (length p.acts)) held new (order_on timelines r) (slot_order machine plans r) (old.orders r below))

  pub ids-before : (r : ℕ) → r < length machine.resources → AreIds (held ++ new) (order_on timelines r)
  ids-before r below = slot-ids (table_of all) (held ++ new) (order_on timelines r) (slot_order machine plans r) (orders-before r below)

  -- the bounds with the plan's
  pub lows-all : (m : Net) → m ≡ with_bounds (lows_of (now + machine.lead) p) (caps_of (now + machine.window) p) n → m.lows ≡ map (low_at (now + machine.lead) (λ _. false) all no_own) (table_of all)
  lows-all m is =
      ap (λ (k : Net). k.lows) is ∙ ap (λ ls. ls ++ lows_of (now + machine.lead) p) (old.net.lows ∙ lows-map machine now plans can-before)
      ∙ ap (λ ls. flat_map (lows_of (now + machine.lead)) plans ++ ls) (sym (append-nil (lows_of (now + machine.lead) p)))
      ∙ sym (flat_map-append (lows_of (now + machine.lead)) plans (p ∷ [])) ∙ sym (lows-map machine now all can)

  pub caps-all : (m : Net) → m ≡ with_bounds (lows_of (now + machine.lead) p) (caps_of (now + machine.window) p) n → m.caps ≡ map (cap_at (now + machine.window) all) (table_of all)
  caps-all m is =
      ap (λ (k : Net). k.caps) is ∙ ap (λ ls. ls ++ caps_of (now + machine.window) p) (old.net.caps ∙ caps-map machine now plans can-before)
      ∙ ap (λ ls. flat_map (caps_of (now + machine.window)) plans ++ ls) (sym (append-nil (caps_of (now + machine.window) p)))
      ∙ sym (flat_map-append (caps_of (now + machine.window)) plans (p ∷ [])) ∙ sym (caps-map machine now all can)

  pub points-all : (m : Net) → m ≡ with_bounds (lows_of (now + machine.lead) p) (caps_of (now + machine.window) p) n → length m.lows ≡ length (table_of all)
  points-all m is = ap length (lows-all m is) ∙ length-map (table_of all) (low_at (now + machine.lead) (λ _. false) all no_own)
