-- A legal schedule with a plan more, behind all others, is legal if its live part with that plan is: what is over by now has
-- ended when the plan begins.
use Rattle.std.proofs.Common.{◌≡◌, ◌⊎◌, inl, inr, ℕ, ◌+◌, ◌≤◌, ◌<◌, Bool, true, false, cond, not, List, [], ◌∷◌, ◌++◌, length, filter, refl, ap, sym, arith, Contains, AllPairs, ◌∙◌, subst, Some, None, Option, IsTrue}
use Rattle.std.proofs.lemmas.Int.{ints}
use Rattle.std.proofs.lemmas.List.{append-nil}
use Rattle.std.proofs.lemmas.List.Elements.{All-contains, All-head, Contains-append_left, Contains-push, Contains-push_cases, filter-append}
use Rattle.tp_machine.specs.declared.machine.Machine.{Machine}
use Rattle.tp_schedule.specs.Legality.{EndsBefore, IsLegal}
use Rattle.tp_schedule.specs.LivePlans.{is_live}
use Rattle.tp_schedule.specs.PlannerAnswers.{CanPlanOn}
use Rattle.tp_schedule.specs.Plans.{IsEarlier, IsTimedPlan, end_of_plan, is_before, is_delivered_to, is_same_copy, plan_of, point}
use Rattle.tp_schedule.specs.Spots.{Slot, Spot, slot_order, slots, slots_of}
use Rattle.tp_schedule.specs.Spots.Spot.{kept, own}
use Rattle.tp_schedule.specs.declared.parts.Plan.{Plan}
use Rattle.tp_schedule.specs.declared.parts.SheetId.{SheetId}
use Rattle.tp_schedule.proofs.CopyFacts.{before-asym, before-not_same, plan_of-itself, same_copy-is, same_copy-refl}
use Rattle.tp_schedule.proofs.Membership.{All-from_contains, Contains-filter_from}
use Rattle.tp_choices.proofs.LiveOrders.{IsAhead, IsOld, Joins, filter-same, joined-legal, others_of}
use Rattle.tp_choices.proofs.LiveSlots.{IsSlotOf, in-slots-of, same_copy_at, slot-after, slot-ticks, slot-within, slot_of, slots-in}
use Rattle.tp_choices.proofs.Lists.{AllPairs-across, filter-all}
use Rattle.tp_choices.proofs.PastFacts.{past_points}
use Rattle.tp_choices.proofs.PlansOf.{plan_of-contains}
use Rattle.tp_choices.proofs.PointFacts.{point-le}
use Rattle.tp_choices.proofs.SameTicks.{order-staying}
use Rattle.tp_choices.proofs.PlansLeft.{on_copy, stays, staying}
use Rattle.tp_choices.proofs.Unmoved.{ordered_pair}
use Rattle.tp_constraints.specs.AddedPlan.{with_plan}
use Rattle.tp_placing.proofs.WriteLive.{ended, gone, may-forget}
use Rattle.tp_placing.proofs.WriteWhole.{less-live}

module _ (machine : Machine) (now : ℕ) (plans : List Plan) (p : Plan) (can : CanPlanOn machine now plans) (in_order : AllPairs IsEarlier (with_plan plans p))
    (later : (i : ℕ) → i < length p.acts → now + machine.lead < point p i) (legal-live : IsLegal machine (with_plan (filter (is_live machine now) plans) p)) where
  abbrev over : SheetId → Bool
  over = gone machine plans now can

  abbrev live : List Plan
  live = filter (is_live machine now) plans

  abbrev all : List Plan
  all = with_plan plans p

  -- the others are of earlier copies
  before : (q : Plan) → Contains plans q → is_before q.sheet p.sheet ≡ true
  before q in' = All-head (λ r. is_before q.sheet r.sheet ≡ true) p [] (AllPairs-across (λ a b. is_before a.sheet b.sheet ≡ true) plans (p ∷ []) q in_order in')

  new-copy : plan_of p.sheet plans ≡ None
  new-copy = pick (plan_of p.sheet plans) refl where
    pick : (o : Option Plan) → plan_of p.sheet plans ≡ o → o ≡ None
    pick None e = refl
    pick (Some q) e =
        let from = plan_of-contains p.sheet plans q e in
        let other = before-not_same q.sheet p.sheet (before q from.0) in
        let same = from.1 in
        absurd cc

  not-over : over p.sheet ≡ false
  not-over = ap (ended machine now) new-copy

  -- what is over, and what is left
  over-part : staying over all ≡ staying over plans
  over-part =
      filter-append (λ q. over q.sheet) plans (p ∷ []) ∙ ap (λ b. filter (λ q. over q.sheet) plans ++ cond b (p ∷ []) []) not-over
      ∙ append-nil (filter (λ q. over q.sheet) plans)

  live-part : staying (others_of over) all ≡ with_plan live p
  live-part =
      filter-append (λ q. not (over q.sheet)) plans (p ∷ []) ∙ ap (λ b. filter (λ q. not (over q.sheet)) plans ++ cond (not b) (p ∷ []) []) not-over
      ∙ ap (λ ps. ps ++ p ∷ []) (less-live machine plans now can)

  timed : IsTimedPlan machine p
  timed = All-contains (IsTimedPlan machine) (with_plan live p) p legal-live.timed (Contains-push live p)

  planned : (q : Plan) → Contains all q → plan_of q.sheet all ≡ Some q
  planned q in' = plan_of-itself all q in_order in'

  -- the slots of the plan are fresh: less those the orders are the ones without it
  abbrev is_other : SheetId → Bool
  is_other c = not (is_same_copy c p.sheet)

  abbrev is_fresh : Slot → Bool
  is_fresh s = not (stays true is_other s)

  others : staying is_other (with_plan live p) ≡ live
  others =
      let last : filter (λ q. is_other q.sheet) (p ∷ []) ≡ [] = ap (λ b. cond (not b) (p ∷ []) []) (same_copy-refl p.sheet) in
      let rest : filter (λ q. is_other q.sheet) live ≡ live = filter-all (λ q. is_other q.sheet) live
      (All-from_contains (λ (q : Plan). is_other q.sheet ≡ true) live (λ q in'. ap not (before-not_same q.sheet p.sheet (before q (Contains-filter_from (is_live machine now) plans q in').0)))) in
      filter-append (λ q. is_other q.sheet) live (p ∷ []) ∙ (λ i. rest i ++ last i) ∙ append-nil live

  orders : (r : ℕ) → filter (λ s. not (is_fresh s)) (slot_order machine (staying (others_of over) all) r) ≡ slot_order machine (staying (others_of over) plans) r
  orders r =
      ap (λ ps. filter (λ s. not (is_fresh s)) (slot_order machine ps r)) live-part
      ∙ filter-same (λ s. not (is_fresh s)) (stays true is_other) (slot_order machine (with_plan live p) r) (λ s. twice (stays true is_other s))
      ∙ sym (order-staying true is_other machine (with_plan live p) r legal-live)
      ∙ ap (λ ps. slot_order machine ps r) (others ∙ sym (less-live machine plans now can)) where
        twice : (b : Bool) → not (not b) ≡ b
        twice true = refl
        twice false = refl

  not-fresh : (x : Spot) → on_copy false over x ≡ true → not (on_copy true is_other x) ≡ false
  not-fresh (kept c i) e = pick (is_same_copy c p.sheet) refl where
    pick : (b : Bool) → is_same_copy c p.sheet ≡ b → not (not b) ≡ false
    pick true same = let is = same_copy-is c p.sheet same in let no : over c ≡ false = ap over is ∙ not-over in absurd cc
    pick false same = refl
  not-fresh (own n) e = absurd cc

  -- a slot of another plan stands as it stood, and one of the plan lies ahead
  slots-are : (r : ℕ) (s : Slot) → Contains (slots machine r (staying (others_of over) all)) s → IsOld machine plans all r s ⊎ IsAhead machine now plans all r s
  slots-are r s in' =
      let from = slots-in machine r (with_plan live p) s (subst (λ ps. Contains (slots machine r ps) s) live-part in') in
      elim (Contains-push_cases live p from.0 from.1) [
        | inl there ↦ inl (stands from.0 (Contains-filter_from (is_live machine now) plans from.0 there).0 from.2)
        | inr is ↦ inr (ahead (subst (λ q. Contains (slots_of machine r q) s) (sym is) from.2))
      ] where
        stands : (q : Plan) → Contains plans q → Contains (slots_of machine r q) s → IsOld machine plans all r s
        stands q there here =
            let of = slot_of machine r q s here in
            let was = slot-ticks machine plans q s of q (plan_of-itself plans q can.legal.in_order there) in
            let is = slot-ticks machine all q s of q (planned q (Contains-append_left plans (p ∷ []) q there)) in
            record { was = in-slots-of machine r plans q s there here; same = record { from = is.0 ∙ sym was.0; to = is.1 ∙ sym was.1 } }

        never : (of : IsSlotOf machine p s) → Contains (slots machine r plans) s → ⊥
        never of there =
            let q = slots-in machine r plans s there in
            let of-q = slot_of machine r q.0 s q.2 in
            let same : q.0.sheet ≡ p.sheet = same_copy_at q.0.sheet p.sheet of-q.i of.i (sym of-q.from ∙ of.from) in
            let is : is_same_copy q.0.sheet p.sheet ≡ true = ap (λ c. is_same_copy c p.sheet) same ∙ same_copy-refl p.sheet in
            let other = before-not_same q.0.sheet p.sheet (before q.0 q.1) in
            cc

        ahead : Contains (slots_of machine r p) s → IsAhead machine now plans all r s
        ahead here =
            let of = slot_of machine r p s here in
            let after = slot-after machine all p s of p (planned p (Contains-push plans p)) of.at timed in
            let start = later of.i (slot-within machine p s of) in
            record { now_ahead = omega (arith, ints); was_ahead = λ there. absurd (never of there) }

  -- the plan ends after all that is over
  ends-later : now < end_of_plan p
  ends-later =
      let some = timed.some in
      let start = later 0 some in
      let rises = point-le machine p timed 0 (length p.acts) (omega arith) (omega arith) in
      omega arith

  lines : (a b : Plan) → Contains all a → Contains all b → over a.sheet ≡ false → over b.sheet ≡ true → (tray : ℕ) → IsTrue (is_delivered_to a tray) → IsTrue (is_delivered_to b tray)
      → (is_before a.sheet b.sheet ≡ true → end_of_plan a < end_of_plan b) × (is_before b.sheet a.sheet ≡ true → end_of_plan b < end_of_plan a)
  lines a b in-a in-b stays-a over-b tray to-a to-b =
      elim (Contains-push_cases plans p a in-a) [
        | inl there ↦ (
          λ first. ordered_pair EndsBefore plans a b can.legal.in_order can.legal.rise there in-plans first tray to-a to-b,
          λ first. ordered_pair EndsBefore plans b a can.legal.in_order can.legal.rise in-plans there first tray to-b to-a,
        )
        | inr is ↦ (
          λ first. absurd (let back = before-asym b.sheet p.sheet (before b in-plans) in let forth : is_before p.sheet b.sheet ≡ true = ap (λ (q : Plan). is_before q.sheet b.sheet) is ∙ first in cc),
          λ first. subst (λ (q : Plan). end_of_plan b < end_of_plan q) is (let e = ends-later in let f = has-ended in omega arith),
        )
      ] where
        in-plans : Contains plans b
        in-plans = elim (Contains-push_cases plans p b in-b) [
          | inl there ↦ there
          | inr is ↦ absurd (let no : over b.sheet ≡ false = ap (λ (q : Plan). over q.sheet) (sym is) ∙ not-over in cc)
        ]

        has-ended : end_of_plan b ≤ now
        has-ended = past_points machine now b ((may-forget machine plans now can).past b in-plans over-b) (length b.acts)

  joins : Joins machine now over plans all is_fresh
  joins = record {
    legal = can.legal;
    past = (may-forget machine plans now can).past;
    in_order = in_order;
    same = over-part;
    legal_live = subst (IsLegal machine) (sym live-part) legal-live;
    orders_live = orders;
    gone_is_old = λ s e. not-fresh s.to e;
    slots_are = slots-are;
    lines = lines;
  }

  -- so it is legal
  pub legal-joined : IsLegal machine all
  legal-joined = joined-legal machine now over plans all is_fresh joins
