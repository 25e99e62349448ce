-- Ticks that keep a schedule's shape and orders are the points of a schedule that differs in ticks alone, and the
-- points of such a schedule are such ticks.
use Rattle.std.proofs.Common.{◌≡◌, ℕ, suc, ◌+◌, ◌≤◌, ◌<◌, Bool, true, false, List, [], ◌∷◌, map, length, refl, ap, sym, arith, Contains, All, AllPairs, ◌∙◌, subst, Some, IsTrue, add-one}
use Rattle.std.proofs.lemmas.List.Elements.{All-contains}
use Rattle.std.proofs.lemmas.List.Sorted.{All-permutation}
use Rattle.tp_machine.proofs.MachineFacts.{is_machine}
use Rattle.tp_machine.specs.Modes.{gap_at}
use Rattle.tp_machine.specs.declared.machine.Machine.{Machine}
use Rattle.tp_choices.proofs.CompletePlans.{IsTimedPlan-timed_by, point-timed_by}
use Rattle.tp_choices.proofs.TimedSlots.{All-slots, slots-timed_by}
use Rattle.tp_choices.proofs.Unmoved.{unmoved-found, ordered_pair}
use Rattle.tp_machine.specs.Machines.{IsMachine}
use Rattle.tp_schedule.proofs.CopyFacts.{InOrder, plan_of-itself}
use Rattle.tp_schedule.proofs.LegalOrders.{apart_order, legal_apart}
use Rattle.tp_schedule.proofs.Membership.{All-from_contains, Contains-map_from, Contains-map}
use Rattle.tp_schedule.proofs.Pairs.{AllPairs-map, AllPairs-each}
use Rattle.tp_schedule.proofs.SlotOrder.{IsPermutation-by_begin}
use Rattle.tp_schedule.specs.Answers.{unmoved, IsRetimed}
use Rattle.tp_schedule.specs.Holders.{held}
use Rattle.tp_schedule.specs.Legality.{IsLegal, IsSpreadAt, EndsBefore}
use Rattle.tp_schedule.specs.Plans.{plan_of, is_before, IsTimedPlan, point, end_of_plan, is_fixed, is_delivered_to, with_points}
use Rattle.tp_schedule.specs.Spots.{Ticks, Slot, IsApart, slots, slot_order, ticks_of}
use Rattle.tp_schedule.specs.Times.{KeepsTimes, EndsBeforeAt, at, timed_by, ticks_from, KeepsOrders}
use Rattle.tp_schedule.specs.declared.parts.Plan.{Plan}
use Rattle.tp_schedule.specs.Spots.Spot.{kept}
use Rattle.tp_choices.specs.Retimings.{RetimedTicks, TicksRetime}

module _ (machine : Machine) (now : ℕ) (exempt : Plan → Bool) (plans : List Plan) (t : Ticks) (rules : IsMachine machine) (legal : IsLegal machine plans)
    (only_shape : (p : Plan) (points : List ℕ) → exempt (with_points points p) ≡ exempt p) (keeps : KeepsTimes machine now exempt plans t) (apart : KeepsOrders machine plans t) where
  abbrev new : List Plan
  new = map (timed_by t) plans

  new-cases : (p : Plan) → Contains new p → (q : Plan) × Contains plans q × (p ≡ timed_by t q)
  new-cases p in' = Contains-map_from (timed_by t) plans p in'

  new-timed : All (IsTimedPlan machine) new
  new-timed = All-from_contains (IsTimedPlan machine) new (λ p in'.
      let c = new-cases p in' in
      let old = All-contains (IsTimedPlan machine) plans c.0 legal.timed c.1 in
      subst (IsTimedPlan machine) (sym c.2) (IsTimedPlan-timed_by machine rules t c.0 old.start old.end old.some old.at_most old.released old.starts old.leads old.ends (keeps.lasts c.0 c.1)))

  new-in_order : InOrder new
  new-in_order = AllPairs-map (λ p q. IsTrue (is_before p.sheet q.sheet)) (λ p q. IsTrue (is_before p.sheet q.sheet)) (λ p. Unit {0}) (timed_by t) plans (λ k d within. tt) legal.in_order (λ p q _ _ e. e)

  new-at : (p : Plan) → Contains plans p → (i : ℕ) → i ≤ length p.acts → ticks_of new (kept p.sheet i) ≡ t (kept p.sheet i)
  new-at p in' i le = rw (plan_of-itself new (timed_by t p) new-in_order (Contains-map (timed_by t) plans p in')) (point-timed_by t p i le)

  abbrev Matches : Slot → Type 0
  Matches s = (ticks_of new s.from ≡ t s.from) × (ticks_of new s.to ≡ t s.to)

  new-order : (resource : ℕ) → (slot_order machine new resource ≡ slot_order machine plans resource) × ((tick : ℕ) → length (held machine new resource tick) ≤ 1) × ((tick : ℕ) → IsSpreadAt machine new resource tick)
  new-order resource =
      let sorted = IsPermutation-by_begin (ticks_of plans) (slots machine resource plans) in
      let matches = All-permutation Matches (slots machine resource plans) (slot_order machine plans resource) sorted
      (All-slots Matches machine resource plans (λ p in' i within rule. (new-at p in' i (omega arith), new-at p in' (suc i) (omega arith)))) in
      apart_order machine new rules new-in_order new-timed resource (slot_order machine plans resource)
      (rw (slots-timed_by machine resource t plans) sorted)
      (AllPairs-each (IsApart (gap_at machine resource) t) (IsApart (gap_at machine resource) (ticks_of new)) (slot_order machine plans resource) (apart resource)
      (λ x y in-x in-y e. let p = All-contains Matches (slot_order machine plans resource) x matches in-x in let q = All-contains Matches (slot_order machine plans resource) y matches in-y in
      rw (p.0, p.1, q.0, q.1) e))

  same-shape : (ps : List Plan) → map unmoved (map (timed_by t) ps) ≡ map unmoved ps
  same-shape [] = refl
  same-shape (p ∷ ps) = ap (λ qs. unmoved p ∷ qs) (same-shape ps)

  pub retimes : IsRetimed machine now exempt plans new
  retimes = record {
    legal = record {
      in_order = new-in_order;
      timed = new-timed;
      single = λ resource. (new-order resource).1;
      spread = λ resource. (new-order resource).2;
      rise = AllPairs-map (EndsBeforeAt t) EndsBefore (λ p. Unit {0}) (timed_by t) plans (λ k d within. tt) keeps.rise
          (λ p q _ _ e tray to-p to-q. rw (point-timed_by t p (length p.acts) (omega arith), point-timed_by t q (length q.acts) (omega arith)) (e tray to-p to-q));
    };
    same = same-shape plans;
    fixed = λ p p' in' is i fixed le. (let found : ticks_of new (kept p.sheet i) ≡ point p' i = rw is refl in sym found ∙ new-at p in' i le ∙ keeps.fixed p in' i fixed le);
    orders = λ resource. (new-order resource).0;
    floors = λ p in' free i unreleased within.
        let c = new-cases p in' in
        let within' : i < length c.0.acts = subst (λ r. i < length r.acts) c.2 within in
        let free' : exempt c.0 ≡ false = sym (only_shape c.0 (ticks_from (at t c.0) 0 (suc (length c.0.acts)))) ∙ subst (λ r. exempt r ≡ false) c.2 free in
        subst (λ r. now + machine.lead < point r i) (sym c.2) (rw (point-timed_by t c.0 i (omega arith)) (keeps.floors c.0 c.1 free' i (subst (λ r. r.released ≤ i) c.2 unreleased) within'));
    horizon = λ p in' i le free.
        let c = new-cases p in' in
        let le' : i ≤ length c.0.acts = subst (λ r. i ≤ length r.acts) c.2 le in
        subst (λ r. point r i ≤ now + machine.window) (sym c.2) (rw (point-timed_by t c.0 i le') (keeps.horizon c.0 c.1 i le' (subst (λ r. is_fixed r i ≡ false) c.2 free)));
  }

pub ticks_retime : TicksRetime
ticks_retime machine now exempt plans t legal only_shape keeps apart = retimes machine now exempt plans t (is_machine machine) legal only_shape keeps apart

module _ (machine : Machine) (now : ℕ) (exempt : Plan → Bool) (plans new : List Plan) (rules : IsMachine machine) (legal : IsLegal machine plans)
    (only_shape : (p : Plan) (points : List ℕ) → exempt (with_points points p) ≡ exempt p) (r : IsRetimed machine now exempt plans new) where
  record Moved (p p' : Plan) : Type 0 where
    in' : Contains new p'
    same : unmoved p' ≡ unmoved p
    planned : plan_of p.sheet new ≡ Some p'

  moved : (p : Plan) → Contains plans p → (p' : Plan) × Moved p p'
  moved p in' =
      let found = unmoved-found new plans p r.same in' in
      let sheet : found.0.sheet ≡ p.sheet = ap (λ (q : Plan). q.sheet) found.2 in
      (found.0, record { in' = found.1; same = found.2; planned = subst (λ c. plan_of c new ≡ Some found.0) sheet (plan_of-itself new found.0 r.legal.in_order found.1) })

  moved-at : (p : Plan) (in' : Contains plans p) (i : ℕ) → ticks_of new (kept p.sheet i) ≡ point (moved p in').0 i
  moved-at p in' i = rw (moved p in').1.planned refl

  moved-acts : (p : Plan) (in' : Contains plans p) → (moved p in').0.acts ≡ p.acts
  moved-acts p in' = ap (λ (q : Plan). q.acts) (moved p in').1.same

  pub retimed : KeepsTimes machine now exempt plans (ticks_of new) × KeepsOrders machine plans (ticks_of new)
  retimed = (
    record {
      lasts = λ p in' i act e.
          let m = moved p in' in
          let old = All-contains (IsTimedPlan machine) new m.0 r.legal.timed m.1.in' in
          rw (moved-at p in' i, moved-at p in' (suc i), ← add-one) (old.lasts i act (rw (moved-acts p in') e));
      fixed = λ p in' i fixed le. moved-at p in' i ∙ r.fixed p (moved p in').0 in' (moved p in').1.planned i fixed le;
      floors = λ p in' free i unreleased within.
          let m = moved p in' in
          let free' : exempt m.0 ≡ false = sym (only_shape m.0 []) ∙ ap exempt m.1.same ∙ only_shape p [] ∙ free in
          let released : m.0.released ≡ p.released = ap (λ (q : Plan). q.released) m.1.same in
          rw (moved-at p in' i) (r.floors m.0 m.1.in' free' i (omega (arith, released)) (omega (arith, ap length (moved-acts p in'))));
      horizon = λ p in' i le free.
          let m = moved p in' in
          rw (moved-at p in' i) (r.horizon m.0 m.1.in' i (omega (arith, ap length (moved-acts p in'))) (subst (λ (q : Plan). is_fixed q i ≡ false) (sym m.1.same) free));
      rise = AllPairs-each (λ p q. IsTrue (is_before p.sheet q.sheet)) (EndsBeforeAt (ticks_of new)) plans legal.in_order (λ p q in-p in-q before tray to-p to-q.
          let m = moved p in-p in
          let n = moved q in-q in
          let sheet-p : m.0.sheet ≡ p.sheet = ap (λ (s : Plan). s.sheet) m.1.same in
          let sheet-q : n.0.sheet ≡ q.sheet = ap (λ (s : Plan). s.sheet) n.1.same in
          let less : end_of_plan m.0 < end_of_plan n.0 = ordered_pair EndsBefore new m.0 n.0 r.legal.in_order r.legal.rise m.1.in' n.1.in' (rw (sheet-p, sheet-q) before) tray
          (subst (λ (s : Plan). is_delivered_to s tray ≡ true) (sym m.1.same) to-p) (subst (λ (s : Plan). is_delivered_to s tray ≡ true) (sym n.1.same) to-q) in
          let end-p = moved-at p in-p (length p.acts) ∙ ap (λ xs. point m.0 (length xs)) (sym (moved-acts p in-p)) in
          let end-q = moved-at q in-q (length q.acts) ∙ ap (λ xs. point n.0 (length xs)) (sym (moved-acts q in-q)) in
          rw (end-p, end-q) less);
    },
    λ resource. subst (AllPairs (IsApart (gap_at machine resource) (ticks_of new))) (r.orders resource) (legal_apart machine new rules r.legal resource),
  )

pub retimed_ticks : RetimedTicks
retimed_ticks machine now exempt plans new legal only_shape r = retimed machine now exempt plans new (is_machine machine) legal only_shape r
