-- A schedule of live plans joined with plans that are past: it is legal, and its orders less fresh slots are those of the
-- whole schedule before. A slot of a live plan either stands as it stood, or begins after the moment, when all slots
-- of past plans have ended and their gaps have passed.
use Rattle.std.proofs.Common.{◌≡◌, ◌⊎◌, inl, inr, ℕ, suc, ◌<◌, Bool, true, false, cond, not, List, [], ◌∷◌, filter, refl, ap, sym, arith, Contains, All, AllPairs, ◌∙◌, subst, IsTrue}
use Rattle.std.specs.Prelude.{pos, ◌≤ℤ◌, ◌<ℤ◌}
use Rattle.std.proofs.lemmas.Int.{ints}
use Rattle.std.proofs.lemmas.List.Elements.{All-contains}
use Rattle.std.proofs.lemmas.List.Kept.{AllPairs-filter}
use Rattle.tp_machine.proofs.MachineFacts.{is_machine}
use Rattle.tp_machine.proofs.ModeFacts.{gap_between-most}
use Rattle.tp_machine.specs.Modes.{gap_at}
use Rattle.tp_machine.specs.declared.machine.Machine.{Machine}
use Rattle.tp_schedule.specs.declared.parts.Plan.{Plan}
use Rattle.tp_schedule.specs.declared.parts.SheetId.{SheetId}
use Rattle.tp_schedule.specs.Legality.{IsLegal, EndsBefore}
use Rattle.tp_schedule.specs.LivePlans.{is_live}
use Rattle.tp_schedule.specs.Plans.{IsEarlier, IsTimedPlan, is_before, is_delivered_to, end_of_plan}
use Rattle.tp_schedule.specs.Spots.{Spot, Ticks, Slot, IsApart, AreApart, IsSoundSlot, begin_at, slots, slot_order, ticks_of}
use Rattle.tp_schedule.specs.Spots.Spot.{kept, own}
use Rattle.tp_schedule.proofs.LawFacts.{one_holder_is_apart}
use Rattle.tp_schedule.proofs.LegalOrders.{IsTimedBy-plans, legal_apart}
use Rattle.tp_schedule.proofs.Membership.{Contains-filter, Contains-filter_from, All-from_contains}
use Rattle.tp_schedule.proofs.Pairs.{AllPairs-each, AllPairs-either}
use Rattle.tp_choices.proofs.EachSlot.{by_plan}
use Rattle.tp_choices.proofs.Lists.{filter-all}
use Rattle.tp_choices.proofs.Parts.{AllPairs-by_part, AllPairs-both_parts, filter-swap, parts-equal}
use Rattle.tp_choices.proofs.PastFacts.{HasPassed, past_slots}
use Rattle.tp_choices.proofs.SameTicks.{IsSameAt, same-back, end-same, apart-same, both-apart-same, same-staying, in-slots, in-order, order-staying, sound-slots}
use Rattle.tp_choices.proofs.PlansLeft.{staying, stays, slots-staying, ticks-staying}
use Rattle.tp_choices.proofs.TimedSlots.{All-slots}
use Rattle.tp_choices.proofs.Unmoved.{ordered_pair}
use Rattle.tp_schedule.proofs.HeldCount.{IsTimedBy}

abbrev pub others_of : (SheetId → Bool) → SheetId → Bool
others_of gone c = not (gone c)

-- the slot stands in the second schedule as it stood in the first, or begins at or after the moment in both
pub record IsAhead (machine : Machine) (now : ℕ) (plans new : List Plan) (resource : ℕ) (s : Slot) : Type 0 where
  pub now_ahead : pos now ≤ℤ begin_at (ticks_of new) s
  pub was_ahead : Contains (slots machine resource plans) s → pos now ≤ℤ begin_at (ticks_of plans) s

pub record IsOld (machine : Machine) (plans new : List Plan) (resource : ℕ) (s : Slot) : Type 0 where
  pub was : Contains (slots machine resource plans) s
  pub same : IsSameAt (ticks_of plans) (ticks_of new) s

pub record Joins (machine : Machine) (now : ℕ) (gone : SheetId → Bool) (plans new : List Plan) (is_fresh : Slot → Bool) : Type 0 where
  pub legal : IsLegal machine plans
  pub past : (p : Plan) → Contains plans p → gone p.sheet ≡ true → is_live machine now p ≡ false
  pub in_order : AllPairs IsEarlier new
  pub same : staying gone new ≡ staying gone plans
  pub legal_live : IsLegal machine (staying (others_of gone) new)
  pub orders_live : (resource : ℕ) → filter (λ s. not (is_fresh s)) (slot_order machine (staying (others_of gone) new) resource) ≡ slot_order machine (staying (others_of gone) plans) resource
  pub gone_is_old : (s : Slot) → stays false gone s ≡ true → is_fresh s ≡ false
  pub slots_are : (resource : ℕ) (s : Slot) → Contains (slots machine resource (staying (others_of gone) new)) s → IsOld machine plans new resource s ⊎ IsAhead machine now plans new resource s
  pub lines : (p q : Plan) → Contains new p → Contains new q → gone p.sheet ≡ false → gone q.sheet ≡ true → (tray : ℕ) → IsTrue (is_delivered_to p tray) → IsTrue (is_delivered_to q tray)
      → (is_before p.sheet q.sheet ≡ true → end_of_plan p < end_of_plan q) × (is_before q.sheet p.sheet ≡ true → end_of_plan q < end_of_plan p)

pub filter-same : {X : Type 0} (p q : X → Bool) (xs : List X) → ((x : X) → p x ≡ q x) → filter p xs ≡ filter q xs
filter-same p q [] each = refl
filter-same {X} p q (x ∷ xs) each = rw (each x) (go (q x) (filter-same p q xs each)) where
  go : (b : Bool) → filter p xs ≡ filter q xs → cond b (x ∷ filter p xs) (filter p xs) ≡ cond b (x ∷ filter q xs) (filter q xs)
  go true e = ap (λ ys. x ∷ ys) e
  go false e = e

-- a slot stays exactly where its copy is not gone
pub stays-others : (gone : SheetId → Bool) (s : Slot) → stays true (others_of gone) s ≡ not (stays false gone s)
stays-others gone s = go s.to where
  go : (x : Spot) → stays true (others_of gone) (record { rule = s.rule; from = s.from; to = x }) ≡ not (stays false gone (record { rule = s.rule; from = s.from; to = x }))
  go (kept c i) = refl
  go (own n) = refl

module _ (machine : Machine) (now : ℕ) (gone : SheetId → Bool) (plans new : List Plan) (is_fresh : Slot → Bool) (h : Joins machine now gone plans new is_fresh) where
  abbrev live : List Plan
  live = staying (others_of gone) new

  abbrev t : Ticks
  t = ticks_of plans

  abbrev t' : Ticks
  t' = ticks_of new

  -- the plans that are gone are those that they were
  gone-was : (p : Plan) → Contains new p → gone p.sheet ≡ true → Contains plans p
  gone-was p in' e = (Contains-filter_from (λ q. gone q.sheet) plans p (subst (λ ps. Contains ps p) h.same (Contains-filter (λ q. gone q.sheet) new p in' e))).0

  live-in : (p : Plan) → Contains new p → gone p.sheet ≡ false → Contains live p
  live-in p in' e = Contains-filter (λ q. not (gone q.sheet)) new p in' (rw e refl)

  timed : All (IsTimedPlan machine) new
  timed = All-from_contains (IsTimedPlan machine) new (λ p in'. go p in' (gone p.sheet) refl) where
    go : (p : Plan) → Contains new p → (b : Bool) → gone p.sheet ≡ b → IsTimedPlan machine p
    go p in' true e = All-contains (IsTimedPlan machine) plans p h.legal.timed (gone-was p in' e)
    go p in' false e = All-contains (IsTimedPlan machine) live p h.legal_live.timed (live-in p in' e)

  -- what is known of a slot that is gone
  record IsGone (resource : ℕ) (s : Slot) : Type 0 where
    same : IsSameAt (ticks_of plans) (ticks_of new) s
    ended : HasPassed (gap_at machine resource) now (ticks_of plans) s

  gone-ticks : (c : SheetId) (i : ℕ) → gone c ≡ true → t' (kept c i) ≡ t (kept c i)
  gone-ticks c i e = sym (ticks-staying gone c new i e) ∙ ap (λ ps. ticks_of ps (kept c i)) h.same ∙ ticks-staying gone c plans i e

  gone-slots : (resource : ℕ) → filter (stays false gone) (slots machine resource new) ≡ filter (stays false gone) (slots machine resource plans)
  gone-slots resource = sym (slots-staying false gone machine resource new) ∙ ap (slots machine resource) h.same ∙ slots-staying false gone machine resource plans

  ended-slot : (resource : ℕ) (s : Slot) → Contains (slots machine resource plans) s → stays false gone s ≡ true → HasPassed (gap_at machine resource) now t s
  ended-slot resource s in' e = All-contains (HasPassed (gap_at machine resource) now (ticks_of plans)) (slots machine resource (staying gone plans)) s all (subst (λ xs. Contains xs s) (sym (slots-staying false gone machine resource plans)) (Contains-filter (stays false gone) (slots machine resource plans) s in' e)) where
    all : All (HasPassed (gap_at machine resource) now (ticks_of plans)) (slots machine resource (staying gone plans))
    all = by_plan (HasPassed (gap_at machine resource) now (ticks_of plans)) machine resource (staying gone plans) (λ p in-gone.
        let from = Contains-filter_from (λ q. gone q.sheet) plans p in-gone in
        past_slots machine now (ticks_of plans) resource p (All-contains (IsTimedBy (ticks_of plans)) plans p (IsTimedBy-plans machine plans h.legal.in_order h.legal.timed) from.0) (h.past p from.0 from.1))

  is-gone : (resource : ℕ) (s : Slot) → Contains (slots machine resource plans) s → stays false gone s ≡ true → IsGone resource s
  is-gone resource s in' e = record {
    same = All-contains (λ x. stays false gone x ≡ true → IsSameAt (ticks_of plans) (ticks_of new) x) (slots machine resource plans) s
        (All-slots (λ x. stays false gone x ≡ true → IsSameAt (ticks_of plans) (ticks_of new) x) machine resource plans (λ p _ i within rule f. record { from = gone-ticks p.sheet i f; to = gone-ticks p.sheet (suc i) f })) in' e;
    ended = ended-slot resource s in' e;
  }

  gone-in : (resource : ℕ) (s : Slot) → Contains (slots machine resource new) s → stays false gone s ≡ true → Contains (slots machine resource plans) s
  gone-in resource s in' e = (Contains-filter_from (stays false gone) (slots machine resource plans) s (subst (λ xs. Contains xs s) (gone-slots resource) (Contains-filter (stays false gone) (slots machine resource new) s in' e))).0

  live-slots : (resource : ℕ) (ps : List Plan) → slots machine resource (staying (others_of gone) ps) ≡ filter (λ s. not (stays false gone s)) (slots machine resource ps)
  live-slots resource ps = slots-staying true (others_of gone) machine resource ps ∙ filter-same (stays true (others_of gone)) (λ s. not (stays false gone s)) (slots machine resource ps) (stays-others gone)

  live-slot : (resource : ℕ) (s : Slot) → Contains (slots machine resource new) s → stays false gone s ≡ false → Contains (slots machine resource live) s
  live-slot resource s in' e = subst (λ xs. Contains xs s) (sym (live-slots resource new)) (Contains-filter (λ x. not (stays false gone x)) (slots machine resource new) s in' (rw e refl))

  turn : (resource : ℕ) (a b : Slot) → AreApart (gap_at machine resource) t' a b → AreApart (gap_at machine resource) t' b a
  turn resource a b (inl p) = inr p
  turn resource a b (inr p) = inl p

  apart-plans : (resource : ℕ) → AllPairs (AreApart (gap_at machine resource) t) (slots machine resource plans)
  apart-plans resource = (one_holder_is_apart machine plans resource h.legal.in_order h.legal.timed).0 (λ tick. h.legal.single resource tick, h.legal.spread resource)

  live-ticks : (resource : ℕ) (s : Slot) → Contains (slots machine resource live) s → IsSameAt (ticks_of live) t' s
  live-ticks resource s in' =
      let from = Contains-filter_from (λ x. not (stays false gone x)) (slots machine resource new) s (subst (λ xs. Contains xs s) (live-slots resource new) in') in
      same-back t' (ticks_of live) s (same-staying true (others_of gone) machine resource new s from.0 (stays-others gone s ∙ from.1))

  -- slots of which one is gone and one is not do not overlap
  across : (resource : ℕ) (x y : Slot) → Contains (slots machine resource new) x → Contains (slots machine resource new) y → stays false gone x ≡ true → stays false gone y ≡ false → AreApart (gap_at machine resource) t' x y
  across resource x y in-x in-y gone-x gone-y =
      let was-x = gone-in resource x in-x gone-x in
      let g = is-gone resource x was-x gone-x in
      elim (h.slots_are resource y (live-slot resource y in-y gone-y)) [
        | inl old ↦ both-apart-same (gap_at machine resource) t t' x y g.same old.same
            (elim (AllPairs-either (AreApart (gap_at machine resource) t) (slots machine resource plans) x y (apart-plans resource) was-x old.was (λ e. (let e' : stays false gone x ≡ false = subst (λ z. stays false gone z ≡ false) (sym e) gone-y in absurd (cc)))) [ inl a ↦ a | inr b ↦ turned y x b ])
        | inr ahead ↦ inl (rw (end-same t t' x g.same) (let ended = g.ended in let later = ahead.now_ahead in let most = gap_between-most (gap_at machine resource) x.rule y.rule in omega (arith, ints)))
      ] where
        turned : (a b : Slot) → AreApart (gap_at machine resource) t a b → AreApart (gap_at machine resource) t b a
        turned a b (inl p) = inr p
        turned a b (inr p) = inl p

  pairs : (resource : ℕ) → AllPairs (AreApart (gap_at machine resource) t') (slots machine resource new)
  pairs resource = AllPairs-both_parts (AreApart (gap_at machine resource) t') (stays false gone) (slots machine resource new) (turn resource) some others (λ x y in-x in-y e f. across resource x y in-x in-y e f) where
    some : AllPairs (AreApart (gap_at machine resource) t') (filter (stays false gone) (slots machine resource new))
    some = rw (gone-slots resource)
        (AllPairs-each (AreApart (gap_at machine resource) t) (AreApart (gap_at machine resource) t') (filter (stays false gone) (slots machine resource plans)) (AllPairs-filter (AreApart (gap_at machine resource) t) (stays false gone) (slots machine resource plans) (apart-plans resource))
        (λ x y in-x in-y a. both-apart-same (gap_at machine resource) t t' x y (was x in-x) (was y in-y) a)) where
          was : (x : Slot) → Contains (filter (stays false gone) (slots machine resource plans)) x → IsSameAt t t' x
          was x in' = let from = Contains-filter_from (stays false gone) (slots machine resource plans) x in' in (is-gone resource x from.0 from.1).same

    others : AllPairs (AreApart (gap_at machine resource) t') (filter (λ s. not (stays false gone s)) (slots machine resource new))
    others = rw (← live-slots resource new)
        (AllPairs-each (AreApart (gap_at machine resource) (ticks_of live)) (AreApart (gap_at machine resource) t') (slots machine resource live) ((one_holder_is_apart machine live resource h.legal_live.in_order h.legal_live.timed).0 (λ tick. h.legal_live.single resource tick, h.legal_live.spread resource))
        (λ x y in-x in-y a. both-apart-same (gap_at machine resource) (ticks_of live) t' x y (live-ticks resource x in-x) (live-ticks resource y in-y) a))

  rising : AllPairs EndsBefore new
  rising = AllPairs-each IsEarlier EndsBefore new h.in_order (λ p q in-p in-q before. go p q in-p in-q before (gone p.sheet) refl (gone q.sheet) refl) where
    go : (p q : Plan) → Contains new p → Contains new q → is_before p.sheet q.sheet ≡ true → (b : Bool) → gone p.sheet ≡ b → (c : Bool) → gone q.sheet ≡ c → EndsBefore p q
    go p q in-p in-q before true e true f = ordered_pair EndsBefore plans p q h.legal.in_order h.legal.rise (gone-was p in-p e) (gone-was q in-q f) before
    go p q in-p in-q before true e false f = λ tray to-p to-q. (h.lines q p in-q in-p f e tray to-q to-p).1 before
    go p q in-p in-q before false e true f = λ tray to-p to-q. (h.lines p q in-p in-q e f tray to-p to-q).0 before
    go p q in-p in-q before false e false f = ordered_pair EndsBefore live p q h.legal_live.in_order h.legal_live.rise (live-in p in-p e) (live-in q in-q f) before

  -- the joined schedule is legal
  pub joined-legal : IsLegal machine new
  joined-legal = record {
    in_order = h.in_order;
    timed = timed;
    single = λ resource. ((one_holder_is_apart machine new resource h.in_order timed).1 (pairs resource)).0;
    spread = λ resource. ((one_holder_is_apart machine new resource h.in_order timed).1 (pairs resource)).1;
    rise = rising;
  }

  -- what stood in the order before stands so at the new ticks
  old-apart : (resource : ℕ) → AllPairs (IsApart (gap_at machine resource) t') (slot_order machine plans resource)
  old-apart resource =
      AllPairs-by_part (IsApart (gap_at machine resource) t') (IsApart (gap_at machine resource) t) (λ s. not (stays false gone s)) (slot_order machine plans resource) part (legal_apart machine plans (is_machine machine) h.legal resource) cross where
        order-live : filter (λ s. not (stays false gone s)) (slot_order machine plans resource) ≡ filter (λ s. not (is_fresh s)) (slot_order machine live resource)
        order-live = sym (filter-same (stays true (others_of gone)) (λ s. not (stays false gone s)) (slot_order machine plans resource) (stays-others gone)) ∙ sym (order-staying true (others_of gone) machine plans resource h.legal) ∙ sym (h.orders_live resource)

        part : AllPairs (IsApart (gap_at machine resource) t') (filter (λ s. not (stays false gone s)) (slot_order machine plans resource))
        part = rw order-live
            (AllPairs-filter (IsApart (gap_at machine resource) t') (λ s. not (is_fresh s)) (slot_order machine live resource)
            (AllPairs-each (IsApart (gap_at machine resource) (ticks_of live)) (IsApart (gap_at machine resource) t') (slot_order machine live resource) (legal_apart machine live (is_machine machine) h.legal_live resource)
            (λ x y in-x in-y a. apart-same (gap_at machine resource) (ticks_of live) t' x y (live-ticks resource x (in-slots machine live resource x in-x)) (live-ticks resource y (in-slots machine live resource y in-y)) a)))

        is-live : (s : Slot) → Contains (slot_order machine plans resource) s → stays false gone s ≡ false → Contains (slots machine resource live) s
        is-live s in' e = in-slots machine live resource s (Contains-filter_from (λ x. not (is_fresh x)) (slot_order machine live resource) s
            (subst (λ xs. Contains xs s) order-live (Contains-filter (λ x. not (stays false gone x)) (slot_order machine plans resource) s in' (rw e refl)))).0

        cross : (x y : Slot) → Contains (slot_order machine plans resource) x → Contains (slot_order machine plans resource) y → (not (stays false gone x) ≡ false) ⊎ (not (stays false gone y) ≡ false) → IsApart (gap_at machine resource) t x y → IsApart (gap_at machine resource) t' x y
        cross x y in-x in-y which a = go (stays false gone x) refl (stays false gone y) refl which where
          was-x : Contains (slots machine resource plans) x
          was-x = in-slots machine plans resource x in-x

          was-y : Contains (slots machine resource plans) y
          was-y = in-slots machine plans resource y in-y

          go : (b : Bool) → stays false gone x ≡ b → (c : Bool) → stays false gone y ≡ c → (not (stays false gone x) ≡ false) ⊎ (not (stays false gone y) ≡ false) → IsApart (gap_at machine resource) t' x y
          go true e true f which' = apart-same (gap_at machine resource) t t' x y (is-gone resource x was-x e).same (is-gone resource y was-y f).same a
          go true e false f which' =
              let g = is-gone resource x was-x e in
              elim (h.slots_are resource y (is-live y in-y f)) [
                | inl old ↦ apart-same (gap_at machine resource) t t' x y g.same old.same a
                | inr ahead ↦ rw (end-same t t' x g.same) (let ended = g.ended in let later = ahead.now_ahead in let most = gap_between-most (gap_at machine resource) x.rule y.rule in omega (arith, ints))
              ]
          go false e true f which' =
              let g = is-gone resource y was-y f in
              elim (h.slots_are resource x (is-live x in-x e)) [
                | inl old ↦ apart-same (gap_at machine resource) t t' x y old.same g.same a
                | inr ahead ↦
                    let ended = g.ended in
                    let later = ahead.was_ahead was-x in
                    let long-x = (sound-slots machine plans resource x h.legal.in_order h.legal.timed was-x).long in
                    let long-y = (sound-slots machine plans resource y h.legal.in_order h.legal.timed was-y).long in
                    absurd (omega (arith, ints))
              ]
          go false e false f (inl never) = absurd (let yes : not (stays false gone x) ≡ true = rw e refl in (cc))
          go false e false f (inr never) = absurd (let yes : not (stays false gone y) ≡ true = rw f refl in (cc))

  -- its orders, less fresh slots, are those of the schedule before
  pub joined-orders : (resource : ℕ) → filter (λ s. not (is_fresh s)) (slot_order machine new resource) ≡ slot_order machine plans resource
  joined-orders resource = parts-equal (λ x y. begin_at t' x <ℤ begin_at t' y) (λ x y a b. omega (arith, ints)) (stays false gone)
      (filter (λ s. not (is_fresh s)) (slot_order machine new resource)) (slot_order machine plans resource) rise-new rise-old some others where
        rise-new : AllPairs (λ x y. begin_at t' x <ℤ begin_at t' y) (filter (λ s. not (is_fresh s)) (slot_order machine new resource))
        rise-new = AllPairs-filter (λ x y. begin_at t' x <ℤ begin_at t' y) (λ s. not (is_fresh s)) (slot_order machine new resource)
            (AllPairs-each (IsApart (gap_at machine resource) t') (λ x y. begin_at t' x <ℤ begin_at t' y) (slot_order machine new resource) (legal_apart machine new (is_machine machine) joined-legal resource)
            (λ x y in-x in-y a. let long = (sound-slots machine new resource x h.in_order timed (in-slots machine new resource x in-x)).long in omega (arith, ints)))

        rise-old : AllPairs (λ x y. begin_at t' x <ℤ begin_at t' y) (slot_order machine plans resource)
        rise-old = AllPairs-each (IsApart (gap_at machine resource) t') (λ x y. begin_at t' x <ℤ begin_at t' y) (slot_order machine plans resource) (old-apart resource) (λ x y in-x in-y a. let long = (sound-in-new x (in-slots machine plans resource x in-x)).long in omega (arith, ints)) where
          sound-in-new : (s : Slot) → Contains (slots machine resource plans) s → IsSoundSlot t' s
          sound-in-new s in' = sound-slots machine new resource s h.in_order timed (go (stays false gone s) refl) where
            go : (b : Bool) → stays false gone s ≡ b → Contains (slots machine resource new) s
            go true e = (Contains-filter_from (stays false gone) (slots machine resource new) s (subst (λ xs. Contains xs s) (sym (gone-slots resource)) (Contains-filter (stays false gone) (slots machine resource plans) s in' e))).0
            go false e =
                let kept-order : Contains (slot_order machine (staying (others_of gone) plans) resource) s = in-order machine (staying (others_of gone) plans) resource s
                (subst (λ xs. Contains xs s) (sym (live-slots resource plans)) (Contains-filter (λ x. not (stays false gone x)) (slots machine resource plans) s in' (rw e refl))) in
                let in-live = in-slots machine live resource s (Contains-filter_from (λ x. not (is_fresh x)) (slot_order machine live resource) s (subst (λ xs. Contains xs s) (sym (h.orders_live resource)) kept-order)).0 in
                (Contains-filter_from (λ x. not (stays false gone x)) (slots machine resource new) s (subst (λ xs. Contains xs s) (live-slots resource new) in-live)).0

        some : filter (stays false gone) (filter (λ s. not (is_fresh s)) (slot_order machine new resource)) ≡ filter (stays false gone) (slot_order machine plans resource)
        some = filter-swap (stays false gone) (λ s. not (is_fresh s)) (slot_order machine new resource)
            ∙ filter-all (λ s. not (is_fresh s)) (filter (stays false gone) (slot_order machine new resource)) (All-from_contains (λ s. not (is_fresh s) ≡ true) (filter (stays false gone) (slot_order machine new resource)) (λ s in'. rw (h.gone_is_old s (Contains-filter_from (stays false gone) (slot_order machine new resource) s in').1) refl))
            ∙ sym (order-staying false gone machine new resource joined-legal) ∙ ap (λ ps. slot_order machine ps resource) h.same ∙ order-staying false gone machine plans resource h.legal

        others : filter (λ s. not (stays false gone s)) (filter (λ s. not (is_fresh s)) (slot_order machine new resource)) ≡ filter (λ s. not (stays false gone s)) (slot_order machine plans resource)
        others = filter-swap (λ s. not (stays false gone s)) (λ s. not (is_fresh s)) (slot_order machine new resource)
            ∙ ap (filter (λ s. not (is_fresh s))) (sym (filter-same (stays true (others_of gone)) (λ s. not (stays false gone s)) (slot_order machine new resource) (stays-others gone)) ∙ sym (order-staying true (others_of gone) machine new resource joined-legal))
            ∙ h.orders_live resource ∙ order-staying true (others_of gone) machine plans resource h.legal
            ∙ filter-same (stays true (others_of gone)) (λ s. not (stays false gone s)) (slot_order machine plans resource) (stays-others gone)
