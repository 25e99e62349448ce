-- A schedule stays least as the clock moves: of two times that keep the rules, the earlier ones keep them too.
use Rattle.std.proofs.Common.{◌≡◌, ℕ, suc, ◌+◌, ◌≤◌, ◌<◌, inl, inr, ◌⊎◌, Bool, true, false, ◌&&◌, List, [], ◌∷◌, ◌++◌, length, map, refl, sym, arith, ◌∙◌, ap, subst, pos, ◌+ℤ◌, ◌≤ℤ◌, cond, nat_le, nat_lt, Contains, AllPairs, Some, None, Option}
use Rattle.std.specs.Prelude.{IsTrue, ◌||◌, IsSomeAnd}
use Rattle.std.proofs.lemmas.Int.{ints}
use Rattle.std.proofs.lemmas.Bool.Decides.{nat_tests}
use Rattle.tp_machine.specs.Modes.{gap_at, gap_between}
use Rattle.tp_machine.specs.ModuleUse.{action_at, tick_of}
use Rattle.tp_machine.specs.declared.parts.Action.{Action}
use Rattle.tp_machine.specs.declared.parts.Anchor.{Anchor}
use Rattle.tp_machine.specs.declared.parts.Anchor.TheVariants.{Start, End}
use Rattle.tp_machine.specs.declared.machine.Machine.{Machine}
use Rattle.tp_schedule.specs.Answers.{IsLeast, IsRetimed}
use Rattle.tp_schedule.specs.PlannerAnswers.{CanPlanOn, none_exempt}
use Rattle.tp_schedule.specs.Plans.{is_before, is_front, is_same_copy, plan_of, point}
use Rattle.tp_schedule.specs.Spots.{IsApart, Slot, Spot, Ticks, by_begin, slot_order, slots, slots_of, ticks_of, point_in}
use Rattle.tp_schedule.specs.Spots.Spot.{kept, own}
use Rattle.tp_schedule.specs.Times.{EndsBeforeAt, KeepsOrders, KeepsTimes, timed_by}
use Rattle.tp_schedule.specs.declared.parts.Plan.{Plan}
use Rattle.tp_schedule.specs.declared.parts.SheetId.{SheetId}
use Rattle.tp_schedule.proofs.CopyFacts.{plan_of-itself}
use Rattle.tp_schedule.proofs.Membership.{Contains-map, Contains-map_from}
use Rattle.tp_schedule.proofs.Pairs.{AllPairs-cons, AllPairs-each, AllPairs-head, AllPairs-nil, AllPairs-tail}
use Rattle.std.proofs.lemmas.List.Concat.{flat_map-cons}
use Rattle.std.proofs.lemmas.Option.{same_Some}
use Rattle.tp_choices.proofs.CompletePlans.{point-timed_by}
use Rattle.tp_choices.proofs.RetimedSchedules.{retimed_ticks, ticks_retime}
use Rattle.tp_choices.proofs.Unmoved.{ordered_pair}
use Rattle.tp_choices.proofs.RejoinedPlans.{live_is_least}
use Rattle.tp_event_rules.proofs.PlanOnFacts.{CanPlanOn-clock}
use Rattle.tp_event_rules.proofs.PlannableTurns.{accepted-clock}
use Rattle.tp_event_rules.specs.Clock.{released_until}
use Rattle.tp_event_rules.specs.Refusals.{clock_refusal}
use Rattle.tp_event_turn.specs.LiveAnswers.{live_at}
use Rattle.tp_event_turn.proofs.LivePast.{both-parts, gone-is, gone_at, may-forget}
use Rattle.tp_event_rules.specs.Moments.{due_until, release_until}

-- the earlier of two ticks
abbrev earlier : ℕ → ℕ → ℕ
earlier a b = cond (nat_le a b) a b

record IsEarlierOf (a b m : ℕ) : Type 0 where
  first : m ≤ a
  second : m ≤ b
  one : (m ≡ a) ⊎ (m ≡ b)

earlier-is : (a b : ℕ) → IsEarlierOf a b (earlier a b)
earlier-is a b = go (nat_le a b) refl where
  go : (c : Bool) → nat_le a b ≡ c → IsEarlierOf a b (cond c a b)
  go true e = let h : a ≤ b = grind (arith, nat_tests) in record { first = omega arith; second = omega arith; one = inl refl }
  go false e = let h : b < a = grind (arith, nat_tests) in record { first = omega arith; second = omega arith; one = inr refl }

-- the earlier of two times each
abbrev both_first : Ticks → Ticks → Ticks
both_first t t' s = earlier (t s) (t' s)

lasts-first : (o : Option Action) (a a' b b' m n : ℕ) → IsEarlierOf a a' m → IsEarlierOf b b' n → IsSomeAnd o (λ x. (a + x.least ≤ b) × (b ≤ a + x.most)) → IsSomeAnd o (λ x. (a' + x.least ≤ b') × (b' ≤ a' + x.most))
    → IsSomeAnd o (λ x. (m + x.least ≤ n) × (n ≤ m + x.most))
lasts-first None a a' b b' m n e f one other = one
lasts-first (Some x) a a' b b' m n e f one other =
    let e1 = e.first in let e2 = e.second in let f1 = f.first in let f2 = f.second in (
      elim f.one [
        | inl is ↦ omega (arith, one.0, is)
        | inr is ↦ omega (arith, other.0, is)
      ],
      elim e.one [
        | inl is ↦ omega (arith, one.1, is)
        | inr is ↦ omega (arith, other.1, is)
      ],
    )

both-pairs : {X : Type 0} (R Q S : X → X → Type 0) (xs : List X) → AllPairs R xs → AllPairs Q xs → ((x y : X) → R x y → Q x y → S x y) → AllPairs S xs
both-pairs R Q S [] r q h = AllPairs-nil S
both-pairs R Q S (x ∷ xs) r q h =
    AllPairs-cons S x xs (λ k d within. h x _ (AllPairs-head R x xs r k d within) (AllPairs-head Q x xs q k d within)) (both-pairs R Q S xs (AllPairs-tail R x xs r) (AllPairs-tail Q x xs q) h)

-- more releases fix more points
fixed-more : (front : Bool) (released count i : ℕ) → (front || (nat_lt 0 released && nat_le i released)) ≡ true → (front || (nat_lt 0 (released + count) && nat_le i (released + count))) ≡ true
fixed-more front released count i e = grind (arith, nat_tests)

fixed-below : (front : Bool) (released i : ℕ) → i < released → (front || (nat_lt 0 released && nat_le i released)) ≡ true
fixed-below true released i h = refl
fixed-below false released i h = grind (arith, nat_tests)

module _ (machine : Machine) (now to : ℕ) (plans : List Plan) (later : now ≤ to) (can : CanPlanOn machine now plans) (can' : CanPlanOn machine to (released_until machine to plans)) where
  abbrev release : Plan → Plan
  release p = release_until (to + machine.lead) p

  slots-same : (r : ℕ) (ps : List Plan) → slots machine r (map release ps) ≡ slots machine r ps
  slots-same r [] = refl
  slots-same r (p ∷ ps) = flat_map-cons (slots_of machine r) (release p) (map release ps) ∙ ap (λ xs. slots_of machine r p ++ xs) (slots-same r ps) ∙ sym (flat_map-cons (slots_of machine r) p ps)

  point-same : (copy : SheetId) (i : ℕ) (ps : List Plan) → point_in (plan_of copy (map release ps)) i ≡ point_in (plan_of copy ps) i
  point-same copy i [] = refl
  point-same copy i (p ∷ ps) = go (is_same_copy p.sheet copy) (point-same copy i ps) where
    go : (b : Bool) → point_in (plan_of copy (map release ps)) i ≡ point_in (plan_of copy ps) i
        → point_in (cond b (Some (release p)) (plan_of copy (map release ps))) i ≡ point_in (cond b (Some p) (plan_of copy ps)) i
    go true same = refl
    go false same = same

  ticks-same : (s : Spot) → ticks_of (map release plans) s ≡ ticks_of plans s
  ticks-same (kept copy i) = point-same copy i plans
  ticks-same (own n) = refl

  order-same : (r : ℕ) → slot_order machine (map release plans) r ≡ slot_order machine plans r
  order-same r = λ k. by_begin (λ s. ticks-same s k) (slots-same r plans k)

  itself : IsRetimed machine now none_exempt plans plans
  itself = record {
    legal = can.legal;
    same = refl;
    fixed = λ p p' in' is i fixed le. ap (λ q. point q i) (sym (same_Some p p' (sym (plan_of-itself plans p can.legal.in_order in') ∙ is)));
    orders = λ r. refl;
    floors = can.floors;
    horizon = can.horizon;
  }

  module _ (other : List Plan) (re : IsRetimed machine to none_exempt (map release plans) other) where
    abbrev t : Ticks
    t = ticks_of plans

    abbrev t' : Ticks
    t' = ticks_of other

    abbrev m : Ticks
    m = both_first t t'

    m-is : (s : Spot) → IsEarlierOf (t s) (t' s) (m s)
    m-is s = earlier-is (t s) (t' s)

    was : KeepsTimes machine now none_exempt plans t × KeepsOrders machine plans t
    was = retimed_ticks machine now none_exempt plans plans can.legal (λ p points. refl) itself

    will : KeepsTimes machine to none_exempt (map release plans) t' × KeepsOrders machine (map release plans) t'
    will = retimed_ticks machine to none_exempt (map release plans) other can'.legal (λ p points. refl) re

    there : (p : Plan) → Contains plans p → Contains (map release plans) (release p)
    there p in' = Contains-map release plans p in'

    ends : (p q : Plan) → Contains plans p → Contains plans q → is_before p.sheet q.sheet ≡ true → EndsBeforeAt m p q
    ends p q in-p in-q before tray to-p to-q =
        let one = ordered_pair (EndsBeforeAt t) plans p q can.legal.in_order was.0.rise in-p in-q before tray to-p to-q in
        let two = ordered_pair (EndsBeforeAt t') (map release plans) (release p) (release q) can'.legal.in_order will.0.rise (there p in-p) (there q in-q) before tray to-p to-q in
        let e = m-is (kept p.sheet (length p.acts)) in
        let f = m-is (kept q.sheet (length q.acts)) in
        elim f.one [
          | inl is ↦ omega (arith, e.first, one, is)
          | inr is ↦ omega (arith, e.second, two, is)
        ]

    keeps : KeepsTimes machine now none_exempt plans m
    keeps = record {
      lasts = λ p in' i act is. lasts-first (action_at machine act.0) (t (kept p.sheet i)) (t' (kept p.sheet i)) (t (kept p.sheet (suc i))) (t' (kept p.sheet (suc i))) (m (kept p.sheet i)) (m (kept p.sheet (suc i)))
          (m-is (kept p.sheet i)) (m-is (kept p.sheet (suc i))) (was.0.lasts p in' i act is) (will.0.lasts (release p) (there p in') i act is);
      fixed = λ p in' i fixed le.
          let one = was.0.fixed p in' i fixed le in
          let two : t' (kept p.sheet i) ≡ point p i = will.0.fixed (release p) (there p in') i (fixed-more (is_front p.kind) p.released (length (due_until (to + machine.lead) p)) i fixed) le in
          let e = m-is (kept p.sheet i) in
          elim e.one [
            | inl is ↦ is ∙ one
            | inr is ↦ is ∙ two
          ];
      floors = λ p in' free i unreleased within. floor p in' i unreleased within;
      horizon = λ p in' i le free. let high = was.0.horizon p in' i le free in let e = (m-is (kept p.sheet i)).first in omega (arith, high, e);
      rise = AllPairs-each (λ p q. IsTrue (is_before p.sheet q.sheet)) (EndsBeforeAt m) plans can.legal.in_order ends;
    } where
      floor : (p : Plan) → Contains plans p → (i : ℕ) → p.released ≤ i → i < length p.acts → now + machine.lead < m (kept p.sheet i)
      floor p in' i unreleased within =
          let one : now + machine.lead < t (kept p.sheet i) = was.0.floors p in' refl i unreleased within in
          let e = m-is (kept p.sheet i) in
          go (nat_lt i (release p).released) refl one where
            go : (b : Bool) → nat_lt i (release p).released ≡ b → now + machine.lead < t (kept p.sheet i) → now + machine.lead < m (kept p.sheet i)
            go true f one =
                let below : i < (release p).released = grind (arith, nat_tests) in
                let fixed : t' (kept p.sheet i) ≡ point p i = will.0.fixed (release p) (there p in') i (fixed-below (is_front p.kind) (release p).released i below) (omega (arith, within)) in
                let here : t (kept p.sheet i) ≡ point p i = rw (plan_of-itself plans p can.legal.in_order in') refl in
                elim (m-is (kept p.sheet i)).one [
                  | inl is ↦ omega (arith, one, is)
                  | inr is ↦ omega (arith, one, is, fixed, here)
                ]
            go false f one =
                let above : (release p).released ≤ i = grind (arith, nat_tests) in
                let two : to + machine.lead < t' (kept p.sheet i) = will.0.floors (release p) (there p in') refl i above within in
                elim (m-is (kept p.sheet i)).one [
                  | inl is ↦ omega (arith, one, is)
                  | inr is ↦ omega (arith, two, is, later)
                ]

    apart : (gap : ℕ) (x y : Slot) → IsApart gap t x y → IsApart gap t' x y → IsApart gap m x y
    apart gap x y one two = go x.rule.end y.rule.begin one two where
      pair : (f f' g g' h k : ℕ) → IsEarlierOf f f' h → IsEarlierOf g g' k → ((pos f +ℤ x.rule.end_off) +ℤ pos (gap_between gap x.rule y.rule)) ≤ℤ (pos g +ℤ y.rule.begin_off) → ((pos f' +ℤ x.rule.end_off) +ℤ pos (gap_between gap x.rule y.rule)) ≤ℤ (pos g' +ℤ y.rule.begin_off)
          → ((pos h +ℤ x.rule.end_off) +ℤ pos (gap_between gap x.rule y.rule)) ≤ℤ (pos k +ℤ y.rule.begin_off)
      pair f f' g g' h k e d one two = let a = e.first in let b = e.second in elim d.one [
        | inl is ↦ omega (arith, ints, a, one, is)
        | inr is ↦ omega (arith, ints, b, two, is)
      ]

      go : (a b : Anchor) → ((pos (tick_of a (t x.from) (t x.to)) +ℤ x.rule.end_off) +ℤ pos (gap_between gap x.rule y.rule)) ≤ℤ (pos (tick_of b (t y.from) (t y.to)) +ℤ y.rule.begin_off)
          → ((pos (tick_of a (t' x.from) (t' x.to)) +ℤ x.rule.end_off) +ℤ pos (gap_between gap x.rule y.rule)) ≤ℤ (pos (tick_of b (t' y.from) (t' y.to)) +ℤ y.rule.begin_off)
          → ((pos (tick_of a (m x.from) (m x.to)) +ℤ x.rule.end_off) +ℤ pos (gap_between gap x.rule y.rule)) ≤ℤ (pos (tick_of b (m y.from) (m y.to)) +ℤ y.rule.begin_off)
      go Start Start one two = pair _ _ _ _ _ _ (m-is x.from) (m-is y.from) one two
      go Start End one two = pair _ _ _ _ _ _ (m-is x.from) (m-is y.to) one two
      go End Start one two = pair _ _ _ _ _ _ (m-is x.to) (m-is y.from) one two
      go End End one two = pair _ _ _ _ _ _ (m-is x.to) (m-is y.to) one two

    in-order : KeepsOrders machine plans m
    in-order r = both-pairs (IsApart (gap_at machine r) t) (IsApart (gap_at machine r) t') (IsApart (gap_at machine r) m) (slot_order machine plans r) (was.1 r) (subst (AllPairs (IsApart (gap_at machine r) t')) (order-same r) (will.1 r)) (apart (gap_at machine r))

    earliest-first : IsLeast machine now none_exempt plans → (p : Plan) → Contains plans p → (i : ℕ) → i ≤ length p.acts → point p i ≤ t' (kept p.sheet i)
    earliest-first least p in' i le =
        let new = ticks_retime machine now none_exempt plans m can.legal (λ p points. refl) keeps in-order in
        let found : plan_of p.sheet (map (timed_by m) plans) ≡ Some (timed_by m p) = plan_of-itself (map (timed_by m) plans) (timed_by m p) new.legal.in_order (Contains-map (timed_by m) plans p in') in
        let at : ticks_of (map (timed_by m) plans) (kept p.sheet i) ≡ m (kept p.sheet i) = rw found (point-timed_by m p i le) in
        let low = least (map (timed_by m) plans) new p in' i le in
        let e = (m-is (kept p.sheet i)).second in
        omega (arith, low, at, e)

  pub least-clock : IsLeast machine now none_exempt plans → IsLeast machine to none_exempt (released_until machine to plans)
  least-clock least other re q in' i le =
      let c = Contains-map_from release plans q in' in
      subst (λ r. point r i ≤ ticks_of other (kept r.sheet i)) (sym c.2) (earliest-first other re least c.0 c.1 i (subst (λ r. i ≤ length r.acts) c.2 le))

-- what is still live after the move is least
pub least-moved : (machine : Machine) (now to : ℕ) (plans : List Plan) → clock_refusal now to ≡ None → CanPlanOn machine now plans
    → IsLeast machine now none_exempt plans → IsLeast machine to none_exempt (live_at machine to (released_until machine to plans))
least-moved machine now to plans accepted before least =
    let range = accepted-clock now to accepted in
    let after = CanPlanOn-clock machine now to plans range.0 range.1 before in
    let whole = least-clock machine now to plans range.0 before after least in
    let new = released_until machine to plans in
    subst (IsLeast machine to none_exempt) (both-parts machine to (gone_at machine to new) new (gone-is machine to new after.legal.in_order)).0
    (live_is_least machine to none_exempt new (gone_at machine to new) (may-forget machine to new after.legal after.floors) (λ p points. refl) (λ p in' e. absurd (cc)) whole)
