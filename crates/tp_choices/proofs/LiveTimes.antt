-- Schedules that differ in ticks alone, and least ones, of the whole schedule and of its live part. What is forgotten has
-- fixed points alone, so it is nowhere later.
use Rattle.std.proofs.Common.{◌≡◌, ◌⊎◌, inl, inr, ℕ, suc, ◌≤◌, ◌<◌, Bool, true, false, not, List, [], map, length, filter, refl, ap, sym, arith, Contains, AllPairs, ◌∙◌, subst, Some, IsTrue}
use Rattle.std.proofs.lemmas.List.Elements.{All-contains}
use Rattle.tp_machine.specs.declared.machine.Machine.{Machine}
use Rattle.tp_schedule.specs.declared.parts.Plan.{Plan}
use Rattle.tp_schedule.specs.declared.parts.SheetId.{SheetId}
use Rattle.tp_schedule.specs.Answers.{unmoved, IsRetimed, KeepsFixed}
use Rattle.tp_schedule.specs.Legality.{EndsBefore}
use Rattle.tp_schedule.specs.Plans.{plan_of, point, end_of_plan, is_before, is_delivered_to, IsTimedPlan, IsEarlier}
use Rattle.tp_schedule.specs.Spots.{Slot, slots, slots_of, slot_order, ticks_of}
use Rattle.tp_schedule.specs.Spots.Spot.{kept}
use Rattle.tp_schedule.proofs.CopyFacts.{plan_of-itself, before-asym}
use Rattle.tp_schedule.proofs.Membership.{Contains-filter, Contains-filter_from, All-from_contains}
use Rattle.tp_schedule.proofs.Pairs.{AllPairs-map}
use Rattle.tp_choices.specs.LiveParts.{less, only, MayForget, HaveReleased, LiveRetimes, WholeIsLeast}
use Rattle.tp_choices.specs.Retimings.{IgnoresPoints}
use Rattle.tp_choices.proofs.Lists.{filter-all}
use Rattle.tp_choices.proofs.LiveOrders.{others_of, IsOld, IsAhead, Joins, joined-legal, joined-orders}
use Rattle.tp_choices.proofs.LiveSlots.{slots-in, classify}
use Rattle.tp_choices.proofs.Parts.{parts-equal}
use Rattle.tp_choices.proofs.PointFacts.{point-le, fixed-by, past-fixed, past-released, end-cases}
use Rattle.tp_choices.proofs.PastFacts.{past_points}
use Rattle.tp_choices.proofs.PlansLeft.{plan_of-staying, ticks-staying, unmoved-staying}
use Rattle.tp_choices.proofs.Unmoved.{ordered_pair, unmoved-found}
use Rattle.tp_choices.proofs.WholeAnswers.{whole_retimes}

filter-yes : {X : Type 0} (xs : List X) → filter (λ x. not false) xs ≡ xs
filter-yes xs = filter-all (λ x. not false) xs (All-from_contains (λ x. true ≡ true) xs (λ x in'. refl))

module _ (machine : Machine) (now : ℕ) (exempt : Plan → Bool) (plans new : List Plan) (gone : SheetId → Bool) (f : MayForget machine now plans gone) (only_shape : IgnoresPoints exempt) (have : HaveReleased exempt plans)
    (in_order : AllPairs IsEarlier new) (past_part : only gone new ≡ only gone plans) (r : IsRetimed machine now exempt (less gone plans) (less gone new)) where
  -- a plan of the live part, and the plan that it was
  record Was (p : Plan) : Type 0 where
    old : Plan
    in' : Contains plans old
    same : unmoved old ≡ unmoved p
    planned : plan_of old.sheet new ≡ Some p
    fixed : (i : ℕ) → i < old.released → (point p i ≡ point old i) × (point p (suc i) ≡ point old (suc i))
    ahead : (i : ℕ) → old.released ≤ i → i < length old.acts → (now < point p i) × (now < point old i)

  was : (p : Plan) → Contains (less gone new) p → Was p
  was p in-p =
      let found = unmoved-found (less gone plans) (less gone new) p (sym r.same) in-p in
      let in-plans = (Contains-filter_from (λ q. not (gone q.sheet)) plans found.0 found.1).0 in
      let in-new = (Contains-filter_from (λ q. not (gone q.sheet)) new p in-p).0 in
      let sheet : p.sheet ≡ found.0.sheet = sym (ap (λ (q : Plan). q.sheet) found.2) in
      let acts : length found.0.acts ≡ length p.acts = ap (λ (q : Plan). length q.acts) found.2 in
      let released : found.0.released ≡ p.released = ap (λ (q : Plan). q.released) found.2 in
      let one = All-contains (IsTimedPlan machine) plans found.0 f.legal.timed in-plans in
      let new-one = All-contains (IsTimedPlan machine) (less gone new) p r.legal.timed in-p in
      let live-is : plan_of found.0.sheet (less gone new) ≡ Some p = subst (λ c. plan_of c (less gone new) ≡ Some p) sheet (plan_of-itself (less gone new) p r.legal.in_order in-p) in
      let free-same : exempt found.0 ≡ exempt p = sym (only_shape found.0 []) ∙ ap exempt found.2 ∙ only_shape p [] in
      record {
        old = found.0;
        in' = in-plans;
        same = found.2;
        planned = subst (λ c. plan_of c new ≡ Some p) sheet (plan_of-itself new p in_order in-new);
        fixed = λ i less. (
          r.fixed found.0 p found.1 live-is i (fixed-by found.0 i (omega arith) (omega arith)) (let le = one.released in omega arith),
          r.fixed found.0 p found.1 live-is (suc i) (fixed-by found.0 (suc i) (omega arith) (omega arith)) (let le = one.released in omega arith),
        );
        ahead = λ i le within. (
          go found.0 in-plans found.1 live-is (exempt p) refl free-same acts released new-one i le within,
          f.ahead found.0 in-plans i le within,
        );
      } where
        go : (o : Plan) → Contains plans o → Contains (less gone plans) o → plan_of o.sheet (less gone new) ≡ Some p → (e : Bool) → exempt p ≡ e → exempt o ≡ exempt p → length o.acts ≡ length p.acts → o.released ≡ p.released → IsTimedPlan machine p → (i : ℕ) → o.released ≤ i → i < length o.acts → now < point p i
        go o in-o in-less live-is true e same acts released timed i le within =
            let some = have o in-o (same ∙ e) in
            let stands = r.fixed o p in-less live-is o.released (fixed-by o o.released some (omega arith)) (omega arith) in
            let ahead = f.ahead o in-o o.released (omega arith) (omega arith) in
            let rises = point-le machine p timed o.released i le (omega arith) in
            omega arith
        go o in-o in-less live-is false e same acts released timed i le within = let floor = r.floors p in-p e i (omega arith) (omega arith) in omega arith

  slots_are : (resource : ℕ) (s : Slot) → Contains (slots machine resource (less gone new)) s → IsOld machine plans new resource s ⊎ IsAhead machine now plans new resource s
  slots_are resource s in' =
      let from = slots-in machine resource (less gone new) s in' in
      let w = was from.0 from.1 in
      let acts : w.old.acts ≡ from.0.acts = ap (λ (q : Plan). q.acts) w.same in
      classify machine now plans new f.legal in_order resource w.old from.0 w.in' w.planned (All-contains (IsTimedPlan machine) (less gone new) from.0 r.legal.timed from.1)
      (λ i act at. rw (← acts) at) w.fixed w.ahead s (subst (λ xs. Contains xs s) (sym (ap (slots_of machine resource) w.same)) from.2)

  lines : (p q : Plan) → Contains new p → Contains new q → gone p.sheet ≡ false → gone q.sheet ≡ true → (tray : ℕ) → IsTrue (is_delivered_to p tray) → IsTrue (is_delivered_to q tray)
      → (is_before p.sheet q.sheet ≡ true → end_of_plan p < end_of_plan q) × (is_before q.sheet p.sheet ≡ true → end_of_plan q < end_of_plan p)
  lines p q in-p in-q stays-p gone-q tray to-p to-q =
      let in-live-p : Contains (less gone new) p = Contains-filter (λ r. not (gone r.sheet)) new p in-p (rw stays-p refl) in
      let in-plans : Contains plans q = (Contains-filter_from (λ r. gone r.sheet) plans q (subst (λ ps. Contains ps q) past_part (Contains-filter (λ r. gone r.sheet) new q in-q gone-q))).0 in
      let past : end_of_plan q ≤ now = past_points machine now q (f.past q in-plans gone-q) (length q.acts) in
      let w = was p in-live-p in
      let lengths : length p.acts ≡ length w.old.acts = sym (ap (λ (x : Plan). length x.acts) w.same) in
      let sheet : w.old.sheet ≡ p.sheet = ap (λ (x : Plan). x.sheet) w.same in
      let to-old : is_delivered_to w.old tray ≡ true = subst (λ (x : Plan). is_delivered_to x tray ≡ true) (sym w.same) to-p in
      let cases = end-cases machine now w.old p (All-contains (IsTimedPlan machine) plans w.old f.legal.timed w.in') (All-contains (IsTimedPlan machine) (less gone new) p r.legal.timed in-live-p) lengths w.fixed w.ahead in (
        λ before.
            let old-less = ordered_pair EndsBefore plans w.old q f.legal.in_order f.legal.rise w.in' in-plans (subst (λ c. is_before c q.sheet ≡ true) (sym sheet) before) tray to-old to-q in
            elim cases [ inl stands ↦ omega arith | inr ahead ↦ absurd (let later = ahead.1 in omega arith) ],
        λ before.
            let old-less = ordered_pair EndsBefore plans q w.old f.legal.in_order f.legal.rise in-plans w.in' (subst (λ c. is_before q.sheet c ≡ true) (sym sheet) before) tray to-q to-old in
            elim cases [ inl stands ↦ omega arith | inr ahead ↦ let later = ahead.0 in omega arith ],
      )

  joins : Joins machine now gone plans new (λ _. false)
  joins = record {
    legal = f.legal;
    past = f.past;
    in_order = in_order;
    same = past_part;
    legal_live = r.legal;
    orders_live = λ resource. filter-yes (slot_order machine (less gone new) resource) ∙ r.orders resource;
    gone_is_old = λ s e. refl;
    slots_are = slots_are;
    lines = lines;
  }

  new-cases : (p : Plan) → Contains new p → (Contains plans p × (gone p.sheet ≡ true)) ⊎ Contains (less gone new) p
  new-cases p in' = go (gone p.sheet) refl where
    go : (c : Bool) → gone p.sheet ≡ c → (Contains plans p × (gone p.sheet ≡ true)) ⊎ Contains (less gone new) p
    go true e = inl ((Contains-filter_from (λ x. gone x.sheet) plans p (subst (λ ps. Contains ps p) past_part (Contains-filter (λ x. gone x.sheet) new p in' e))).0, e)
    go false e = inr (Contains-filter (λ x. not (gone x.sheet)) new p in' (rw e refl))

  same-all : map unmoved new ≡ map unmoved plans
  same-all = parts-equal IsEarlier (λ p q before after. (let back = before-asym p.sheet q.sheet before in cc)) (λ p. gone p.sheet) (map unmoved new) (map unmoved plans) (in-order-of new in_order) (in-order-of plans f.legal.in_order)
      (sym (unmoved-staying gone new) ∙ ap (map unmoved) past_part ∙ unmoved-staying gone plans)
      (sym (unmoved-staying (others_of gone) new) ∙ r.same ∙ unmoved-staying (others_of gone) plans) where
        in-order-of : (ps : List Plan) → AllPairs IsEarlier ps → AllPairs IsEarlier (map unmoved ps)
        in-order-of ps order = AllPairs-map IsEarlier IsEarlier (λ _. Unit {0}) unmoved ps (λ k d within. tt) order (λ x y _ _ e. e)

  joined_retimed : IsRetimed machine now exempt plans new
  joined_retimed = record {
    legal = joined-legal machine now gone plans new (λ _. false) joins;
    same = same-all;
    fixed = fixed-all;
    orders = λ resource. sym (filter-yes (slot_order machine new resource)) ∙ joined-orders machine now gone plans new (λ _. false) joins resource;
    floors = λ p in' free i unreleased within. elim (new-cases p in') [
      | inl past ↦ absurd (let released = past-released machine now plans gone f p past.0 past.1 in omega arith)
      | inr live ↦ r.floors p live free i unreleased within
    ];
    horizon = λ p in' i within free. elim (new-cases p in') [
      | inl past ↦ absurd (let fixed = past-fixed machine now plans gone f p past.0 past.1 i within in cc)
      | inr live ↦ r.horizon p live i within free
    ];
  } where
    fixed-all : KeepsFixed plans new
    fixed-all p p' in' planned-p i is within = go (gone p.sheet) refl where
      go : (c : Bool) → gone p.sheet ≡ c → point p' i ≡ point p i
      go true e =
          let now-there : Contains new p = (Contains-filter_from (λ x. gone x.sheet) new p (subst (λ ps. Contains ps p) (sym past_part) (Contains-filter (λ x. gone x.sheet) plans p in' e))).0 in
          let itself = plan_of-itself new p in_order now-there in
          let same : p' ≡ p = let other = planned-p in cc in
          ap (λ x. point x i) same
      go false e = r.fixed p p' (Contains-filter (λ x. not (gone x.sheet)) plans p in' (rw e refl)) (plan_of-staying (others_of gone) p.sheet new (rw e refl) ∙ planned-p) i is within

pub live_retimes : LiveRetimes
live_retimes machine now exempt plans live new gone f only_shape have joined =
    subst (λ ps. IsRetimed machine now exempt (less gone plans) ps → IsRetimed machine now exempt plans new) joined.live_part
    (λ r. joined_retimed machine now exempt plans new gone f only_shape have joined.in_order joined.past_part r)

pub whole_is_least : WholeIsLeast
whole_is_least machine now exempt plans gone f least new r p in' i within = go (gone p.sheet) refl where
  go : (c : Bool) → gone p.sheet ≡ c → point p i ≤ ticks_of new (kept p.sheet i)
  go true e =
      let joined = (whole_retimes machine now exempt plans new gone f r).0 in
      let there : Contains new p = (Contains-filter_from (λ x. gone x.sheet) new p (subst (λ ps. Contains ps p) (sym joined.past_part) (Contains-filter (λ x. gone x.sheet) plans p in' e))).0 in
      let is = plan_of-itself new p r.legal.in_order there in
      rw is (omega arith)
  go false e =
      let live = (whole_retimes machine now exempt plans new gone f r).1 in
      let le = least (less gone new) live p (Contains-filter (λ x. not (gone x.sheet)) plans p in' (rw e refl)) i within in
      let same : ticks_of (less gone new) (kept p.sheet i) ≡ ticks_of new (kept p.sheet i) = ticks-staying (others_of gone) p.sheet new i (rw e refl) in
      rw (← same) le
