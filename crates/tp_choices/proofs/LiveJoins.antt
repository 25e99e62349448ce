-- From the live part to the whole schedule: old slots stand or lie ahead, those of the asked copy's new actions lie ahead,
-- and the trays keep their order. So the live part joins what is forgotten.
use Rattle.std.proofs.Common.{◌≡◌, ◌⊎◌, inl, inr, ℕ, suc, ◌+◌, ◌≤◌, ◌<◌, Bool, true, false, not, ◌&&◌, List, [], ◌∷◌, ◌++◌, length, filter, refl, ap, sym, arith, Contains, AllPairs, ◌∙◌, subst, Some, None, Option, IsTrue}
use Rattle.std.specs.Prelude.{nat_lt}
use Rattle.std.proofs.lemmas.Int.{ints}
use Rattle.std.proofs.lemmas.List.{length-append}
use Rattle.std.proofs.lemmas.List.Elements.{All-contains, Contains-append_cases}
use Rattle.tp_machine.specs.declared.parts.ActId.{ActId}
use Rattle.tp_machine.specs.declared.machine.Machine.{Machine}
use Rattle.tp_schedule.specs.declared.parts.Ask.{Ask}
use Rattle.tp_schedule.specs.declared.parts.Origin.{Origin}
use Rattle.tp_schedule.specs.declared.parts.Origin.TheVariants.{Feeder as FromFeeder, Front as FromFront}
use Rattle.tp_schedule.specs.declared.parts.Plan.{Plan}
use Rattle.tp_schedule.specs.declared.parts.SheetId.{SheetId}
use Rattle.tp_schedule.specs.Answers.{unmoved, acts_in, kept_acts, kept_of, kept_from, follows_front, is_new, is_new_spot, IsAlternative, IsAskedFrom}
use Rattle.tp_schedule.specs.Legality.{EndsBefore}
use Rattle.tp_schedule.specs.Plans.{plan_of, without, point, end_of_plan, is_same_copy, is_before, is_front, is_delivered_to, goes_to, IsTimedPlan, IsEarlier}
use Rattle.tp_schedule.specs.Spots.{Spot, Slot, slots, slots_of, slots_from}
use Rattle.tp_schedule.specs.Spots.Spot.{kept, own}
use Rattle.tp_schedule.proofs.CopyFacts.{plan_of-itself, same_copy-is, before-asym}
use Rattle.tp_schedule.proofs.Membership.{Contains-filter, Contains-filter_from}
use Rattle.tp_choices.specs.LiveParts.{less, only, MayForget, MayAskBeside, EndsAhead}
use Rattle.tp_choices.proofs.AskedFront.{IsKept, kept-by}
use Rattle.tp_choices.proofs.LiveOrders.{others_of, IsOld, IsAhead, Joins}
use Rattle.tp_choices.proofs.LiveSlots.{IsSlotOf, slot_of, slot_from, same_number_at, same_copy_at, slots-in, classify, slot-within, slot-after}
use Rattle.tp_choices.proofs.OwnSlots.{slots_from-append}
use Rattle.tp_choices.proofs.PlansOf.{plan_of-contains}
use Rattle.tp_choices.proofs.PointFacts.{point-le, fixed-by, end-cases}
use Rattle.tp_choices.proofs.PastFacts.{past_points}
use Rattle.tp_choices.proofs.PlansLeft.{staying, on_copy, plan_of-staying}
use Rattle.tp_choices.proofs.Unmoved.{ordered_pair, unmoved-found}
use Rattle.tp_choices.proofs.Lists.{slice_get-left}

module _ (machine : Machine) (plans new : List Plan) (ask : Ask) (gone : SheetId → Bool) (f : MayForget machine ask.now plans gone) (b : MayAskBeside machine plans ask gone)
    (in_order : AllPairs IsEarlier new) (past_part : only gone new ≡ only gone plans) (a : IsAlternative machine (less gone plans) ask (less gone new)) where
  asked-stays : not (gone ask.sheet) ≡ true
  asked-stays = rw b.stays refl

  -- the asked copy's plan is the one of the live part
  pub planned : plan_of ask.sheet new ≡ Some a.plan
  planned = sym (plan_of-staying (others_of gone) ask.sheet new asked-stays) ∙ a.planned

  in-live : Contains (less gone new) a.plan × (is_same_copy a.plan.sheet ask.sheet ≡ true)
  in-live = plan_of-contains ask.sheet (less gone new) a.plan a.planned

  asked-timed : IsTimedPlan machine a.plan
  asked-timed = All-contains (IsTimedPlan machine) (less gone new) a.plan a.legal.timed in-live.0

  is_kept : IsKept machine plans ask
  is_kept = kept-by machine plans ask b.asked

  -- its actions are the kept ones and the route
  pub acts-are : a.plan.acts ≡ kept_acts ask.sheet plans ++ a.answers.route
  acts-are = a.answers.acts ∙ ap (λ o. acts_in o ++ a.answers.route) (plan_of-staying (others_of gone) ask.sheet plans asked-stays)

  total : length a.plan.acts ≡ kept_of ask + length a.answers.route
  total = ap length acts-are ∙ length-append (kept_acts ask.sheet plans) a.answers.route ∙ ap (λ n. n + length a.answers.route) is_kept.count

  -- the plan that the whole schedule has for a plan of the live part
  live-planned : (p : Plan) → Contains (less gone new) p → plan_of p.sheet new ≡ Some p
  live-planned p in' = plan_of-itself new p in_order (Contains-filter_from (λ q. not (gone q.sheet)) new p in').0

  -- the asked copy's new actions start after the moment
  fresh-ahead : (i : ℕ) → kept_of ask ≤ i → i < length a.plan.acts → ask.now < point a.plan i
  fresh-ahead i le within = go ask.origin refl b.asked b.ends_ahead where
    go : (o : Origin) → ask.origin ≡ o → IsAskedFrom machine plans ask o → EndsAhead ask.now o → ask.now < point a.plan i
    go FromFeeder e none ahead =
        let kept-none : kept_of ask ≡ 0 = ap kept_from e in
        let free : follows_front ask a.plan ≡ false = rw (in-live.1, kept-none) refl in
        let floor = a.floors a.plan in-live.0 free i (omega (arith, a.answers.released, kept-none)) within in
        omega arith
    go (FromFront state end count) e (p, is, front) ahead =
        let kept-is : kept_of ask ≡ count = ap kept_from e in
        let in-plans = plan_of-contains ask.sheet plans p is in
        let same : p.sheet ≡ ask.sheet = same_copy-is p.sheet ask.sheet in-plans.1 in
        let in-less : Contains (less gone plans) p = Contains-filter (λ q. not (gone q.sheet)) plans p in-plans.0 (subst (λ c. not (gone c) ≡ true) (sym same) asked-stays) in
        let stands : point a.plan count ≡ point p count = a.fixed p a.plan in-less (subst (λ c. plan_of c (less gone new) ≡ Some a.plan) (sym same) a.planned) count (rw front.front refl) (omega (arith, front.acts)) in
        let ends : point p count ≡ end = ap (point p) (sym front.acts) ∙ front.ends in
        let rises = point-le machine a.plan asked-timed count i (omega arith) (omega arith) in
        omega (arith, ahead, stands, ends)

  -- another plan of the live part, and the plan that it was
  record Was (p : Plan) : Type 0 where
    old : Plan
    in' : Contains plans old
    in-less : Contains (less gone plans) old
    same : unmoved old ≡ unmoved p
    planned : plan_of old.sheet new ≡ Some p
    fixed : (i : ℕ) → i < old.released → (point p i ≡ point old i) × (point p (suc i) ≡ point old (suc i))
    ahead : (i : ℕ) → old.released ≤ i → i < length old.acts → (ask.now < point p i) × (ask.now < point old i)

  was : (p : Plan) → Contains (less gone new) p → is_same_copy p.sheet ask.sheet ≡ false → Was p
  was p in' e =
      let found = unmoved-found (without ask.sheet (less gone plans)) (without ask.sheet (less gone new)) p (sym a.others) (Contains-filter (λ q. not (is_same_copy q.sheet ask.sheet)) (less gone new) p in' (rw e refl)) in
      let in-less = (Contains-filter_from (λ q. not (is_same_copy q.sheet ask.sheet)) (less gone plans) found.0 found.1).0 in
      let in-plans = (Contains-filter_from (λ q. not (gone q.sheet)) plans found.0 in-less).0 in
      let sheet : p.sheet ≡ found.0.sheet = sym (ap (λ (q : Plan). q.sheet) found.2) in
      let acts : length found.0.acts ≡ length p.acts = ap (λ (q : Plan). length q.acts) found.2 in
      let released : found.0.released ≡ p.released = ap (λ (q : Plan). q.released) found.2 in
      let one = All-contains (IsTimedPlan machine) plans found.0 f.legal.timed in-plans in
      let live-is : plan_of found.0.sheet (less gone new) ≡ Some p = subst (λ c. plan_of c (less gone new) ≡ Some p) sheet (plan_of-itself (less gone new) p a.legal.in_order in') in
      record {
        old = found.0;
        in' = in-plans;
        in-less = in-less;
        same = found.2;
        planned = subst (λ c. plan_of c new ≡ Some p) sheet (live-planned p in');
        fixed = λ i less. (
          a.fixed found.0 p in-less live-is i (fixed-by found.0 i (omega arith) (omega arith)) (let le = one.released in omega arith),
          a.fixed found.0 p in-less live-is (suc i) (fixed-by found.0 (suc i) (omega arith) (omega arith)) (let le = one.released in omega arith),
        );
        ahead = λ i le within. (
          let floor = a.floors p in' (rw e refl) i (omega (arith, released)) (omega (arith, acts)) in omega arith,
          f.ahead found.0 in-plans i le within,
        );
      }

  slots_are : (resource : ℕ) (s : Slot) → Contains (slots machine resource (less gone new)) s → IsOld machine plans new resource s ⊎ IsAhead machine ask.now plans new resource s
  slots_are resource s in' =
      let from = slots-in machine resource (less gone new) s in' in
      go from.0 from.1 from.2 (is_same_copy from.0.sheet ask.sheet) refl where
        other : (p : Plan) → Contains (less gone new) p → Contains (slots_of machine resource p) s → is_same_copy p.sheet ask.sheet ≡ false → IsOld machine plans new resource s ⊎ IsAhead machine ask.now plans new resource s
        other p in-p here e =
            let w = was p in-p e in
            let acts : w.old.acts ≡ p.acts = ap (λ (q : Plan). q.acts) w.same in
            classify machine ask.now plans new f.legal in_order resource w.old p w.in' w.planned (All-contains (IsTimedPlan machine) (less gone new) p a.legal.timed in-p)
            (λ i act at. rw (← acts) at) w.fixed w.ahead s (subst (λ xs. Contains xs s) (sym (ap (slots_of machine resource) w.same)) here)

        of-front : Contains (slots_from machine resource ask.sheet 0 (kept_acts ask.sheet plans)) s → IsOld machine plans new resource s ⊎ IsAhead machine ask.now plans new resource s
        of-front here = pick (plan_of ask.sheet plans) refl where
          pick : (o : Option Plan) → plan_of ask.sheet plans ≡ o → IsOld machine plans new resource s ⊎ IsAhead machine ask.now plans new resource s
          pick None e = let none : kept_acts ask.sheet plans ≡ [] = ap acts_in e in let empty : Contains (slots_from machine resource ask.sheet 0 []) s = subst (λ acts. Contains (slots_from machine resource ask.sheet 0 acts) s) none here in absurd (omega (arith, empty.0, empty.1))
          pick (Some p) e =
              let in-plans = plan_of-contains ask.sheet plans p e in
              let same : p.sheet ≡ ask.sheet = same_copy-is p.sheet ask.sheet in-plans.1 in
              let in-less : Contains (less gone plans) p = Contains-filter (λ q. not (gone q.sheet)) plans p in-plans.0 (subst (λ c. not (gone c) ≡ true) (sym same) asked-stays) in
              let planned-p : plan_of p.sheet new ≡ Some a.plan = subst (λ c. plan_of c new ≡ Some a.plan) (sym same) planned in
              let live-p : plan_of p.sheet (less gone new) ≡ Some a.plan = subst (λ c. plan_of c (less gone new) ≡ Some a.plan) (sym same) a.planned in
              let front = is_kept.front p e in
              let here-p : Contains (slots_of machine resource p) s = subst (λ c. Contains (slots_from machine resource c 0 p.acts) s) (sym same) (subst (λ acts. Contains (slots_from machine resource ask.sheet 0 acts) s) (ap acts_in e) here) in
              classify machine ask.now plans new f.legal in_order resource p a.plan in-plans.0 planned-p asked-timed
              (λ i act at. rw acts-are (rw e (slice_get-left p.acts a.answers.route i act at)))
              (λ i less. (
                a.fixed p a.plan in-less live-p i (rw front.0 refl) (let lengths = front.1 in let released = front.2 in omega arith),
                a.fixed p a.plan in-less live-p (suc i) (rw front.0 refl) (let lengths = front.1 in let released = front.2 in omega arith),
              ))
              (λ i le within. absurd (let lengths = front.1 in let released = front.2 in omega arith)) s here-p

        of-route : Contains (slots_from machine resource ask.sheet (length (kept_acts ask.sheet plans)) a.answers.route) s → Contains (slots_of machine resource a.plan) s → IsAhead machine ask.now plans new resource s
        of-route here all =
            let of = slot_of machine resource a.plan s all in
            let from = slot_from machine resource ask.sheet (length (kept_acts ask.sheet plans)) a.answers.route s here in
            let index : of.i ≡ length (kept_acts ask.sheet plans) + from.0 = same_number_at a.plan.sheet ask.sheet of.i (length (kept_acts ask.sheet plans) + from.0) (sym of.from ∙ from.1) in
            let le : kept_of ask ≤ of.i = let counted = is_kept.count in omega arith in
            let after = slot-after machine new a.plan s of a.plan (live-planned a.plan in-live.0) of.at asked-timed in
            let ahead = fresh-ahead of.i le (slot-within machine a.plan s of) in
            record { now_ahead = omega (arith, ints); was_ahead = λ in-old. absurd (never of le in-old) } where
              never : (of : IsSlotOf machine a.plan s) → kept_of ask ≤ of.i → Contains (slots machine resource plans) s → ⊥
              never of le in-old =
                  let q = slots-in machine resource plans s in-old in
                  let of-q = slot_of machine resource q.0 s q.2 in
                  let sheet : q.0.sheet ≡ ask.sheet = same_copy_at q.0.sheet a.plan.sheet of-q.i of.i (sym of-q.from ∙ of.from) ∙ a.answers.sheet in
                  let index : of-q.i ≡ of.i = same_number_at q.0.sheet a.plan.sheet of-q.i of.i (sym of-q.from ∙ of.from) in
                  let front = is_kept.front q.0 (subst (λ c. plan_of c plans ≡ Some q.0) sheet (plan_of-itself plans q.0 f.legal.in_order q.1)) in
                  let within = slot-within machine q.0 s of-q in
                  let lengths = front.1 in
                  omega arith

        go : (p : Plan) → Contains (less gone new) p → Contains (slots_of machine resource p) s → (c : Bool) → is_same_copy p.sheet ask.sheet ≡ c → IsOld machine plans new resource s ⊎ IsAhead machine ask.now plans new resource s
        go p in-p here false e = other p in-p here e
        go p in-p here true e =
            let sheet : p.sheet ≡ ask.sheet = same_copy-is p.sheet ask.sheet e in
            let itself : plan_of ask.sheet (less gone new) ≡ Some p = subst (λ c. plan_of c (less gone new) ≡ Some p) sheet (plan_of-itself (less gone new) p a.legal.in_order in-p) in
            let is : p ≡ a.plan = let other = a.planned in cc in
            let here' : Contains (slots_of machine resource a.plan) s = subst (λ q. Contains (slots_of machine resource q) s) is here in
            let all : Contains (slots_from machine resource ask.sheet 0 (kept_acts ask.sheet plans ++ a.answers.route)) s = subst (λ acts. Contains (slots_from machine resource ask.sheet 0 acts) s) acts-are (subst (λ c. Contains (slots_from machine resource c 0 a.plan.acts) s) a.answers.sheet here') in
            elim (Contains-append_cases (slots_from machine resource ask.sheet 0 (kept_acts ask.sheet plans)) (slots_from machine resource ask.sheet (length (kept_acts ask.sheet plans)) a.answers.route) s
            (subst (λ xs. Contains xs s) (slots_from-append machine resource ask.sheet 0 (kept_acts ask.sheet plans) a.answers.route ∙ ap (λ n. slots_from machine resource ask.sheet 0 (kept_acts ask.sheet plans) ++ slots_from machine resource ask.sheet n a.answers.route) (let zero-add : 0 + length (kept_acts ask.sheet plans) ≡ length (kept_acts ask.sheet plans) = omega arith in zero-add)) all)) [
              | inl old ↦ of-front old
              | inr fresh ↦ inr (of-route fresh here')
            ]

  -- the ends of plans to one tray, one of which is forgotten
  lines : (p q : Plan) → Contains new p → Contains new q → gone p.sheet ≡ false → gone q.sheet ≡ true → (tray : ℕ) → IsTrue (is_delivered_to p tray) → IsTrue (is_delivered_to q tray)
      → (is_before p.sheet q.sheet ≡ true → end_of_plan p < end_of_plan q) × (is_before q.sheet p.sheet ≡ true → end_of_plan q < end_of_plan p)
  lines p q in-p in-q stays-p gone-q tray to-p to-q = go (is_same_copy p.sheet ask.sheet) refl where
    in-live-p : Contains (less gone new) p
    in-live-p = Contains-filter (λ r. not (gone r.sheet)) new p in-p (rw stays-p refl)

    in-plans : Contains plans q
    in-plans = (Contains-filter_from (λ r. gone r.sheet) plans q (subst (λ ps. Contains ps q) past_part (Contains-filter (λ r. gone r.sheet) new q in-q gone-q))).0

    ended : end_of_plan q ≤ ask.now
    ended = past_points machine ask.now q (f.past q in-plans gone-q) (length q.acts)

    go : (c : Bool) → is_same_copy p.sheet ask.sheet ≡ c → (is_before p.sheet q.sheet ≡ true → end_of_plan p < end_of_plan q) × (is_before q.sheet p.sheet ≡ true → end_of_plan q < end_of_plan p)
    go true e =
        let sheet : p.sheet ≡ ask.sheet = same_copy-is p.sheet ask.sheet e in
        let itself : plan_of ask.sheet (less gone new) ≡ Some p = subst (λ c. plan_of c (less gone new) ≡ Some p) sheet (plan_of-itself (less gone new) p a.legal.in_order in-live-p) in
        let is : p ≡ a.plan = let other = a.planned in cc in
        let to-asked : is_delivered_to a.plan tray ≡ true = subst (λ (r : Plan). is_delivered_to r tray ≡ true) is to-p in
        let goal : goes_to ask.goal tray ≡ true = subst (λ g. goes_to g tray ≡ true) a.answers.goal (second (not (is_front a.plan.kind)) (goes_to a.plan.goal tray) to-asked) in
        let earlier = b.earlier q in-plans gone-q tray goal to-q in (
          λ before. absurd (let back = before-asym p.sheet q.sheet before in let forth : is_before q.sheet p.sheet ≡ true = subst (λ c. is_before q.sheet c ≡ true) (sym sheet) earlier in cc),
          λ before. subst (λ (r : Plan). end_of_plan q < end_of_plan r) (sym is) ends-ahead,
        ) where
          second : (x y : Bool) → (x && y) ≡ true → y ≡ true
          second true y e' = e'
          second false y e' = absurd (cc)

          some-route : 0 < length a.answers.route
          some-route = pick a.answers.route a.answers.is_route.some where
            pick : (r : List ActId) → (r ≡ [] → ⊥) → 0 < length r
            pick [] no_none = absurd (no_none refl)
            pick (x ∷ r) no_none = omega arith

          ends-ahead : end_of_plan q < end_of_plan a.plan
          ends-ahead =
              let route = some-route in
              let all = total in
              let ahead = fresh-ahead (kept_of ask) (omega arith) (omega arith) in
              let rises = point-le machine a.plan asked-timed (kept_of ask) (length a.plan.acts) (omega arith) (omega arith) in
              let past = ended in
              omega arith
    go false e =
        let w = was p in-live-p e in
        let lengths : length p.acts ≡ length w.old.acts = sym (ap (λ (r : Plan). length r.acts) w.same) in
        let sheet : w.old.sheet ≡ p.sheet = ap (λ (r : Plan). r.sheet) w.same in
        let to-old : is_delivered_to w.old tray ≡ true = subst (λ (r : Plan). is_delivered_to r tray ≡ true) (sym w.same) to-p in
        let cases = end-cases machine ask.now w.old p (All-contains (IsTimedPlan machine) plans w.old f.legal.timed w.in') (All-contains (IsTimedPlan machine) (less gone new) p a.legal.timed in-live-p) lengths w.fixed w.ahead in
        let past = ended in (
          λ before.
              let old-less = ordered_pair EndsBefore plans w.old q f.legal.in_order f.legal.rise w.in' in-plans (subst (λ c. is_before c q.sheet ≡ true) (sym sheet) before) tray to-old to-q in
              elim cases [ inl stands ↦ omega arith | inr ahead ↦ absurd (let later = ahead.1 in omega arith) ],
          λ before.
              let old-less = ordered_pair EndsBefore plans q w.old f.legal.in_order f.legal.rise in-plans w.in' (subst (λ c. is_before q.sheet c ≡ true) (sym sheet) before) tray to-q to-old in
              elim cases [ inl stands ↦ omega arith | inr ahead ↦ let later = ahead.0 in omega arith ],
        )

  -- the live part of the new schedule joins what is forgotten
  pub joins : Joins machine ask.now gone plans new (is_new ask)
  joins = record {
    legal = f.legal;
    past = f.past;
    in_order = in_order;
    same = past_part;
    legal_live = a.legal;
    orders_live = a.orders;
    gone_is_old = λ s e. old s.to e;
    slots_are = slots_are;
    lines = lines;
  } where
    old : (x : Spot) → on_copy false gone x ≡ true → is_new_spot ask x ≡ false
    old (kept c i) e = pick (is_same_copy c ask.sheet) refl where
      pick : (d : Bool) → is_same_copy c ask.sheet ≡ d → (d && nat_lt (kept_of ask) i) ≡ false
      pick true same = let is = same_copy-is c ask.sheet same in let no : gone c ≡ false = subst (λ d. gone d ≡ false) (sym is) b.stays in absurd (cc)
      pick false same = refl
    old (own n) e = absurd (cc)
