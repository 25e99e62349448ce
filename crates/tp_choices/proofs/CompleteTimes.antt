-- Ticks of a complete list time the asked plan and all others. The schedule that they make keeps the order of copies, its
-- lines, what is fixed, the floors and the horizon.
use Rattle.std.proofs.Common.{◌≡◌, ◌⊎◌, inl, inr, ℕ, suc, ◌+◌, ◌-◌, ◌≤◌, ◌<◌, Bool, true, false, not, ◌&&◌, List, map, length, filter, refl, ap, sym, arith, Contains, All, AllPairs, ◌∙◌, subst, Some, slice_get, IsTrue, IsFalse, nat_le, nat_lt}
use Rattle.std.proofs.lemmas.Option.{slice_get_within}
use Rattle.std.proofs.lemmas.Bool.{cases_lt, le-leb, lt-leb}
use Rattle.std.proofs.lemmas.Bool.Decides.{nat_tests}
use Rattle.std.proofs.lemmas.List.{length-append, length-map}
use Rattle.std.proofs.lemmas.List.Elements.{All-contains}
use Rattle.std.proofs.lemmas.List.Kept.{AllPairs-filter}
use Rattle.tp_machine.specs.declared.parts.ActId.{ActId}
use Rattle.tp_machine.specs.declared.machine.Machine.{Machine}
use Rattle.tp_choices.proofs.CompletePlans.{ChoicesLast-at, ChoicesLast-rise, IsPrefix, IsTimedPlan-timed_by, point-timed_by}
use Rattle.tp_choices.proofs.Lists.{slice_get-append}
use Rattle.tp_machine.specs.Machines.{IsMachine}
use Rattle.tp_schedule.proofs.CopyFacts.{InOrder, plan_of-itself, same_copy-is, same_copy-refl, NotOf}
use Rattle.tp_schedule.proofs.Membership.{All-from_contains, Contains-map_from, Contains-map, Contains-filter_from, Contains-filter}
use Rattle.tp_schedule.proofs.Pairs.{AllPairs-map, AllPairs-each}
use Rattle.tp_schedule.proofs.PlanOrder.{AllPairs-put_plan, InOrder-put_plan, Contains-put_plan_cases, Contains-put_plan, Contains-put_plan_other, All-without}
use Rattle.tp_schedule.specs.Answers.{kept_of, kept_acts, KeepsFixed, KeepsFloors, KeepsHorizon, follows_front}
use Rattle.tp_schedule.specs.Choices.{ChoiceList, acts_of, HasTimes, IsChoiceList}
use Rattle.tp_schedule.specs.Completions.{settled_ticks, total_of, asked_plan, answered}
use Rattle.tp_schedule.specs.Legality.{IsLegal, EndsBefore}
use Rattle.tp_schedule.specs.Plans.{plan_of, without, put_plan, is_same_copy, is_before, IsTimedPlan, LastsWithin, point, is_fixed}
use Rattle.tp_schedule.specs.Spots.{Ticks, ticks_of}
use Rattle.tp_schedule.specs.Times.{EndsBeforeAt, at, timed_by}
use Rattle.tp_schedule.specs.declared.parts.Ask.{Ask}
use Rattle.tp_schedule.specs.declared.parts.Plan.{Plan}
use Rattle.tp_schedule.specs.declared.parts.SheetId.{SheetId}
use Rattle.tp_schedule.specs.Spots.Spot.{kept, own}

module _ (machine : Machine) (plans : List Plan) (ask : Ask) (list : ChoiceList) (room : ℕ) (t : Ticks) (rules : IsMachine machine) (legal : IsLegal machine plans)
    (is_list : IsChoiceList machine plans ask list) (times : HasTimes machine plans ask list room t) (some : 0 < length list.choices) (prefix : IsPrefix machine plans ask list.goal list.choices t) where
  abbrev pub count : ℕ
  count = length list.choices

  abbrev pub total : ℕ
  total = total_of ask list.choices

  abbrev pub t' : Ticks
  t' = settled_ticks ask total t

  abbrev pub asked : Plan
  asked = asked_plan plans ask list.choices

  abbrev pub rest : List Plan
  rest = without ask.sheet plans

  abbrev pub new : List Plan
  new = answered plans ask list.choices t

  -- the ticks of all other copies are as before
  pub t'-other : (copy : SheetId) (i : ℕ) → is_same_copy copy ask.sheet ≡ false → t' (kept copy i) ≡ t (kept copy i)
  t'-other copy i e = rw e refl

  -- those behind the kept actions are those of the choices
  pub t'-own : (i : ℕ) → kept_of ask ≤ i → t' (kept ask.sheet i) ≡ t (own (total - i))
  t'-own i le = rw same_copy-refl (rw (le-leb (kept_of ask) i le) refl)

  -- those of the kept actions are as before
  pub t'-kept : (i : ℕ) → i ≤ kept_of ask → 0 < kept_of ask → t' (kept ask.sheet i) ≡ t (kept ask.sheet i)
  t'-kept i le some-kept = elim (cases_lt i (kept_of ask)) [
    | inl below ↦ rw same_copy-refl (rw (lt-leb (kept_of ask) i below) refl)
    | inr above ↦ let same : i ≡ kept_of ask = omega arith in
        let behind : total - i ≡ count = omega arith in
        t'-own i (omega arith) ∙ ap (λ n. t (own n)) behind ∙ prefix.joins some-kept ∙ ap (λ n. t (kept ask.sheet n)) (sym same)
  ]

  -- the asked plan has the kept actions and those of the choices
  pub length-asked : length asked.acts ≡ total
  length-asked = length-append (kept_acts ask.sheet plans) (acts_of list.choices) ∙ ap (λ n. n + length (acts_of list.choices)) prefix.count ∙ ap (λ n. kept_of ask + n) (length-map list.choices (λ c. c.act))

  asked-lasts : (i : ℕ) (act : ActId) → slice_get asked.acts i ≡ Some act → LastsWithin machine act (at t' asked i) (at t' asked (suc i))
  asked-lasts i act e = elim (slice_get-append (kept_acts ask.sheet plans) (acts_of list.choices) i act e) [
    | inl h ↦
        let below : i < kept_of ask = omega (arith, h.1, prefix.count) in
        rw (t'-kept i (omega arith) (omega arith), t'-kept (suc i) (omega arith) (omega arith)) (prefix.lasts i act h.0)
    | inr h ↦
        let within = slice_get_within (acts_of list.choices) h.0 act h.2 in
        let lengths = length-map list.choices (λ c. c.act) in
        let above : kept_of ask ≤ i = omega (arith, h.1, prefix.count) in
        let here : (total - i) + h.0 ≡ count = omega (arith, h.1, prefix.count, within, lengths) in
        let next : suc (total - suc i) ≡ total - i = omega (arith, h.1, prefix.count, within, lengths) in
        rw (t'-own i above, t'-own (suc i) (omega arith)) (ChoicesLast-at machine t list.choices h.0 (total - i) (total - suc i) act times.lasts h.2 here next)
  ]

  -- the other plans are of other copies
  pub rest-of : (q : Plan) → Contains rest q → Contains plans q × (is_same_copy q.sheet ask.sheet ≡ false)
  rest-of q in' = ((Contains-filter_from (λ r. not (is_same_copy r.sheet ask.sheet)) plans q in').0, All-contains (NotOf ask.sheet) rest q (All-without ask.sheet plans) in')

  -- a plan of the new schedule is the asked copy's or another copy's, with its ticks
  pub new-cases : (p : Plan) → Contains new p → (p ≡ timed_by t' asked) ⊎ ((q : Plan) × Contains rest q × (p ≡ timed_by t' q))
  new-cases p in' =
      let from = Contains-map_from (timed_by t') (put_plan asked rest) p in' in
      elim (Contains-put_plan_cases asked rest from.0 from.1) [
        | inl e ↦ inl (subst (λ r. p ≡ timed_by t' r) (sym e) from.2)
        | inr other ↦ inr (from.0, other, from.2)
      ]

  TimedPlan-asked : IsTimedPlan machine (timed_by t' asked)
  TimedPlan-asked = IsTimedPlan-timed_by machine rules t' asked prefix.start list.goal (omega (arith, length-asked)) (omega (arith, length-asked, is_list.at_most)) (omega (arith, length-asked)) prefix.starts prefix.leads is_list.goal asked-lasts

  TimedPlan-other : (q : Plan) → Contains rest q → IsTimedPlan machine (timed_by t' q)
  TimedPlan-other q in' =
      let of = rest-of q in' in
      let old = All-contains (IsTimedPlan machine) plans q legal.timed of.0 in
      IsTimedPlan-timed_by machine rules t' q old.start old.end old.some old.at_most old.released old.starts old.leads old.ends
      (λ i act e. rw (t'-other q.sheet i of.1, t'-other q.sheet (suc i) of.1) (times.keeps.lasts q of.0 i act e))

  -- each of its plans is timed
  pub new-timed : All (IsTimedPlan machine) new
  new-timed = All-from_contains (IsTimedPlan machine) new (λ p in'. elim (new-cases p in') [
    | inl e ↦ subst (IsTimedPlan machine) (sym e) TimedPlan-asked
    | inr (q, other, e) ↦ subst (IsTimedPlan machine) (sym e) (TimedPlan-other q other)
  ])

  rest-in_order : InOrder rest
  rest-in_order = AllPairs-filter (λ p q. is_before p.sheet q.sheet ≡ true) (λ p. not (is_same_copy p.sheet ask.sheet)) plans legal.in_order

  -- the plans stand in the order of copies
  pub new-in_order : InOrder new
  new-in_order = AllPairs-map (λ p q. IsTrue (is_before p.sheet q.sheet)) (λ p q. IsTrue (is_before p.sheet q.sheet)) (λ p. Unit {0}) (timed_by t') (put_plan asked rest) (λ k d within. tt)
      (InOrder-put_plan asked rest rest-in_order (All-without ask.sheet plans)) (λ p q _ _ e. e)

  -- it ends with the list
  pub asked-end : at t' asked (length asked.acts) ≡ t (own 0)
  asked-end = ap (at t' asked) length-asked ∙ t'-own total (omega arith) ∙ ap (λ n. t (own n)) (omega arith)

  -- the ends at each tray rise
  pub new-rise : AllPairs EndsBefore new
  new-rise = AllPairs-map (EndsBeforeAt t') EndsBefore (λ p. Unit {0}) (timed_by t') (put_plan asked rest) (λ k d within. tt) pairs
      (λ p q _ _ e tray to-p to-q. rw (point-timed_by t' p (length p.acts) (omega arith), point-timed_by t' q (length q.acts) (omega arith)) (e tray to-p to-q)) where
        kept-pairs : AllPairs (EndsBeforeAt t') rest
        kept-pairs = AllPairs-each (EndsBeforeAt t) (EndsBeforeAt t') rest (AllPairs-filter (EndsBeforeAt t) (λ p. not (is_same_copy p.sheet ask.sheet)) plans times.keeps.rise)
            (λ p q in-p in-q e tray to-p to-q. rw (t'-other p.sheet (length p.acts) (rest-of p in-p).1, t'-other q.sheet (length q.acts) (rest-of q in-q).1) (e tray to-p to-q))

        pairs : AllPairs (EndsBeforeAt t') (put_plan asked rest)
        pairs = AllPairs-put_plan (EndsBeforeAt t') asked rest rest-in_order (All-without ask.sheet plans) kept-pairs
            (λ q in' e tray to-p to-q. rw (asked-end, t'-other q.sheet (length q.acts) (rest-of q in').1) ((times.line q (rest-of q in').0 tray to-p to-q).1 e))
            (λ q in' e tray to-q to-p. rw (asked-end, t'-other q.sheet (length q.acts) (rest-of q in').1) ((times.line q (rest-of q in').0 tray to-p to-q).0 e))

  in-new : Contains new (timed_by t' asked)
  in-new = Contains-map (timed_by t') (put_plan asked rest) asked (Contains-put_plan asked rest)

  other-in-new : (q : Plan) → Contains plans q → is_same_copy q.sheet ask.sheet ≡ false → Contains new (timed_by t' q)
  other-in-new q in' e = Contains-map (timed_by t') (put_plan asked rest) q (Contains-put_plan_other asked rest q (Contains-filter (λ r. not (is_same_copy r.sheet ask.sheet)) plans q in' (ap not e)))

  -- the asked copy's plan
  pub new-planned : plan_of ask.sheet new ≡ Some (timed_by t' asked)
  new-planned = plan_of-itself new (timed_by t' asked) new-in_order in-new

  new-other : (q : Plan) → Contains plans q → is_same_copy q.sheet ask.sheet ≡ false → plan_of q.sheet new ≡ Some (timed_by t' q)
  new-other q in' e = plan_of-itself new (timed_by t' q) new-in_order (other-in-new q in' e)

  -- the ticks of the new schedule at the points of the old one, and at those of the choices
  abbrev pub t'' : Ticks
  t'' = ticks_of new

  t''-other : (q : Plan) → Contains plans q → is_same_copy q.sheet ask.sheet ≡ false → (i : ℕ) → i ≤ length q.acts → t'' (kept q.sheet i) ≡ t (kept q.sheet i)
  t''-other q in' e i le = rw (new-other q in' e) (point-timed_by t' q i le ∙ t'-other q.sheet i e)

  t''-asked : (i : ℕ) → i ≤ total → t'' (kept ask.sheet i) ≡ t' (kept ask.sheet i)
  t''-asked i le = rw new-planned (point-timed_by t' asked i (omega (arith, length-asked)))

  -- at the choices' points
  pub t''-own : (n : ℕ) → n ≤ count → t'' (kept ask.sheet (total - n)) ≡ t (own n)
  t''-own n le = t''-asked (total - n) (omega arith) ∙ t'-own (total - n) (omega arith) ∙ ap (λ k. t (own k)) (omega arith)

  -- at the old schedule's points
  pub t''-kept : (p : Plan) → Contains plans p → (i : ℕ) → i ≤ length p.acts → t'' (kept p.sheet i) ≡ t (kept p.sheet i)
  t''-kept p in' i le = go (is_same_copy p.sheet ask.sheet) refl where
    go : (b : Bool) → is_same_copy p.sheet ask.sheet ≡ b → t'' (kept p.sheet i) ≡ t (kept p.sheet i)
    go false e = t''-other p in' e i le
    go true e =
        let same : p.sheet ≡ ask.sheet = same_copy-is p.sheet ask.sheet e in
        let is : plan_of ask.sheet plans ≡ Some p = subst (λ c. plan_of c plans ≡ Some p) same (plan_of-itself plans p legal.in_order in') in
        let fixed = prefix.fixed p is i le in
        subst (λ c. t'' (kept c i) ≡ t (kept c i)) (sym same) (t''-asked i (omega (arith, fixed.2)) ∙ t'-kept i fixed.2 fixed.1)

  -- fixed points stay
  pub new-fixed : KeepsFixed plans new
  new-fixed p p' in' is i fixed le = go (is_same_copy p.sheet ask.sheet) refl where
    old : t (kept p.sheet i) ≡ point p i
    old = times.keeps.fixed p in' i fixed le

    found : t'' (kept p.sheet i) ≡ point p' i
    found = rw is refl

    go : (b : Bool) → is_same_copy p.sheet ask.sheet ≡ b → point p' i ≡ point p i
    go b e = sym found ∙ t''-kept p in' i le ∙ old

  own-between : (i : ℕ) → kept_of ask ≤ i → i ≤ total → (t (own count) ≤ at t' asked i) × (at t' asked i ≤ t (own 0))
  own-between i above within = rw (t'-own i above) (ChoicesLast-rise machine t list.choices times.lasts (total - i) (omega arith))

  -- points that are not released lie ahead
  pub new-floors : KeepsFloors machine ask.now (follows_front ask) new
  new-floors p in' exempt i unreleased within = elim (new-cases p in') [
    | inl e ↦ asked-floor (subst (λ r. IsFalse (follows_front ask r)) e exempt) e
    | inr (q, other, e) ↦
        let of = rest-of q other in
        let within' : i < length q.acts = subst (λ r. i < length r.acts) e within in
        subst (λ r. ask.now + machine.lead < point r i) (sym e)
        (rw (point-timed_by t' q i (omega arith), t'-other q.sheet i of.1) (times.keeps.floors q of.0 refl i (subst (λ r. r.released ≤ i) e unreleased) within'))
  ] where
    asked-floor : IsFalse (follows_front ask (timed_by t' asked)) → p ≡ timed_by t' asked → ask.now + machine.lead < point p i
    asked-floor exempt' e =
        let none : kept_of ask ≡ 0 = ltb-false-zero (kept_of ask) (rw same_copy-refl at exempt') in
        let within' : i < length asked.acts = subst (λ r. i < length r.acts) e within in
        let between = own-between i (omega arith) (omega (arith, length-asked)) in
        subst (λ r. ask.now + machine.lead < point r i) (sym e) (rw (point-timed_by t' asked i (omega arith)) (omega (arith, prefix.floor none, between.0))) where
          ltb-false-zero : (n : ℕ) → nat_lt 0 n ≡ false → n ≡ 0
          ltb-false-zero n h = grind (arith, nat_tests)

  -- points that are not fixed lie within the window
  pub new-horizon : KeepsHorizon machine ask.now new
  new-horizon p in' i le free = elim (new-cases p in') [
    | inl e ↦
        let le' : i ≤ length asked.acts = subst (λ r. i ≤ length r.acts) e le in
        let above : kept_of ask ≤ i = not_fixed (kept_of ask) i (subst (λ r. is_fixed r i ≡ false) e free) in
        let between = own-between i above (omega (arith, length-asked)) in
        subst (λ r. point r i ≤ ask.now + machine.window) (sym e) (rw (point-timed_by t' asked i le') (omega (arith, between.1, times.last)))
    | inr (q, other, e) ↦
        let of = rest-of q other in
        let le' : i ≤ length q.acts = subst (λ r. i ≤ length r.acts) e le in
        subst (λ r. point r i ≤ ask.now + machine.window) (sym e)
        (rw (point-timed_by t' q i le', t'-other q.sheet i of.1) (times.keeps.horizon q of.0 i le' (subst (λ r. is_fixed r i ≡ false) e free)))
  ] where
    not_fixed : (k n : ℕ) → (nat_lt 0 k && nat_le n k) ≡ false → k ≤ n
    not_fixed k n h = grind (arith, nat_tests)
