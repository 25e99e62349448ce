-- The least ticks of a complete list make a least schedule: a schedule that differs in ticks alone is an alternative
-- with the same route, so its points are ticks of the same list.
use Rattle.std.proofs.Common.{◌≡◌, inl, inr, ℕ, suc, ◌+◌, ◌-◌, ◌≤◌, ◌<◌, Bool, true, false, cond, not, List, [], ◌∷◌, map, length, filter, refl, ap, sym, arith, AllPairs, ◌∙◌, subst, Some, IsTrue}
use Rattle.std.proofs.lemmas.Bool.{cases_lt}
use Rattle.std.proofs.lemmas.List.{length-map}
use Rattle.tp_machine.proofs.MachineFacts.{is_machine}
use Rattle.tp_machine.specs.Modes.{gap_at}
use Rattle.tp_machine.specs.declared.machine.Machine.{Machine}
use Rattle.tp_schedule.proofs.Pairs.{AllPairs-map_from}
use Rattle.tp_choices.proofs.AskedFront.{kept-by, fixed_till}
use Rattle.tp_choices.proofs.CompletePlans.{IsPrefix, prefix_of, point-timed_by}
use Rattle.tp_choices.proofs.OwnSlots.{settled_slot}
use Rattle.tp_choices.proofs.OwnPlaces.{LastActs}
use Rattle.tp_choices.proofs.PlansOf.{plan_of-contains}
use Rattle.tp_choices.proofs.Unmoved.{unmoved-found}
use Rattle.tp_machine.specs.Machines.{IsMachine}
use Rattle.tp_schedule.proofs.CopyFacts.{plan_of-itself}
use Rattle.tp_schedule.proofs.LegalOrders.{legal_apart}
use Rattle.tp_schedule.specs.Answers.{unmoved, kept_of, kept_from, KeepsFixed, follows_front, IsAlternative, IsAsked, IsAskedFrom, is_new, IsRetimed, IsLeast}
use Rattle.tp_schedule.specs.Choices.{Choice, ChoiceList, acts_of, placed, HasTimes, IsChoiceList, IsComplete, CanStop, ChoicesLast, start_floor, KeepsLine}
use Rattle.tp_schedule.specs.Completions.{settled, settled_ticks, total_of, asked_plan, answered}
use Rattle.tp_schedule.specs.Legality.{IsLegal}
use Rattle.tp_schedule.specs.Plans.{plan_of, without, is_same_copy, LastsWithin, point, end_of_plan, is_fixed}
use Rattle.tp_schedule.specs.Spots.{Ticks, IsApart, slot_order, ticks_of}
use Rattle.tp_schedule.specs.Times.{KeepsTimes, timed_by}
use Rattle.tp_schedule.specs.declared.parts.Ask.{Ask}
use Rattle.tp_schedule.specs.declared.parts.Origin.{Origin}
use Rattle.tp_schedule.specs.declared.parts.Origin.TheVariants.{Feeder as FromFeeder, Front as FromFront}
use Rattle.tp_schedule.specs.declared.parts.Plan.{Plan}
use Rattle.tp_schedule.specs.declared.parts.SheetId.{SheetId}
use Rattle.tp_schedule.specs.Spots.Spot.{kept, own}
use Rattle.tp_choices.proofs.CompleteTimes as second-times
use Rattle.tp_choices.proofs.CompleteAnswers as second
use Rattle.tp_choices.proofs.AnswerTimes as first
use Rattle.tp_choices.specs.Retimings.{LeastAnswers, NoLater}

same-sheets : (xs ys : List Plan) (copy : SheetId) → map unmoved xs ≡ map unmoved ys → map unmoved (without copy xs) ≡ map unmoved (without copy ys)
same-sheets [] [] copy e = refl
same-sheets [] (y ∷ ys) copy e = absurd (cc)
same-sheets (x ∷ xs) [] copy e = absurd (cc)
same-sheets (x ∷ xs) (y ∷ ys) copy e =
    let one : unmoved x ≡ unmoved y = cc in
    let rest : map unmoved xs ≡ map unmoved ys = cc in
    let sheet : x.sheet ≡ y.sheet = ap (λ (r : Plan). r.sheet) one in
    go (is_same_copy y.sheet copy) (is_same_copy x.sheet copy) (ap (λ c. is_same_copy c copy) sheet) one (same-sheets xs ys copy rest) where
      go : (b c : Bool) → c ≡ b → unmoved x ≡ unmoved y → map unmoved (without copy xs) ≡ map unmoved (without copy ys)
          → map unmoved (cond (not c) (x ∷ without copy xs) (without copy xs)) ≡ map unmoved (cond (not b) (y ∷ without copy ys) (without copy ys))
      go true true e' one rest = rest
      go false false e' one rest = λ i. one i ∷ rest i
      go true false e' one rest = absurd (cc)
      go false true e' one rest = absurd (cc)

-- an alternative at other ticks is an alternative, by the same route
pub retimed_alternative : (machine : Machine) (plans new other : List Plan) (ask : Ask) → (a : IsAlternative machine plans ask new) → KeepsFixed plans other → IsRetimed machine ask.now (follows_front ask) new other
    → (b : IsAlternative machine plans ask other) × (b.answers.route ≡ a.answers.route)
retimed_alternative machine plans new other ask a fixed r =
    let in-new = plan_of-contains ask.sheet new a.plan a.planned in
    let found = unmoved-found other new a.plan r.same in-new.0 in
    let sheet : found.0.sheet ≡ ask.sheet = ap (λ (p : Plan). p.sheet) found.2 ∙ a.answers.sheet in (
      record {
        legal_before = a.legal_before;
        legal = r.legal;
        others = same-sheets other new ask.sheet r.same ∙ a.others;
        plan = found.0;
        planned = subst (λ c. plan_of c other ≡ Some found.0) sheet (plan_of-itself other found.0 r.legal.in_order found.1);
        answers = record {
          sheet = sheet;
          name = ap (λ (p : Plan). p.name) found.2 ∙ a.answers.name;
          want = ap (λ (p : Plan). p.want) found.2 ∙ a.answers.want;
          goal = ap (λ (p : Plan). p.goal) found.2 ∙ a.answers.goal;
          whole = ap (λ (p : Plan). p.kind) found.2 ∙ a.answers.whole;
          route = a.answers.route;
          acts = ap (λ (p : Plan). p.acts) found.2 ∙ a.answers.acts;
          is_route = a.answers.is_route;
          allowed = a.answers.allowed;
          released = ap (λ (p : Plan). p.released) found.2 ∙ a.answers.released;
        };
        fixed = fixed;
        orders = λ resource. ap (filter (λ s. not (is_new ask s))) (r.orders resource) ∙ a.orders resource;
        floors = r.floors;
        horizon = r.horizon;
      },
      refl,
    )

Last-from_acts : (machine : Machine) (t : Ticks) (choices : List Choice) → LastActs machine t (acts_of choices) → ChoicesLast machine t choices
Last-from_acts machine t [] lasts = tt
Last-from_acts machine t (c ∷ choices) lasts =
    let same = length-map choices (λ (d : Choice). d.act) in
    (subst (λ n. LastsWithin machine c.act (t (own (suc n))) (t (own n))) same lasts.0, Last-from_acts machine t choices lasts.1)

stopped-from : (machine : Machine) (ask : Ask) (list : ChoiceList) (plans : List Plan) → IsAsked machine plans ask → (IsTrue list.stopped → CanStop machine ask list ask.origin) → IsTrue list.stopped → 0 < kept_of ask
stopped-from machine ask list plans asked can stop = go ask.origin refl asked (can stop) where
  go : (o : Origin) → ask.origin ≡ o → IsAskedFrom machine plans ask o → CanStop machine ask list o → 0 < kept_of ask
  go FromFeeder e none bad = absurd bad
  go (FromFront state end count) e (p, is, front) can' = let kept-is : kept_of ask ≡ count = ap kept_from e in omega (arith, front.some)

module _ (machine : Machine) (plans : List Plan) (ask : Ask) (list : ChoiceList) (t : Ticks) (rules : IsMachine machine) (legal : IsLegal machine plans) (asked : IsAsked machine plans ask)
    (is_list : IsChoiceList machine plans ask list) (complete : IsComplete machine ask list) (some : 0 < length list.choices) (times : HasTimes machine plans ask list 0 t) where
  abbrev is_prefix : IsPrefix machine plans ask list.goal list.choices t
  is_prefix = prefix_of machine plans ask list 0 t asked is_list complete times

  abbrev new : List Plan
  new = answered plans ask list.choices t

  abbrev total : ℕ
  total = total_of ask list.choices

  abbrev other-ticks : List Plan → Ticks
  other-ticks other s = ticks_of other (settled ask.sheet total s)

  -- other ticks of the new schedule are ticks of the list
  retimed_times : (other : List Plan) → IsRetimed machine ask.now (follows_front ask) new other → HasTimes machine plans ask list 0 (other-ticks other)
  retimed_times other r = go made.0 made.1 where
    found : (a : IsAlternative machine plans ask new) × (end_of_plan a.plan ≡ t (own 0)) × (a.answers.route ≡ acts_of list.choices)
    found = second.complete_alternative machine plans ask list 0 t rules legal is_list times some is_prefix

    made : (b : IsAlternative machine plans ask other) × (b.answers.route ≡ acts_of list.choices)
    made =
        let is_kept = kept-by machine plans ask asked in
        let fixed = first.fixed-on machine plans new ask rules legal is_kept found.0 other r.fixed in
        let b = retimed_alternative machine plans new other ask found.0 fixed r in
        (b.0, b.1 ∙ found.2)

    go : (b : IsAlternative machine plans ask other) → b.answers.route ≡ acts_of list.choices → HasTimes machine plans ask list 0 (other-ticks other)
    go b e =
        let is_kept = kept-by machine plans ask asked in
        let lengths : length b.answers.route ≡ length list.choices = ap length e ∙ length-map list.choices (λ (c : Choice). c.act) in
        let n-is : kept_of ask + length b.answers.route ≡ total = ap (λ n. kept_of ask + n) lengths in
        let starts = first.starts-at machine plans other ask rules legal is_kept b asked in
        let starts' : (start_floor machine ask.now ask.origin ≤ other-ticks other (own (length list.choices))) × (0 < kept_of ask → other-ticks other (own (length list.choices)) ≡ start_floor machine ask.now ask.origin) =
        subst (λ n. (start_floor machine ask.now ask.origin ≤ other-ticks other (own n)) × (0 < kept_of ask → other-ticks other (own n) ≡ start_floor machine ask.now ask.origin)) lengths
        (subst (λ n. (start_floor machine ask.now ask.origin ≤ ticks_of other (settled ask.sheet n (own (length b.answers.route)))) × (0 < kept_of ask → ticks_of other (settled ask.sheet n (own (length b.answers.route))) ≡ start_floor machine ask.now ask.origin)) n-is starts) in
        record {
          keeps = subst (λ n. KeepsTimes machine ask.now (λ _. false) plans (λ s. ticks_of other (settled ask.sheet n s))) n-is (first.keeps machine plans other ask rules legal is_kept b);
          lasts = Last-from_acts machine (other-ticks other) list.choices
              (subst (λ n. LastActs machine (λ s. ticks_of other (settled ask.sheet n s)) (acts_of list.choices)) n-is
              (subst (LastActs machine (λ s. ticks_of other (settled ask.sheet (kept_of ask + length b.answers.route) s))) e (first.lasts-acts machine plans other ask rules legal is_kept b)));
          first = omega (arith, starts'.0);
          last = subst (λ n. ticks_of other (settled ask.sheet n (own 0)) ≤ ask.now + machine.window) n-is (first.last-cap machine plans other ask rules legal is_kept b);
          line = subst (λ n. KeepsLine ask plans (λ s. ticks_of other (settled ask.sheet n s)) (ticks_of other (settled ask.sheet n (own 0)))) n-is (first.keeps-line machine plans other ask rules legal is_kept b);
          apart = λ resource.
              let order-is = r.orders resource ∙ (second.new-order machine plans ask list 0 t rules legal is_list times some is_prefix resource).0 in
              AllPairs-map_from (IsApart (gap_at machine resource) (ticks_of other)) (settled_slot ask.sheet total) (placed machine resource (slot_order machine plans resource) list.choices)
              (subst (AllPairs (IsApart (gap_at machine resource) (ticks_of other))) order-is (legal_apart machine other rules r.legal resource));
          stopped = λ stop. starts'.1 (stopped-from machine ask list plans asked is_list.can_stop stop);
        }

  -- the least ticks make a least schedule
  least_new : ((t₂ : Ticks) → HasTimes machine plans ask list 0 t₂ → NoLater plans list t t₂) → IsLeast machine ask.now (follows_front ask) new
  least_new least other r p in' i le = elim (second-times.new-cases machine plans ask list 0 t rules legal is_list times some is_prefix p in') [
    | inl e ↦ of-asked e
    | inr (q, in-rest, e) ↦
        let of = second-times.rest-of machine plans ask list 0 t rules legal is_list times some is_prefix q in-rest in
        let le' : i ≤ length q.acts = subst (λ r'. i ≤ length r'.acts) e le in
        subst (λ r'. point r' i ≤ ticks_of other (kept r'.sheet i)) (sym e)
        (rw (point-timed_by t' q i le', second-times.t'-other machine plans ask list 0 t rules legal is_list times some is_prefix q.sheet i of.1) (later.0 q of.0 i le'))
  ] where
    t' : Ticks
    t' = settled_ticks ask total t

    later : NoLater plans list t (other-ticks other)
    later = least (other-ticks other) (retimed_times other r)

    of-asked : p ≡ timed_by (settled_ticks ask total t) (asked_plan plans ask list.choices) → point p i ≤ ticks_of other (kept p.sheet i)
    of-asked e =
        let asked-p : Plan = asked_plan plans ask list.choices in
        let lengths = second-times.length-asked machine plans ask list 0 t rules legal is_list times some is_prefix in
        let le' : i ≤ length (asked_plan plans ask list.choices).acts = subst (λ r'. i ≤ length r'.acts) e le in
        elim (cases_lt i (kept_of ask)) [
          | inl below ↦
              let found = unmoved-found other new p r.same in' in
              let sheet : found.0.sheet ≡ p.sheet = ap (λ (q : Plan). q.sheet) found.2 in
              let planned : plan_of p.sheet other ≡ Some found.0 = subst (λ c. plan_of c other ≡ Some found.0) sheet (plan_of-itself other found.0 r.legal.in_order found.1) in
              let is-fixed : is_fixed p i ≡ true = subst (λ (q : Plan). is_fixed q i ≡ true) (sym e) (fixed_till (timed_by (settled_ticks ask total t) asked-p) (kept_of ask) i refl refl (omega arith) (omega arith)) in
              let same = r.fixed p found.0 in' planned i is-fixed le in
              rw planned (omega (arith, same))
          | inr above ↦
              let one = later.1 (total - i) (omega (arith, lengths)) in
              let back : total - (total - i) ≡ i = omega (arith, lengths) in
              let one' : t (own (total - i)) ≤ ticks_of other (kept ask.sheet i) = subst (λ n. t (own (total - i)) ≤ ticks_of other (kept ask.sheet n)) back one in
              subst (λ r'. point r' i ≤ ticks_of other (kept r'.sheet i)) (sym e)
              (rw (point-timed_by (settled_ticks ask total t) asked-p i le', second-times.t'-own machine plans ask list 0 t rules legal is_list times some is_prefix i above) one')
        ]

pub least_answers : LeastAnswers
least_answers machine plans ask list t legal asked is_list complete some times least = least_new machine plans ask list t (is_machine machine) legal asked is_list complete some times least
