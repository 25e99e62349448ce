-- The answers of the loop and the settling keep what a live state keeps besides.
use Rattle.std.proofs.Common.{◌≡◌, ℕ, suc, ◌+◌, ◌<◌, ◌≤◌, inl, inr, Bool, true, false, cond, ◌&&◌, ◌||◌, not, List, [], ◌∷◌, ◌++◌, length, refl, sym, ap, ◌∙◌, arith, All, Contains, subst, nat_lt, nat_le, slice_index, Some}
use Rattle.std.specs.Prelude.{count_by}
use Rattle.std.specs.List.{list_all, list_any}
use Rattle.std.proofs.lemmas.Bool.Decides.{nat_tests}
use Rattle.std.proofs.lemmas.List.Elements.{All-contains}
use Rattle.tp_machine.specs.declared.parts.ActId.{ActId}
use Rattle.tp_machine.specs.declared.machine.Machine.{Machine}
use Rattle.tp_schedule.proofs.CopyFacts.{plan_of-itself, same_copy-refl}
use Rattle.tp_schedule.proofs.Membership.{All-from_contains, Contains-cons_cases, Contains-filter_from, Contains-map, Contains-map_from}
use Rattle.tp_schedule.specs.Answers.{IsAlternative, IsRetimed, acts_in, unmoved}
use Rattle.tp_schedule.specs.Holders.{runs_from}
use Rattle.tp_schedule.specs.PlannerAnswers.{none_exempt}
use Rattle.tp_schedule.specs.Plans.{end_of_plan, IsTimedPlan, change_plan, is_front, is_same_copy, plan_of, point, without}
use Rattle.tp_schedule.specs.Routes.{is_act_allowed}
use Rattle.tp_schedule.specs.declared.parts.Ask.{Ask}
use Rattle.tp_schedule.specs.declared.parts.Plan.{Plan}
use Rattle.tp_schedule.specs.declared.parts.SheetId.{SheetId}
use Rattle.tp_event_rules.specs.FallBacks.{Displaced}
use Rattle.tp_event_rules.specs.Fates.{to_purge}
use Rattle.tp_event_rules.specs.StateInvariants.{is_clear}
use Rattle.tp_event_rules.specs.Moments.{is_started, is_to_tray, release_until}
use Rattle.tp_event_rules.specs.States.{SessionState}
use Rattle.tp_event_rules.proofs.AnsweredPlans.{IsUnmoved, mine-is}
use Rattle.tp_event_rules.proofs.AskedPlans.{clear-route}
use Rattle.tp_outage_laws.proofs.Counts.{count-cons}
use Rattle.tp_outage_laws.proofs.Falls.{Falls, Outset, is_open, none_breaks, open_by, pending_by}
use Rattle.tp_outage_laws.proofs.GivesUp.{given, cases as given-cases, counts as given-counts}
use Rattle.tp_outage_laws.proofs.KeptPoints.{IsKept, kept-plan}
use Rattle.tp_outage_laws.proofs.Lives.{IsRiding, any_sheet, is_coming, live-end, riding-purge}
use Rattle.tp_outage_laws.proofs.LivesFalls.{IsLiving}
use Rattle.tp_outage_laws.proofs.LivesKept.{clear-kept, coming-fewer, riding-kept, same-number}
use Rattle.tp_outage_laws.proofs.LooseAsks.{IsAskOf, cases, flies, from-before, kept, mine-sheet, mine-there, new-ends, planned_plans, sheet-is}
use Rattle.tp_event_rules.proofs.PlanCounts.{count-change, count-without}

abbrev every : Plan → Bool
every p = true

count-every : (plans : List Plan) → count_by every plans ≡ length plans
count-every [] = refl
count-every (p ∷ plans) = let rest = count-every plans in let one = count-cons every p plans in omega arith

coming-is : (now end : ℕ) → now < end → nat_lt now end ≡ true
coming-is now end later = grind (arith, nat_tests)

-- started actions, and then allowed ones
clear-mixed : (now : ℕ) (test : ActId → Bool) (sheet : SheetId) (n : ℕ) (acts route : List ActId) (points : List ℕ) → ((i : ℕ) → i < length acts → slice_index points i ≤ now) → All (λ act. test act ≡ true) route
    → list_all (λ run. is_started now run || test run.act) (runs_from sheet n (acts ++ route) points) ≡ true
clear-mixed now test sheet n [] route points low all = clear-route now test sheet n route points all
clear-mixed now test sheet n (a ∷ acts) route [] low all = refl
clear-mixed now test sheet n (a ∷ acts) route (start ∷ []) low all = refl
clear-mixed now test sheet n (a ∷ acts) route (start ∷ end ∷ points) low all =
    let first = low 0 (omega arith) in
    let here : nat_le start now ≡ true = grind (arith, nat_tests) in
    rw here (clear-mixed now test sheet (n + 1) acts route (end ∷ points) (λ i within. low (suc i) (omega arith)) all)

-- The loose copy gives its tray up.
module _ (machine : Machine) (base : Outset) (copies : ℕ) (s : SessionState) (f : Falls machine base none_breaks s []) (ask : Ask) (of : IsAskOf machine s ask) (tray : is_to_tray of.p.goal ≡ true) (l : IsLiving machine copies s []) where
  purges : List Plan
  purges = change_plan ask.sheet to_purge s.plans

  same-length : (plans : List Plan) → length (change_plan ask.sheet to_purge plans) ≡ length plans
  same-length plans = sym (count-every (change_plan ask.sheet to_purge plans)) ∙ count-change ask.sheet to_purge every (λ p. refl) plans ∙ count-every plans

  asked-coming : is_coming s.now of.p ≡ true
  asked-coming = coming-is s.now (end_of_plan of.p) (flies machine s ask f.mid of).ends

  pub living-given : IsLiving machine copies (record s { plans = change_plan ask.sheet to_purge s.plans }) (given machine base s f ask of tray ∷ [])
  living-given = (
    record {
      plans = λ q in'. elim (given-cases machine base s f ask of tray q in') [
        | inl other ↦ l.0.plans q other.0
        | inr is ↦ subst (IsRiding machine copies s.now) (sym is) (riding-purge machine copies s.now of.p (l.0.plans of.p of.there))
      ];
      waits = l.0.waits;
      pends = λ d in' again. elim (Contains-cons_cases (given machine base s f ask of tray) [] d in') [
        | inl is ↦ (
            let number = (l.0.plans of.p of.there).number in
            let sheet : of.p.sheet.copy ≡ ask.sheet.copy = ap (λ (c : SheetId). c.copy) (sheet-is machine s ask f.mid of) in
            let same : ask.sheet.copy ≡ d.sheet.copy = ap (λ (x : Displaced). x.sheet.copy) is in
            omega arith)
        | inr none ↦ absurd (omega (arith, none.1))
      ];
      few_live = let few = l.0.few_live in let same = same-length s.plans in omega arith;
      few_open =
          let few = l.0.few_open in
          let same = given-counts machine base s f ask of tray (is_coming s.now) any_sheet (sym asked-coming) s.plans (λ p i. i) of.there in
          let one = count-cons (pending_by any_sheet) (given machine base s f ask of tray) [] in
          omega arith;
    },
    λ q in'. elim (given-cases machine base s f ask of tray q in') [
      | inl other ↦ l.1 q other.0
      | inr is ↦ subst (λ x. is_clear machine s x ≡ true) (sym is) (l.1 of.p of.there)
    ],
  )

-- It is planned.
module _ (machine : Machine) (base : Outset) (copies : ℕ) (s : SessionState) (f : Falls machine base none_breaks s []) (ask : Ask) (of : IsAskOf machine s ask)
    (plans' : List Plan) (a : IsAlternative machine s.plans ask plans') (same_now : ask.now ≡ s.now) (l : IsLiving machine copies s []) where
  last : ℕ
  last = s.now + machine.lead

  planned-here : plan_of of.p.sheet plans' ≡ Some a.plan
  planned-here = subst (λ c. plan_of c plans' ≡ Some a.plan) (sym (sheet-is machine s ask f.mid of)) a.planned

  at-before : plan_of ask.sheet s.plans ≡ Some of.p
  at-before = subst (λ c. plan_of c s.plans ≡ Some of.p) (sheet-is machine s ask f.mid of) (plan_of-itself s.plans of.p f.mid.plans.legal.in_order of.there)

  mine-timed : IsTimedPlan machine a.plan
  mine-timed = All-contains (IsTimedPlan machine) plans' a.plan a.legal.timed (mine-there machine s ask f.mid of plans' a same_now)

  mine-riding : IsRiding machine copies s.now a.plan
  mine-riding = record {
    live = live-end machine s.now a.plan mine-timed.one_more (new-ends machine s ask f.mid of plans' a same_now);
    started = λ front i low. absurd (let whole : is_front a.plan.kind ≡ false = ap is_front a.answers.whole in cc);
    number =
        let number = (l.0.plans of.p of.there).number in
        let sheet : a.plan.sheet.copy ≡ of.p.sheet.copy = ap (λ (c : SheetId). c.copy) (a.answers.sheet ∙ sym (sheet-is machine s ask f.mid of)) in omega arith;
  }

  outs-same : ask.outs ≡ s.outs
  outs-same = ap (λ (x : Ask). x.outs) (sym of.is)

  mine-clear : is_clear machine s a.plan ≡ true
  mine-clear =
      let acts : a.plan.acts ≡ of.p.acts ++ a.answers.route = a.answers.acts ∙ ap (λ o. acts_in o ++ a.answers.route) at-before in
      subst (λ m. list_all (λ run. is_started s.now run || is_act_allowed machine s.outs run.act) (runs_from a.plan.sheet 1 m a.plan.points) ≡ true) (sym acts)
      (clear-mixed s.now (is_act_allowed machine s.outs) a.plan.sheet 1 of.p.acts a.answers.route a.plan.points
      (λ i low.
      let started = (l.0.plans of.p of.there).started of.front i low in
      let stays : point a.plan i ≡ point of.p i = a.fixed of.p a.plan of.there planned-here i (rw of.front refl) (omega arith) in omega arith)
      (All-from_contains (λ act. is_act_allowed machine s.outs act ≡ true) a.answers.route (λ act in'. subst (λ o. is_act_allowed machine o act ≡ true) outs-same (a.answers.allowed act in'))))

  planned-number : length (planned_plans machine s ask f.mid of plans' a same_now) ≡ length s.plans
  planned-number =
      let changed = count-change ask.sheet (release_until (s.now + machine.lead)) every (λ p. refl) plans' in
      let new = count-without every ask.sheet plans' a.plan a.legal.in_order (mine-there machine s ask f.mid of plans' a same_now) (mine-sheet machine s ask f.mid of plans' a same_now) in
      let old = count-without every ask.sheet s.plans of.p f.mid.plans.legal.in_order of.there of-same in
      let rest = same-number (without ask.sheet plans') (without ask.sheet s.plans) a.others in
      let one = count-every (without ask.sheet plans') in
      let other = count-every (without ask.sheet s.plans) in
      let all = count-every (planned_plans machine s ask f.mid of plans' a same_now) in
      let before = count-every s.plans in
      omega arith where
        of-same : is_same_copy of.p.sheet ask.sheet ≡ true
        of-same = subst (λ c. is_same_copy of.p.sheet c ≡ true) (sheet-is machine s ask f.mid of) (same_copy-refl of.p.sheet)

  planned-coming : count_by (open_by s (is_coming s.now)) (planned_plans machine s ask f.mid of plans' a same_now) ≤ count_by (open_by s (is_coming s.now)) s.plans
  planned-coming =
      let test : Plan → Bool = open_by s (is_coming s.now) in
      let changed = count-change ask.sheet (release_until (s.now + machine.lead)) (open_by s (is_coming s.now)) (λ p. refl) plans' in
      let new = count-without (open_by s (is_coming s.now)) ask.sheet plans' a.plan a.legal.in_order (mine-there machine s ask f.mid of plans' a same_now) (mine-sheet machine s ask f.mid of plans' a same_now) in
      let old = count-without (open_by s (is_coming s.now)) ask.sheet s.plans of.p f.mid.plans.legal.in_order of.there of-same in
      let rest = coming-fewer machine s (without ask.sheet plans') (without ask.sheet s.plans) a.others (λ q p in' in'' u. others q p in' in'' u) in
      let mine = mine-fewer in
      omega arith where
        of-same : is_same_copy of.p.sheet ask.sheet ≡ true
        of-same = subst (λ c. is_same_copy of.p.sheet c ≡ true) (sheet-is machine s ask f.mid of) (same_copy-refl of.p.sheet)

        others : (q p : Plan) → Contains (without ask.sheet plans') q → Contains (without ask.sheet s.plans) p → IsUnmoved q p → IsKept machine s.now p q
        others q p in' in'' u =
            let from = Contains-filter_from (λ p. not (is_same_copy p.sheet ask.sheet)) plans' q in' in
            kept machine s ask f.mid of plans' a same_now p q (Contains-filter_from (λ p. not (is_same_copy p.sheet ask.sheet)) s.plans p in'').0 from.0 (not-true (is_same_copy q.sheet ask.sheet) from.1) u where
              not-true : (b : Bool) → not b ≡ true → b ≡ false
              not-true true e = absurd (cc)
              not-true false e = refl

        mine-fewer : cond {A = ℕ} (open_by s (is_coming s.now) a.plan) 1 0 ≤ cond (open_by s (is_coming s.now) of.p) 1 0
        mine-fewer =
            let was = coming-is s.now (end_of_plan of.p) (flies machine s ask f.mid of).ends in
            fewer (is_open s a.plan) (is_open s of.p) same (is_coming s.now a.plan) (is_coming s.now of.p) was where
              same : is_open s a.plan ≡ is_open s of.p
              same =
                  let sheet = a.answers.sheet ∙ sym (sheet-is machine s ask f.mid of) in
                  let goal = a.answers.goal ∙ sym (ap (λ (x : Ask). x.goal) of.is) in
                  (λ k. not (list_any (is_same_copy (sheet k)) s.lost) && is_to_tray (goal k))

              fewer : (b c : Bool) → b ≡ c → (x y : Bool) → y ≡ true → cond {A = ℕ} (b && x) 1 0 ≤ cond (c && y) 1 0
              fewer true true e true true g = omega arith
              fewer true true e false true g = omega arith
              fewer true false e x y g = absurd (cc)
              fewer false c e x y g = omega arith
              fewer true true e x false g = absurd (cc)

  pub living-planned : IsLiving machine copies (record s { plans = planned_plans machine s ask f.mid of plans' a same_now }) []
  living-planned = (
    record {
      plans = λ q in'. elim (cases machine s ask f.mid of plans' a same_now q in') [
        | inl other ↦ (let p = from-before machine s ask f.mid of plans' a same_now q other.0 other.1 in riding-kept machine s.now p.0 q (kept machine s ask f.mid of plans' a same_now p.0 q p.1 other.0 other.1 p.2) copies (l.0.plans p.0 p.1))
        | inr mine ↦ subst (IsRiding machine copies s.now) (sym (mine.3 ∙ ap (release_until (s.now + machine.lead)) (mine-is machine s.plans ask plans' a mine.0 mine.1 mine.2)))
            (let r = mine-riding in record { live = r.live; started = r.started; number = r.number })
      ];
      waits = l.0.waits;
      pends = l.0.pends;
      few_live = let few = l.0.few_live in let same = planned-number in omega arith;
      few_open = let few = l.0.few_open in let fewer = planned-coming in omega arith;
    },
    λ q in'. elim (cases machine s ask f.mid of plans' a same_now q in') [
      | inl other ↦ (let p = from-before machine s ask f.mid of plans' a same_now q other.0 other.1 in clear-kept machine s p.0 q (kept machine s ask f.mid of plans' a same_now p.0 q p.1 other.0 other.1 p.2) (l.1 p.0 p.1))
      | inr mine ↦ subst (λ x. is_clear machine s x ≡ true) (sym (mine.3 ∙ ap (release_until (s.now + machine.lead)) (mine-is machine s.plans ask plans' a mine.0 mine.1 mine.2))) mine-clear
    ],
  )

-- The settling.
module _ (machine : Machine) (base : Outset) (copies : ℕ) (s : SessionState) (f : Falls machine base none_breaks s []) (plans : List Plan) (r : IsRetimed machine s.now none_exempt s.plans plans) (l : IsLiving machine copies s []) where
  from : (q : Plan) → Contains plans q → (p : Plan) × Contains s.plans p × IsUnmoved q p
  from q in' =
      let m = Contains-map_from unmoved s.plans (unmoved q) (subst (λ l. Contains l (unmoved q)) r.same (Contains-map unmoved plans q in')) in
      (m.0, m.1, record { is = m.2 })

  settled-kept : (p q : Plan) → Contains s.plans p → Contains plans q → IsUnmoved q p → IsKept machine s.now p q
  settled-kept p q in' in'' u = kept-plan machine s.now s.plans plans none_exempt p q f.mid.plans.legal r.legal f.mid.plans.floors r.floors r.fixed in' in'' refl u

  pub living-settled : IsLiving machine copies (record s { plans = plans }) []
  living-settled = (
    record {
      plans = λ q in'. let p = from q in' in riding-kept machine s.now p.0 q (settled-kept p.0 q p.1 in' p.2) copies (l.0.plans p.0 p.1);
      waits = l.0.waits;
      pends = l.0.pends;
      few_live = let few = l.0.few_live in let same = same-number plans s.plans r.same in omega arith;
      few_open = let few = l.0.few_open in let fewer = coming-fewer machine s plans s.plans r.same (λ q p in' in'' u. settled-kept p q in'' in' u) in omega arith;
    },
    λ q in'. let p = from q in' in clear-kept machine s p.0 q (settled-kept p.0 q p.1 in' p.2) (l.1 p.0 p.1),
  )
