-- A schedule that can be planned on stays so: where less of it is left, by what befalls the copies, and by releases.
use Rattle.std.proofs.Common.{◌≡◌, ℕ, suc, ◌+◌, ◌<◌, ◌≤◌, ◌⊎◌, inl, inr, Bool, true, false, cond, ◌&&◌, ◌||◌, not, List, [], ◌∷◌, length, refl, ap, sym, arith, AllPairs, Contains, subst, slice_index, nat_le, nat_lt}
use Rattle.std.specs.List.{list_any}
use Rattle.std.proofs.lemmas.Bool.Decides.{nat_tests}
use Rattle.std.proofs.lemmas.List.Elements.{All-contains}
use Rattle.tp_machine.specs.declared.parts.ActId.{ActId}
use Rattle.tp_machine.specs.declared.machine.Machine.{Machine}
use Rattle.tp_schedule.specs.Holders.{Run, runs_from}
use Rattle.tp_schedule.specs.PlannerAnswers.{CanPlanOn, last_tick}
use Rattle.tp_schedule.specs.Plans.{IsTimedPlan, IsEarlier, EndsIn, is_front, is_same_copy, is_before, change_plan, point}
use Rattle.tp_schedule.specs.declared.parts.Kind.{Kind}
use Rattle.tp_schedule.specs.declared.parts.Kind.TheVariants.{Whole, Front}
use Rattle.tp_schedule.specs.declared.parts.Plan.{Plan}
use Rattle.tp_schedule.specs.declared.parts.SheetId.{SheetId}
use Rattle.tp_schedule.proofs.CopyFacts.{same_copy-is, before-not_same'}
use Rattle.tp_schedule.proofs.Membership.{Contains-cons_cases, Contains-here, Contains-later, Contains-map_from}
use Rattle.tp_schedule.proofs.Pairs.{AllPairs-head, AllPairs-tail}
use Rattle.tp_event_rules.specs.Clock.{released_until}
use Rattle.tp_event_rules.specs.Fates.{Fate, left_by, is_cut_by, to_purge}
use Rattle.tp_event_rules.specs.Laws.{FatesKeepPlanning}
use Rattle.tp_event_rules.specs.Moments.{is_unstarted, is_running, is_running_on, does_use, release_until}
use Rattle.tp_event_rules.proofs.CutPlans.{AreLeft-one}
use Rattle.tp_event_rules.proofs.LeftPlans.{IsLeft, AreLeft, none, IsLegal-left, KeepsFloors-left, KeepsHorizon-left}
use Rattle.tp_event_rules.proofs.ReleasedPlans.{AreLeft-released, released-below}

pub CanPlanOn-left : (machine : Machine) (now : ℕ) (plans plans' : List Plan) → AreLeft machine plans plans' → CanPlanOn machine now plans → CanPlanOn machine now plans'
CanPlanOn-left machine now plans plans' left can = record {
  now_at_most = can.now_at_most;
  legal = IsLegal-left machine plans plans' left can.legal;
  floors = KeepsFloors-left machine now plans plans' left can.floors;
  horizon = KeepsHorizon-left machine now plans plans' left can.horizon;
}

-- a copy of which an action runs has started
first_is_first : (now : ℕ) (sheet : SheetId) (m : ℕ) (test : Run → Bool) (acts : List ActId) (points : List ℕ)
    → ((j : ℕ) → j < length acts → slice_index points j < slice_index points (suc j)) → length points ≡ length acts + 1
    → list_any (λ run. is_running now run && test run) (runs_from sheet m acts points) ≡ true → slice_index points 0 ≤ now
first_is_first now sheet m test [] points rise len e = absurd (cc)
first_is_first now sheet m test (act ∷ acts) [] rise len e = absurd (cc)
first_is_first now sheet m test (act ∷ acts) (start ∷ []) rise len e = absurd (cc)
first_is_first now sheet m test (act ∷ acts) (start ∷ end ∷ points) rise len e =
    go (nat_le start now) refl e (first_is_first now sheet (m + 1) test acts (end ∷ points) (λ j in'. rise (suc j) (omega arith)) (omega arith)) (rise 0 (omega arith)) where
      go : (b : Bool) → nat_le start now ≡ b
          → (((b && nat_lt now end) && test (record { sheet = sheet; number = m; act = act; start = start; end = end })) || list_any (λ run. is_running now run && test run) (runs_from sheet (m + 1) acts (end ∷ points))) ≡ true
          → (list_any (λ run. is_running now run && test run) (runs_from sheet (m + 1) acts (end ∷ points)) ≡ true → end ≤ now) → start < end → start ≤ now
      go true f e later first = grind (arith, nat_tests)
      go false f e later first = let low = later e in omega arith

pub running-started : (machine : Machine) (now m : ℕ) (p : Plan) → IsTimedPlan machine p → is_running_on machine now m p ≡ true → is_unstarted now p ≡ false
running-started machine now m p timed e =
    let rise : (j : ℕ) → j < length p.acts → point p j < point p (suc j) =
    λ j in'. let next : point p j < point p (j + 1) = timed.rise j in' in
    let same : point p (j + 1) ≡ point p (suc j) = ap (point p) (omega arith) in omega arith in
    let one_more : length p.points ≡ length p.acts + 1 = timed.one_more in
    let low : point p 0 ≤ now = first_is_first now p.sheet 1 (λ run. does_use machine m run.act) p.acts p.points rise one_more e in
    grind (arith, nat_tests)

-- the plans after one is changed: the others, of other copies, and the changed one
pub Contains-change_plan : (copy : SheetId) (f : Plan → Plan) (plans : List Plan) (r : Plan) → AllPairs IsEarlier plans → Contains (change_plan copy f plans) r
    → (Contains plans r × (is_same_copy r.sheet copy ≡ false)) ⊎ ((q : Plan) × Contains plans q × (is_same_copy q.sheet copy ≡ true) × (r ≡ f q))
Contains-change_plan copy f [] r in_order in' = absurd (omega (arith, in'.1))
Contains-change_plan copy f (p ∷ plans) r in_order in' =
    go (is_same_copy p.sheet copy) refl in' (Contains-change_plan copy f plans r (AllPairs-tail IsEarlier p plans in_order)) where
      Cases : List Plan → Type 0
      Cases all = (Contains all r × (is_same_copy r.sheet copy ≡ false)) ⊎ ((q : Plan) × Contains all q × (is_same_copy q.sheet copy ≡ true) × (r ≡ f q))

      wider : Cases plans → Cases (p ∷ plans)
      wider (inl (in'', e)) = inl (Contains-later p plans r in'', e)
      wider (inr (q, in'', e, is)) = inr (q, Contains-later p plans q in'', e, is)

      go : (b : Bool) → is_same_copy p.sheet copy ≡ b → Contains (cond b (f p ∷ plans) (p ∷ change_plan copy f plans)) r
          → (Contains (change_plan copy f plans) r → Cases plans) → Cases (p ∷ plans)
      go true e in'' rest = elim (Contains-cons_cases (f p) plans r in'') [
        | inl is ↦ inr (p, Contains-here p plans, e, sym is)
        | inr later ↦
            let before : is_before p.sheet r.sheet ≡ true = All-contains (IsEarlier p) plans r (AllPairs-head IsEarlier p plans in_order) later in
            inl (Contains-later p plans r later, subst (λ c. is_same_copy r.sheet c ≡ false) (same_copy-is p.sheet copy e) (before-not_same' p.sheet r.sheet before))
      ]
      go false e in'' rest = elim (Contains-cons_cases p (change_plan copy f plans) r in'') [
        | inl is ↦ inl (subst (Contains (p ∷ plans)) is (Contains-here p plans), subst (λ q. is_same_copy q.sheet copy ≡ false) is e)
        | inr later ↦ wider (rest later)
      ]

-- the clock moves
pub CanPlanOn-clock : (machine : Machine) (now to : ℕ) (plans : List Plan) → now ≤ to → to ≤ last_tick → CanPlanOn machine now plans → CanPlanOn machine to (released_until machine to plans)
CanPlanOn-clock machine now to plans low high can =
    let left = AreLeft-released machine to plans in
    let before = CanPlanOn-left machine now plans (released_until machine to plans) left can in
    record {
      now_at_most = high;
      legal = before.legal;
      floors = λ p in' not_exempt i released within.
          let from = Contains-map_from (release_until (to + machine.lead)) plans p in' in
          let timed = All-contains (IsTimedPlan machine) plans from.0 can.legal.timed from.1 in
          subst (λ q. q.released ≤ i → i < length q.acts → to + machine.lead < point q i) (sym from.2)
          (λ r w. released-below machine (to + machine.lead) from.0 i timed r w) released within;
      horizon = λ p in' i within not_fixed.
          let below : point p i ≤ now + machine.window = before.horizon p in' i within not_fixed in omega arith;
    }

-- a plan of a front whose goal becomes a purge
and_false : (b : Bool) → (b && false) ≡ true → ⊥
and_false true e = cc
and_false false e = cc

front-is : (k : Kind) → is_front k ≡ true → k ≡ Front
front-is Whole e = absurd (cc)
front-is Front e = refl

pub IsLeft-to_purge : (machine : Machine) (p : Plan) → is_front p.kind ≡ true → IsLeft machine p (to_purge p)
IsLeft-to_purge machine p is = record {
  sheet = refl;
  timed = λ timed. record {
    some = timed.some;
    at_most = timed.at_most;
    one_more = timed.one_more;
    released = timed.released;
    start = timed.start;
    starts = timed.starts;
    end = timed.end;
    leads = timed.leads;
    rise = timed.rise;
    lasts = timed.lasts;
    ends = subst (λ k. EndsIn machine (to_purge p) k timed.end) (sym (front-is p.kind is)) tt;
  };
  holds = λ resource tick. omega arith;
  runs = λ run in'. in';
  delivered = λ tray to. absurd (and_false (not (is_front p.kind)) to);
  live = λ now e. e;
  begins = λ loc e. e;
  unreleased = λ i released within. (released, within, refl);
  unfixed = λ i within not_fixed. (within, not_fixed, refl);
}

AreLeft-left_by_contained : (machine : Machine) (now : ℕ) (fate : Plan → Fate) (plans : List Plan) → ((p : Plan) → Contains plans p → is_cut_by (fate p) ≡ true → is_unstarted now p ≡ false)
    → AreLeft machine plans (left_by fate now plans)
AreLeft-left_by_contained machine now fate [] started = none
AreLeft-left_by_contained machine now fate (p ∷ plans) started =
    AreLeft-one machine now p (fate p) plans (left_by fate now plans) (λ timed. started p (Contains-here p plans))
    (AreLeft-left_by_contained machine now fate plans (λ q in'. started q (Contains-later p plans q in')))

pub fates_keep_planning : FatesKeepPlanning
fates_keep_planning machine fate s started can =
    CanPlanOn-left machine s.now s.plans (left_by fate s.now s.plans) (AreLeft-left_by_contained machine s.now fate s.plans started) can
