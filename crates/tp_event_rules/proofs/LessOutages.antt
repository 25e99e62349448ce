-- Breaks, fall-backs and outages leave less of a schedule, at the same moment: so it can be planned on, and no more is live.
use Rattle.std.proofs.Common.{◌≡◌, ℕ, ◌≤◌, Bool, true, false, cond, ◌&&◌, not, List, [], ◌∷◌, refl, sym, ◌∙◌, subst}
use Rattle.tp_machine.specs.declared.machine.Machine.{Machine}
use Rattle.tp_schedule.specs.LivePlans.{live_count}
use Rattle.tp_schedule.specs.PlannerAnswers.{CanPlanOn}
use Rattle.tp_schedule.specs.Plans.{IsTimedPlan}
use Rattle.tp_schedule.specs.declared.parts.Plan.{Plan}
use Rattle.tp_schedule.specs.declared.parts.SheetId.{SheetId}
use Rattle.tp_event_rules.specs.States.{SessionState, Outcome, nothing_told, and_then, for_each}
use Rattle.tp_event_rules.specs.Lines.{is_job_broken}
use Rattle.tp_event_rules.specs.Fates as fates
use Rattle.tp_event_rules.specs.Fates.{Fate, befall, is_cut_by}
use Rattle.tp_event_rules.specs.FallBacks.{Displaced, is_copy, is_line_entering, job_break, next_waits, later_fall_back, fall_back, fall_back_unless_broken, fate_in_break, fate_in_fall_back}
use Rattle.tp_event_rules.specs.Laws.{IsPlannable, BreaksKeepPlanning, FallBacksKeepPlanning, OutagesKeepPlanning, OutagesKeepMoment, OutagesKeepLive}
use Rattle.tp_event_rules.specs.Moments.{is_unstarted, is_running_on}
use Rattle.tp_event_rules.specs.Outages.{fate_of_others, fate_in_outage, displaced, with_out, going_out, outage}
use Rattle.tp_event_rules.proofs.CutPlans.{AreLeft-left_by}
use Rattle.tp_event_rules.proofs.LeftPlans.{AreLeft, AreLeft-refl, AreLeft-trans, live_count-left}
use Rattle.tp_event_rules.proofs.PlanOnFacts.{CanPlanOn-left, running-started}

-- the same moment and refills, and less of the schedule
pub record IsLess (machine : Machine) (s s' : SessionState) : Type 0 where
  pub now : s'.now ≡ s.now
  pub refills : s'.refills ≡ s.refills
  pub plans : AreLeft machine s.plans s'.plans

pub IsLess-refl : (machine : Machine) (s : SessionState) → IsLess machine s s
IsLess-refl machine s = record { now = refl; refills = refl; plans = AreLeft-refl machine s.plans }

pub IsLess-trans : (machine : Machine) (s t u : SessionState) → IsLess machine s t → IsLess machine t u → IsLess machine s u
IsLess-trans machine s t u less less' = record { now = less'.now ∙ less.now; refills = less'.refills ∙ less.refills; plans = AreLeft-trans machine s.plans t.plans u.plans less.plans less'.plans }

pub plannable-less : (machine : Machine) (s s' : SessionState) → IsLess machine s s' → IsPlannable machine s → IsPlannable machine s'
plannable-less machine s s' less can = subst (λ n. CanPlanOn machine n s'.plans) (sym less.now) (CanPlanOn-left machine s.now s.plans s'.plans less.plans can)

live-less : (machine : Machine) (s s' : SessionState) → IsLess machine s s' → live_count machine s'.now s'.plans ≤ live_count machine s.now s.plans
live-less machine s s' less = subst (λ n. live_count machine n s'.plans ≤ live_count machine s.now s.plans) (sym less.now) (live_count-left machine s.now s.plans s'.plans less.plans)

-- what a part keeps, it keeps for each of several things
pub for_each-keeps : {X : Type 0} (K : SessionState → Type 0) (part : SessionState → X → Outcome)
    → ((s : SessionState) (x : X) → K s → K (part s x).state) → (xs : List X) (s : SessionState) → K s → K (for_each part xs s).state
for_each-keeps K part each [] s k = k
for_each-keeps K part each (x ∷ xs) s k = for_each-keeps K part each xs (part s x).state (each s x k)

-- only started copies are cut
break_cuts : (mine unstarted way : Bool) → is_cut_by (cond (not mine) fates.stays (cond unstarted fates.dropped (cond way fates.purged fates.stays))) ≡ true → unstarted ≡ false
break_cuts false unstarted way e = absurd (cc)
break_cuts true true way e = absurd (cc)
break_cuts true false way e = refl

fall_back_cuts : (later unstarted way : Bool) → is_cut_by (cond (not later) fates.stays (cond unstarted fates.withdrawn (cond way fates.replaced fates.stays))) ≡ true → unstarted ≡ false
fall_back_cuts false unstarted way e = absurd (cc)
fall_back_cuts true true way e = absurd (cc)
fall_back_cuts true false way e = refl

others_cut : (used unstarted : Bool) → is_cut_by (cond (not used) fates.stays (cond unstarted fates.withdrawn fates.cut)) ≡ true → unstarted ≡ false
others_cut false unstarted e = absurd (cc)
others_cut true true e = absurd (cc)
others_cut true false e = refl

less-befall : (machine : Machine) (fate : Plan → Fate) (s : SessionState) → ((p : Plan) → IsTimedPlan machine p → is_cut_by (fate p) ≡ true → is_unstarted s.now p ≡ false) → IsLess machine s (befall fate s)
less-befall machine fate s started = record { now = refl; refills = refl; plans = AreLeft-left_by machine s.now fate s.plans started }

less-job_break : (machine : Machine) (job : ℕ) (s : SessionState) → IsLess machine s (job_break job s).state
less-job_break machine job s =
    let less = less-befall machine (fate_in_break s job) s (λ p timed e. break_cuts _ (is_unstarted s.now p) _ e) in record { now = less.now; refills = less.refills; plans = less.plans }

-- one of two outcomes
less-either : (machine : Machine) (s : SessionState) (b : Bool) (o q : Outcome) → IsLess machine s o.state → IsLess machine s q.state → IsLess machine s (cond b o q).state
less-either machine s true o q one other = one
less-either machine s false o q one other = other

less-next_waits : (machine : Machine) (d : Displaced) (s : SessionState) → IsLess machine s (next_waits d s).state
less-next_waits machine d s = less-either machine s d.again _ (nothing_told s) (record { now = refl; refills = refl; plans = AreLeft-refl machine s.plans }) (IsLess-refl machine s)

less-later : (machine : Machine) (copy : SheetId) (s : SessionState) → IsLess machine s (later_fall_back copy s).state
less-later machine copy s = less-befall machine (fate_in_fall_back s copy) s (λ p timed e. fall_back_cuts _ (is_unstarted s.now p) _ e)

pub less-fall_back : (machine : Machine) (s : SessionState) (d : Displaced) → IsLess machine s (fall_back s d).state
less-fall_back machine s d =
    less-either machine s (is_line_entering s d.sheet) (job_break d.sheet.job s) (and_then (next_waits d s) (later_fall_back d.sheet)) (less-job_break machine d.sheet.job s)
    (IsLess-trans machine s (next_waits d s).state (later_fall_back d.sheet (next_waits d s).state).state (less-next_waits machine d s) (less-later machine d.sheet (next_waits d s).state))

less-unless_broken : (machine : Machine) (s : SessionState) (d : Displaced) → IsLess machine s (fall_back_unless_broken s d).state
less-unless_broken machine s d = less-either machine s (is_job_broken s.jobs d.sheet.job) (nothing_told s) (fall_back s d) (IsLess-refl machine s) (less-fall_back machine s d)

outage_cuts : (machine : Machine) (m : ℕ) (jam : Bool) (s : SessionState) (p : Plan) → IsTimedPlan machine p → is_cut_by (fate_in_outage machine m jam s p) ≡ true → is_unstarted s.now p ≡ false
outage_cuts machine m jam s p timed e = go jam (is_copy s p) (is_running_on machine s.now m p) refl e where
  go : (j c r : Bool) → is_running_on machine s.now m p ≡ r → is_cut_by (cond ((j && c) && r) fates.lost (fate_of_others machine m s p)) ≡ true → is_unstarted s.now p ≡ false
  go true true true f e = running-started machine s.now m p timed f
  go true true false f e = others_cut _ (is_unstarted s.now p) e
  go true false r f e = others_cut _ (is_unstarted s.now p) e
  go false c r f e = others_cut _ (is_unstarted s.now p) e

pub less-outage : (machine : Machine) (m : ℕ) (jam : Bool) (s : SessionState) → IsLess machine s (outage machine m jam s).state
less-outage machine m jam s =
    let first = less-befall machine (fate_in_outage machine m jam s) (with_out m s) (outage_cuts machine m jam s) in
    for_each-keeps (IsLess machine s) fall_back_unless_broken (λ q d less. IsLess-trans machine s q (fall_back_unless_broken q d).state less (less-unless_broken machine q d))
    (displaced machine m jam s) (going_out machine m jam s).state (record { now = first.now; refills = first.refills; plans = first.plans })

-- the laws of these parts
pub breaks_keep_planning : BreaksKeepPlanning
breaks_keep_planning machine job s can = plannable-less machine s (job_break job s).state (less-job_break machine job s) can

pub fall_backs_keep_planning : FallBacksKeepPlanning
fall_backs_keep_planning machine s d can = plannable-less machine s (fall_back s d).state (less-fall_back machine s d) can

pub outages_keep_planning : OutagesKeepPlanning
outages_keep_planning machine m jam s can = plannable-less machine s (outage machine m jam s).state (less-outage machine m jam s) can

pub outages_keep_moment : OutagesKeepMoment
outages_keep_moment machine m jam s = (less-outage machine m jam s).now

pub outages_keep_live : OutagesKeepLive
outages_keep_live machine m jam s = live-less machine s (outage machine m jam s).state (less-outage machine m jam s)
