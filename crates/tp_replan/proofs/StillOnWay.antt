-- Breaks, fall-backs and outages leave a schedule over which the loop can go on.
use Rattle.std.proofs.Common.{◌≡◌, ℕ, ◌<◌, Bool, true, false, cond, not, ◌&&◌, ◌==◌, nat_le, nat_lt, [], ◌∷◌, All, Contains, refl, sym, ◌∙◌, arith}
use Rattle.std.proofs.lemmas.Bool.Decides.{nat_tests}
use Rattle.std.proofs.lemmas.List.Elements.{All-contains, All-weaker}
use Rattle.tp_machine.specs.declared.machine.Machine.{Machine}
use Rattle.tp_schedule.specs.Plans.{IsFormed, IsTimedPlan, end_of_plan}
use Rattle.tp_schedule.specs.declared.parts.Plan.{Plan}
use Rattle.tp_schedule.specs.declared.parts.SheetId.{SheetId}
use Rattle.tp_schedule.specs.declared.records.Record.TheVariants.{Again}
use Rattle.tp_jobs.specs.Backlogs.{next_copy}
use Rattle.tp_jobs.specs.WaitingCopies.{put_waiting}
use Rattle.tp_event_rules.specs.Fates as fates
use Rattle.tp_event_rules.specs.Fates.{is_cut_by}
use Rattle.tp_event_rules.specs.FallBacks.{Displaced, fall_back, fall_back_unless_broken, fate_in_break, fate_in_fall_back, is_copy, is_later, is_line_entering, is_on_its_way, job_break, later_fall_back, next_waits}
use Rattle.tp_event_rules.specs.Labels.{label}
use Rattle.tp_event_rules.specs.Lines.{is_job_broken}
use Rattle.tp_event_rules.specs.Moments.{does_use, is_entering, is_in_flight, is_running, is_running_on, is_started, is_to_run_on, is_to_tray, is_unstarted}
use Rattle.tp_event_rules.specs.Outages.{displaced, fate_in_outage, going_out, is_lost_by, outage}
use Rattle.tp_event_rules.specs.States.{Outcome, SessionState, and_then, nothing_told}
use Rattle.tp_event_rules.proofs.PlanOnFacts.{running-started}
use Rattle.tp_event_rules.proofs.LessOutages.{for_each-keeps}
use Rattle.tp_replan.specs.LooseLoop.{CanLoop, IsOnWay}
use Rattle.tp_replan.proofs.AllFall.{can-outage}
use Rattle.tp_replan.proofs.OnWay.{CutsRunning, befall-on, runs-late}
use Rattle.tp_replan.proofs.OpenFacts.{and-first, and-second, and-third}

abbrev pub IsStateOnWay : Machine → SessionState → Type 0
IsStateOnWay machine s = IsOnWay machine s.now s.plans s.lost

pub flight-late : (machine : Machine) (now : ℕ) (p : Plan) → IsTimedPlan machine p → is_in_flight now p ≡ true → now < end_of_plan p
flight-late machine now p timed e = runs-late machine now (is_running now) p timed (λ run f up. let high = and-second (is_started now run) (nat_lt now run.end) f in grind (arith, nat_tests)) e

running-late : (machine : Machine) (now m : ℕ) (p : Plan) → IsTimedPlan machine p → is_running_on machine now m p ≡ true → now < end_of_plan p
running-late machine now m p timed e = runs-late machine now (λ run. is_running now run && does_use machine m run.act) p timed
    (λ run f up. let high = and-second (is_started now run) (nat_lt now run.end) (and-first (is_running now run) (does_use machine m run.act) f) in grind (arith, nat_tests)) e

to_run-late : (machine : Machine) (now m : ℕ) (p : Plan) → IsTimedPlan machine p → is_to_run_on machine now m p ≡ true → now < end_of_plan p
to_run-late machine now m p timed e = runs-late machine now (λ run. not (is_started now run) && does_use machine m run.act) p timed
    (λ run f up. let high = and-first (not (is_started now run)) (does_use machine m run.act) f in let late : now < run.start = above run.start high in omega arith) e where
      above : (start : ℕ) → not (nat_le start now) ≡ true → now < start
      above start f = grind (arith, nat_tests)

pub fall_back-cuts : (machine : Machine) (s : SessionState) (copy : SheetId) (p : Plan) → IsTimedPlan machine p → CutsRunning s (fate_in_fall_back s copy) p
fall_back-cuts machine s copy p timed = record {
  started = λ cut. start (is_later s copy p) (is_unstarted s.now p) (is_on_its_way s.now p) cut;
  late = λ cut. flight-late machine s.now p timed (and-first (is_in_flight s.now p) (is_to_tray p.goal) (way (is_later s copy p) (is_unstarted s.now p) (is_on_its_way s.now p) cut));
} where
  start : (a b d : Bool) → is_cut_by (cond (not a) fates.stays (cond b fates.withdrawn (cond d fates.replaced fates.stays))) ≡ true → b ≡ false
  start false b d e = absurd cc
  start true true d e = absurd cc
  start true false d e = refl

  way : (a b d : Bool) → is_cut_by (cond (not a) fates.stays (cond b fates.withdrawn (cond d fates.replaced fates.stays))) ≡ true → d ≡ true
  way false b d e = absurd cc
  way true true d e = absurd cc
  way true false true e = refl
  way true false false e = absurd cc

break-cuts : (machine : Machine) (s : SessionState) (job : ℕ) (p : Plan) → IsTimedPlan machine p → CutsRunning s (fate_in_break s job) p
break-cuts machine s job p timed = record {
  started = λ cut. start ((p.sheet.job == job) && is_copy s p) (is_unstarted s.now p) (is_on_its_way s.now p && not (is_entering s.now p)) cut;
  late = λ cut. flight-late machine s.now p timed (and-first (is_in_flight s.now p) (is_to_tray p.goal) (and-first (is_on_its_way s.now p) (not (is_entering s.now p))
      (way ((p.sheet.job == job) && is_copy s p) (is_unstarted s.now p) (is_on_its_way s.now p && not (is_entering s.now p)) cut)));
} where
  start : (a b d : Bool) → is_cut_by (cond (not a) fates.stays (cond b fates.dropped (cond d fates.purged fates.stays))) ≡ true → b ≡ false
  start false b d e = absurd cc
  start true true d e = absurd cc
  start true false d e = refl

  way : (a b d : Bool) → is_cut_by (cond (not a) fates.stays (cond b fates.dropped (cond d fates.purged fates.stays))) ≡ true → d ≡ true
  way false b d e = absurd cc
  way true true d e = absurd cc
  way true false true e = refl
  way true false false e = absurd cc

pub outage-cuts : (machine : Machine) (m : ℕ) (jam : Bool) (s : SessionState) (p : Plan) → IsTimedPlan machine p → CutsRunning s (fate_in_outage machine m jam s) p
outage-cuts machine m jam s p timed = record {
  started = λ cut. start (is_lost_by machine m jam s p) refl (is_copy s p && is_to_run_on machine s.now m p) (is_unstarted s.now p) refl cut;
  late = λ cut. late (is_lost_by machine m jam s p) refl (is_copy s p && is_to_run_on machine s.now m p) refl (is_unstarted s.now p) cut;
} where
  runs : is_lost_by machine m jam s p ≡ true → is_running_on machine s.now m p ≡ true
  runs e = and-third jam (is_copy s p) (is_running_on machine s.now m p) e

  start : (a : Bool) → is_lost_by machine m jam s p ≡ a → (b d : Bool) → is_unstarted s.now p ≡ d → is_cut_by (cond a fates.lost (cond (not b) fates.stays (cond d fates.withdrawn fates.cut))) ≡ true → d ≡ false
  start true e b d f cut = sym f ∙ running-started machine s.now m p timed (runs e)
  start false e false d f cut = absurd cc
  start false e true true f cut = absurd cc
  start false e true false f cut = refl

  late : (a : Bool) → is_lost_by machine m jam s p ≡ a → (b : Bool) → (is_copy s p && is_to_run_on machine s.now m p) ≡ b → (d : Bool)
      → is_cut_by (cond a fates.lost (cond (not b) fates.stays (cond d fates.withdrawn fates.cut))) ≡ true → s.now < end_of_plan p
  late true e b f d cut = running-late machine s.now m p timed (runs e)
  late false e true f d cut = to_run-late machine s.now m p timed (and-second (is_copy s p) (is_to_run_on machine s.now m p) f)
  late false e false f d cut = absurd cc

pub timed-in : (machine : Machine) (s : SessionState) → IsStateOnWay machine s → (p : Plan) → Contains s.plans p → IsTimedPlan machine p
timed-in machine s on p in' = All-contains (IsTimedPlan machine) s.plans p on.plan_on.legal.timed in'

pub on-make_way : (machine : Machine) (s : SessionState) (copy : SheetId) → IsStateOnWay machine s → IsStateOnWay machine (later_fall_back copy s).state
on-make_way machine s copy on = befall-on machine s (fate_in_fall_back s copy) on (λ p in'. fall_back-cuts machine s copy p (timed-in machine s on p in'))

pub on-break : (machine : Machine) (s : SessionState) (job : ℕ) → IsStateOnWay machine s → IsStateOnWay machine (job_break job s).state
on-break machine s job on = befall-on machine s (fate_in_break s job) on (λ p in'. break-cuts machine s job p (timed-in machine s on p in'))

on-wait_next : (machine : Machine) (s : SessionState) (d : Displaced) → IsStateOnWay machine s → IsStateOnWay machine (next_waits d s).state
on-wait_next machine s d on = go d.again where
  go : (b : Bool) → IsStateOnWay machine (cond {A = Outcome} b (record {
    records = Again (label s.jobs (next_copy d.sheet)) ∷ [];
    state = record s { waiting = put_waiting s.waiting (record { sheet = next_copy d.sheet; want = d.want }) };
  }) (nothing_told s)).state
  go true = on
  go false = on

pub on-fall_back : (machine : Machine) (s : SessionState) (d : Displaced) → IsStateOnWay machine s → IsStateOnWay machine (fall_back s d).state
on-fall_back machine s d on = go (is_line_entering s d.sheet) where
  go : (b : Bool) → IsStateOnWay machine (cond {A = Outcome} b (job_break d.sheet.job s) (and_then (next_waits d s) (later_fall_back d.sheet))).state
  go true = on-break machine s d.sheet.job on
  go false = on-make_way machine (next_waits d s).state d.sheet (on-wait_next machine s d on)

pub on-unless_broken : (machine : Machine) (s : SessionState) (d : Displaced) → IsStateOnWay machine s → IsStateOnWay machine (fall_back_unless_broken s d).state
on-unless_broken machine s d on = go (is_job_broken s.jobs d.sheet.job) where
  go : (b : Bool) → IsStateOnWay machine (cond {A = Outcome} b (nothing_told s) (fall_back s d)).state
  go true = on
  go false = on-fall_back machine s d on

pub on-outage : (machine : Machine) (m : ℕ) (jam : Bool) (s : SessionState) → IsStateOnWay machine s → IsStateOnWay machine (outage machine m jam s).state
on-outage machine m jam s on =
    for_each-keeps (IsStateOnWay machine) fall_back_unless_broken (λ t d on. on-unless_broken machine t d on) (displaced machine m jam s) (going_out machine m jam s).state
    (befall-on machine s (fate_in_outage machine m jam s) on (λ p in'. outage-cuts machine m jam s p (timed-in machine s on p in')))

-- the loop can go on after an outage
pub formed-in : (machine : Machine) (s : SessionState) → IsStateOnWay machine s → All IsFormed s.plans
formed-in machine s on = All-weaker (IsTimedPlan machine) IsFormed (λ p timed. record { some = timed.some; one_more = timed.one_more; released = timed.released }) s.plans on.plan_on.legal.timed

pub loop-outage : (machine : Machine) (m : ℕ) (jam : Bool) (s : SessionState) → CanLoop machine s → CanLoop machine (outage machine m jam s).state
loop-outage machine m jam s can = record {
  on_way = on-outage machine m jam s can.on_way;
  fall = (can-outage machine m jam s (record { fall = can.fall; formed = formed-in machine s can.on_way })).fall;
}
