-- Where a live state is kept, a copy that waits can be asked while fewer than 256 copies are live.
use Rattle.std.proofs.Common.{◌≡◌, ◌≢◌, ℕ, ◌<◌, inl, inr, true, false, ◌&&◌, not, List, length, None, refl, sym, ap, ◌∙◌, arith, All, AllPairs, Contains, IsTrue}
use Rattle.std.specs.Prelude.{IsFalse}
use Rattle.std.specs.Str.{bytes_eq}
use Rattle.std.proofs.lemmas.Bool.{cases_lt, and_parts}
use Rattle.std.proofs.lemmas.Bool.Decides.{nat_tests}
use Rattle.std.proofs.lemmas.List.Elements.{All-contains}
use Rattle.std.proofs.lemmas.List.Sums.{length-filter}
use Rattle.std.proofs.lemmas.Option.{get_or_from_slice_get}
use Rattle.std.proofs.lemmas.Slice.Eq.{bytes_eq-Decides}
use Rattle.tp_base.proofs.SliceFacts.{All-at, found}
use Rattle.tp_machine.proofs.Lists.{All-from_none}
use Rattle.tp_machine.specs.declared.machine.Machine.{Machine}
use Rattle.tp_schedule.proofs.CopyFacts.{before-asym}
use Rattle.tp_schedule.proofs.Membership.{Contains-filter}
use Rattle.tp_schedule.specs.LivePlans.{is_live, live_count}
use Rattle.tp_schedule.specs.PlannerAnswers.{CanAsk, CanPlanOn}
use Rattle.tp_schedule.specs.Plans.{AreNamed, goes_to, is_before, is_delivered_to, is_front, is_same_copy, plan_of, without}
use Rattle.tp_schedule.specs.declared.parts.Goal.{Goal}
use Rattle.tp_schedule.specs.declared.parts.Goal.TheVariants.{Tray, Purge}
use Rattle.tp_schedule.specs.declared.parts.Plan.{Plan}
use Rattle.tp_schedule.specs.declared.parts.SheetId.{SheetId}
use Rattle.tp_jobs.proofs.Found.{find-none}
use Rattle.tp_jobs.specs.Backlogs.{tray_of}
use Rattle.tp_jobs.specs.declared.parts.Job.{Job}
use Rattle.tp_jobs.specs.declared.parts.WaitingCopy.{WaitingCopy}
use Rattle.tp_event_rules.proofs.ReadyFacts.{few-plans}
use Rattle.tp_event_rules.proofs.TestFacts.{count-part}
use Rattle.tp_event_rules.specs.AskPhase.{ask_waiting, is_full}
use Rattle.tp_event_rules.specs.StateInvariants.{StandsBehind, is_known, is_of_its_job, is_own_goal, is_planned_among, tray_plans}
use Rattle.tp_event_rules.specs.Labels.{job_name, job_name_in}
use Rattle.tp_event_rules.specs.Lines.{is_same_line}
use Rattle.tp_event_rules.specs.Moments.{is_to_tray, is_tray_plan}
use Rattle.tp_event_rules.specs.Ready.{KeepsLive}
use Rattle.tp_event_rules.specs.States.{SessionState}

-- what a plan of its job is: the job came, its name is the plan's, and its tray is the goal where the plan goes to a tray
pub record IsOfItsJob (jobs : List Job) (p : Plan) : Type 0 where
  pub known : p.sheet.job < length jobs
  pub name : p.name ≡ job_name jobs p.sheet.job
  pub goal : is_own_goal p.goal (tray_of jobs p.sheet).0 ≡ true

pub of-its-job : (jobs : List Job) (p : Plan) → is_of_its_job jobs p ≡ true → IsOfItsJob jobs p
of-its-job jobs p e =
    let outer = and_parts (is_known jobs p.sheet && bytes_eq p.name (job_name jobs p.sheet.job)) (is_own_goal p.goal (tray_of jobs p.sheet).0) e in
    let inner = and_parts (is_known jobs p.sheet) (bytes_eq p.name (job_name jobs p.sheet.job)) outer.0 in
    let known : is_known jobs p.sheet ≡ true = inner.0 in
    record {
      known = grind (arith, nat_tests);
      name = (bytes_eq-Decides p.name (job_name jobs p.sheet.job)).0 inner.1;
      goal = outer.1;
    }

-- two jobs of one name are one job
one-job : (jobs : List Job) (m n : ℕ) → AllPairs (λ i j. i.name ≢ j.name) jobs → m < length jobs → n < length jobs → job_name jobs m ≡ job_name jobs n → m ≡ n
one-job jobs m n differ within within' same =
    let i = found jobs m within in
    let j = found jobs n within' in
    let names : i.0.name ≡ j.0.name = sym (ap job_name_in i.1) ∙ same ∙ ap job_name_in j.1 in
    elim (cases_lt m n) [
      | inl before ↦ absurd (differ m n i.0 before within' (ap (λ (k : Job). k.name) (get_or_from_slice_get jobs m i.0 i.0 i.1) ∙ names ∙ sym (ap (λ (k : Job). k.name) (get_or_from_slice_get jobs n j.0 i.0 j.1))))
      | inr above ↦ elim (cases_lt n m) [
        | inl after ↦ absurd (differ n m j.0 after within (ap (λ (k : Job). k.name) (get_or_from_slice_get jobs n j.0 j.0 j.1) ∙ sym names ∙ sym (ap (λ (k : Job). k.name) (get_or_from_slice_get jobs m i.0 j.0 i.1))))
        | inr below ↦ omega arith
      ]
    ]

module _ (machine : Machine) (copies : ℕ) (s : SessionState) (can : KeepsLive machine copies s) where
  its-job : (p : Plan) → Contains s.plans p → IsOfItsJob s.jobs p
  its-job p in' = of-its-job s.jobs p (All-contains (λ p. IsTrue (is_of_its_job s.jobs p)) s.plans p can.lines.plans_known in')

  pub named : AreNamed s.plans
  named p q in' in'' same =
      let one = its-job p in' in
      let other = its-job q in'' in
      one-job s.jobs p.sheet.job q.sheet.job can.jobs.names one.known other.known (sym one.name ∙ same ∙ other.name)

  pub plan-on : CanPlanOn machine s.now s.plans
  plan-on = record { now_at_most = can.now_at_most; legal = can.plans.legal; floors = can.plans.floors; horizon = can.plans.horizon }

  -- the tray of a job is one of the machine's
  tray-of-job : (copy : SheetId) → copy.job < length s.jobs → Contains machine.trays (tray_of s.jobs copy)
  tray-of-job copy known =
      let there = found s.jobs copy.job known in
      rw there.1 (All-at (λ j. Contains machine.trays j.tray) s.jobs copy.job there.0 can.jobs.trays there.1)

  module _ (w : WaitingCopy) (waits : Contains s.waiting w) where
    unplanned : plan_of w.sheet s.plans ≡ None
    unplanned =
        let none = All-contains (λ v. IsFalse (is_planned_among s.plans v.sheet)) s.waiting w can.lines.unplanned waits in
        find-none (λ p. is_same_copy p.sheet w.sheet) s.plans (All-from_none (λ p. is_same_copy p.sheet w.sheet) (λ p. is_same_copy p.sheet w.sheet ≡ false) (λ p e. e) s.plans none)

    -- the tray of its job is one of the machine's
    pub tray-known : Contains machine.trays (tray_of s.jobs w.sheet)
    tray-known =
        let known : is_known s.jobs w.sheet ≡ true = All-contains (λ v. IsTrue (is_known s.jobs v.sheet)) s.waiting w can.lines.waiting_known waits in
        tray-of-job w.sheet (grind (arith, nat_tests))

    -- a whole plan to the tray of a copy that waits is in its line, so that it stands before it
    stands-before : (p : Plan) → Contains s.plans p → is_delivered_to p (tray_of s.jobs w.sheet).0 ≡ true → is_before p.sheet w.sheet ≡ true
    stands-before p in' delivered =
        let parts = and_parts (not (is_front p.kind)) (goes_to p.goal (tray_of s.jobs w.sheet).0) delivered in
        let its = by-goal p.goal parts.1 (its-job p in').goal in
        let tray : is_tray_plan p ≡ true = rw (parts.0, its.0) refl in
        All-contains (StandsBehind s.jobs w) (tray_plans s.plans) p
        (All-contains (λ v. All (StandsBehind s.jobs v) (tray_plans s.plans)) s.waiting w can.lines.line waits)
        (Contains-filter is_tray_plan s.plans p in' tray) its.1 where
          by-goal : (g : Goal) → goes_to g (tray_of s.jobs w.sheet).0 ≡ true → is_own_goal g (tray_of s.jobs p.sheet).0 ≡ true → (is_to_tray g ≡ true) × (is_same_line s.jobs w.sheet p.sheet ≡ true)
          by-goal (Tray t) to own = (refl, grind (arith, nat_tests))
          by-goal Purge to own = absurd (cc)

    pub can-ask : is_full machine s ≡ false → CanAsk machine s.plans (ask_waiting machine s w)
    can-ask free = record {
      plan_on = plan-on;
      few_live =
          let few : live_count machine s.now s.plans < 256 = grind (arith, nat_tests) in
          let part = count-part (is_live machine s.now) (λ p. not (is_same_copy p.sheet w.sheet)) s.plans in
          let one = length-filter (is_live machine s.now) s.plans in
          let other = length-filter (is_live machine s.now) (without w.sheet s.plans) in
          omega arith;
      named = named;
      asked = unplanned;
      has_time = let few = few-plans machine copies s can in omega arith;
      open_goal = (tray-known, λ p in' delivered before. absurd (let after = before-asym w.sheet p.sheet before in let ahead = stands-before p in' delivered in cc));
    }
