-- A copy that waits is planned as the first of its line: what a live state keeps stays kept.
use Rattle.std.proofs.Common.{◌≡◌, ℕ, ◌+◌, ◌-◌, ◌<◌, ◌≤◌, inl, inr, Bool, true, false, ◌&&◌, ◌||◌, not, List, length, refl, sym, ap, ◌∙◌, arith, All, Contains, IsTrue, subst, nat_lt}
use Rattle.std.specs.Prelude.{IsFalse}
use Rattle.std.proofs.lemmas.Bool.Decides.{nat_tests}
use Rattle.std.proofs.lemmas.List.Elements.{All-filter, All-contains}
use Rattle.std.proofs.lemmas.List.Folds.{list_any_at}
use Rattle.tp_machine.specs.declared.machine.Machine.{Machine}
use Rattle.tp_jobs.specs.declared.parts.WaitingCopy.{WaitingCopy}
use Rattle.tp_jobs.specs.Backlogs.{tray_of}
use Rattle.tp_schedule.specs.Answers.{KeepsFloors}
use Rattle.tp_schedule.specs.Legality.{IsLegal}
use Rattle.tp_schedule.specs.PlannerAnswers.{none_exempt}
use Rattle.tp_schedule.proofs.Membership.{All-from_contains}
use Rattle.tp_schedule.specs.LivePlans.{is_live}
use Rattle.tp_schedule.specs.Plans.{IsTimedPlan, is_fixed, is_front, is_same_copy, point}
use Rattle.tp_schedule.specs.declared.parts.Goal.{Goal}
use Rattle.tp_schedule.specs.declared.parts.Goal.TheVariants.{Tray}
use Rattle.tp_schedule.specs.declared.parts.Plan.{Plan}
use Rattle.tp_schedule.specs.declared.parts.SheetId.{SheetId}
use Rattle.tp_event_rules.specs.AskPhase.{ask_waiting, is_full}
use Rattle.tp_event_rules.specs.Lines.{is_job_broken}
use Rattle.tp_event_rules.specs.Moments.{is_to_tray}
use Rattle.tp_event_rules.specs.Ready.{CopiesAtMost, EntersWhereBroken, HasStartedWhole, KeepsBroken, KeepsLive}
use Rattle.tp_event_rules.specs.Seen.{HasStarted}
use Rattle.tp_event_rules.specs.States.{SessionState}
use Rattle.tp_event_rules.proofs.AnsweredPlans.{IsUnmoved, plan-cases, unmoved-sheet, unmoved-tray_plan}
use Rattle.tp_event_rules.proofs.AskedFacts.{IsAskedFirst, mine-there}
use Rattle.tp_event_rules.proofs.AskedKept.{plans-asked, retimed-plan}
use Rattle.tp_event_rules.proofs.AskedLines.{lines-asked, planned_waiting}
use Rattle.tp_event_rules.proofs.AskedPlans.{IsRetimedPlan, live-before, low-stays}
use Rattle.tp_event_rules.proofs.AskedSheets.{older-asked}

and-second : (a b : Bool) → b ≡ false → (a && b) ≡ false
and-second true b e = e
and-second false b e = refl

module _ (machine : Machine) (s : SessionState) (w : WaitingCopy) (plans' : List Plan) (f : IsAskedFirst machine s w plans') (legal : IsLegal machine s.plans) (low : KeepsFloors machine s.now none_exempt s.plans) where
  floors : (q : Plan) → Contains plans' q → (i : ℕ) → q.released ≤ i → i < length q.acts → s.now < point q i
  floors q in' i released within =
      let above : s.now + machine.lead < point q i = f.a.floors q in' (and-second (is_same_copy q.sheet w.sheet) _ refl) i released within in omega arith

  -- a plan of before is that of after at other points, too
  retimed-back : (q p : Plan) → Contains plans' q → Contains s.plans p → IsUnmoved q p → IsRetimedPlan machine s.now q p
  retimed-back q p in' in'' u =
      let r = retimed-plan machine s w plans' f legal low q p in' in'' u in
      let acts : length q.acts ≡ length p.acts = ap (λ (x : Plan). length x.acts) u.is in
      record {
        unmoved = record { is = sym u.is };
        timed = r.timed';
        timed' = r.timed;
        floors = floors q in';
        fixed = λ i is within. sym (r.fixed i (sym (ap (λ (x : Plan). is_fixed x i) u.is) ∙ is) (omega arith));
      }

  mine-live : is_live machine s.now f.a.plan ≡ true
  mine-live =
      let there = mine-there machine s w plans' f in
      let timed = All-contains (IsTimedPlan machine) plans' f.a.plan f.a.legal.timed there in
      let one_more : length f.a.plan.points ≡ length f.a.plan.acts + 1 = timed.one_more in
      let none : f.a.plan.released ≡ 0 = f.a.answers.released in
      let first : s.now < point f.a.plan 0 = floors f.a.plan there 0 (omega arith) timed.some in
      let above : nat_lt s.now (point f.a.plan 0) ≡ true = grind (arith, nat_tests) in
      rw (list_any_at (nat_lt s.now) f.a.plan.points 0 0 (omega arith) above) refl

  -- where all plans were live, all are
  pub live-asked : All (λ p. IsTrue (is_live machine s.now p)) s.plans → All (λ p. IsTrue (is_live machine s.now p)) plans'
  live-asked live = All-from_contains (λ p. IsTrue (is_live machine s.now p)) plans' (λ q in'.
      elim (plan-cases machine s.plans (ask_waiting machine s w) plans' f.a q in') [
        | inl e ↦ subst (λ (p : Plan). is_live machine s.now p ≡ true) (sym e) mine-live
        | inr other ↦ live-before machine s.now q other.0 (retimed-back q other.0 in' other.1 other.2) (All-contains (λ p. IsTrue (is_live machine s.now p)) s.plans other.0 live other.1)
      ])

  -- no copy of a broken job waits, so that none of one is planned
  pub broken-asked : KeepsBroken s → KeepsBroken (planned_waiting s w plans')
  broken-asked broken = record {
    waiting = All-filter (λ v. not (is_same_copy v.sheet w.sheet)) (λ v. IsFalse (is_job_broken s.jobs v.sheet.job)) s.waiting broken.waiting;
    plans = All-from_contains (EntersWhereBroken s.now s.jobs) plans' (λ q in' tray is.
        elim (plan-cases machine s.plans (ask_waiting machine s w) plans' f.a q in') [
          | inl e ↦ absurd (
              let whole = All-contains (λ v. IsFalse (is_job_broken s.jobs v.sheet.job)) s.waiting w broken.waiting f.here in
              let sheet : q.sheet ≡ w.sheet = ap (λ (x : Plan). x.sheet) e ∙ f.a.answers.sheet in
              let too : is_job_broken s.jobs w.sheet.job ≡ true = subst (λ c. is_job_broken s.jobs c.job ≡ true) sheet is in cc)
          | inr other ↦
              let p = other.0 in
              let u : IsUnmoved q p = other.2 in
              let r = retimed-plan machine s w plans' f legal low q p in' other.1 u in
              let some : 0 < length p.acts = r.timed.some in
              let acts : length q.acts ≡ length p.acts = ap (λ (x : Plan). length x.acts) u.is in
              let low : point p (length p.acts - 1) ≤ s.now = All-contains (EntersWhereBroken s.now s.jobs) s.plans p broken.plans other.1 (sym (unmoved-tray_plan q p u) ∙ tray)
              (subst (λ c. is_job_broken s.jobs c.job ≡ true) (unmoved-sheet q p u) is) in
              let same = low-stays machine s.now p q r (length p.acts - 1) (omega arith) low in
              let at : point q (length q.acts - 1) ≡ point q (length p.acts - 1) = ap (λ n. point q (n - 1)) acts in
              omega arith
        ]);
  }

  -- purges that have started have not moved
  pub purges-asked : All (HasStarted s.now) s.plans → All (HasStarted s.now) plans'
  purges-asked purges = All-from_contains (HasStarted s.now) plans' (λ q in' purged.
      elim (plan-cases machine s.plans (ask_waiting machine s w) plans' f.a q in') [
        | inl e ↦ absurd (to-tray q.goal (ap (λ (p : Plan). p.goal) e ∙ f.a.answers.goal) purged)
        | inr other ↦
            let r = retimed-plan machine s w plans' f legal low q other.0 in' other.1 other.2 in
            let old : point other.0 0 ≤ s.now = All-contains (HasStarted s.now) s.plans other.0 purges other.1 (subst (λ g. IsFalse (is_to_tray g)) (ap (λ (p : Plan). p.goal) other.2.is) purged) in
            let stays = low-stays machine s.now other.0 q r 0 r.timed.some old in
            omega arith
      ]) where
        to-tray : (g : Goal) → g ≡ Tray (tray_of s.jobs w.sheet) → IsFalse (is_to_tray g) → ⊥
        to-tray g e purged = let yes : is_to_tray g ≡ true = ap is_to_tray e in cc

  -- a front has not moved
  pub fronts-asked : All (HasStartedWhole s.now) s.plans → All (HasStartedWhole s.now) plans'
  fronts-asked fronts = All-from_contains (HasStartedWhole s.now) plans' (λ q in' front i within.
      elim (plan-cases machine s.plans (ask_waiting machine s w) plans' f.a q in') [
        | inl e ↦ absurd (
            let whole : is_front q.kind ≡ false = ap (λ (p : Plan). is_front p.kind) e ∙ ap is_front f.a.answers.whole in cc)
        | inr other ↦
            let r = retimed-plan machine s w plans' f legal low q other.0 in' other.1 other.2 in
            let acts : length q.acts ≡ length other.0.acts = ap (λ (x : Plan). length x.acts) other.2.is in
            let was : is_front other.0.kind ≡ true = sym (ap (λ (x : Plan). is_front x.kind) other.2.is) ∙ front in
            let low : point other.0 i ≤ s.now = All-contains (HasStartedWhole s.now) s.plans other.0 fronts other.1 was i (omega arith) in
            let same = r.fixed i (fixed (is_front other.0.kind) _ was) (omega arith) in
            omega arith
      ]) where
        fixed : (a b : Bool) → a ≡ true → (a || b) ≡ true
        fixed a b e = rw e refl

  -- no copy has got a greater number
  pub numbers-asked : (copies : ℕ) → CopiesAtMost copies s → CopiesAtMost copies (planned_waiting s w plans')
  numbers-asked copies most = record {
    jobs = most.jobs;
    waiting = All-filter (λ v. not (is_same_copy v.sheet w.sheet)) (λ v. v.sheet.copy ≤ copies) s.waiting most.waiting;
    planned = All-from_contains (λ q. q.sheet.copy ≤ copies) plans' (λ q in'.
        elim (plan-cases machine s.plans (ask_waiting machine s w) plans' f.a q in') [
          | inl e ↦ subst (λ (c : SheetId). c.copy ≤ copies) (sym (ap (λ (p : Plan). p.sheet) e ∙ f.a.answers.sheet)) (All-contains (λ v. v.sheet.copy ≤ copies) s.waiting w most.waiting f.here)
          | inr other ↦ subst (λ (c : SheetId). c.copy ≤ copies) (sym (unmoved-sheet q other.0 other.2)) (All-contains (λ p. p.sheet.copy ≤ copies) s.plans other.0 most.planned other.1)
        ]);
  }

-- all of it
pub ready-asked : (machine : Machine) (s : SessionState) (w : WaitingCopy) (plans' : List Plan) → IsAskedFirst machine s w plans' → is_full machine s ≡ false → (copies : ℕ) → KeepsLive machine copies s
    → KeepsLive machine copies (planned_waiting s w plans')
ready-asked machine s w plans' f free copies keeps = record {
  now_at_most = keeps.now_at_most;
  live = live-asked machine s w plans' f keeps.plans.legal keeps.plans.floors keeps.live;
  jobs = keeps.jobs;
  plans = plans-asked machine s w plans' f keeps.plans free;
  lines = lines-asked machine s w plans' f;
  broken = broken-asked machine s w plans' f keeps.plans.legal keeps.plans.floors keeps.broken;
  older = older-asked machine s w plans' f keeps.older;
  purges = purges-asked machine s w plans' f keeps.plans.legal keeps.plans.floors keeps.purges;
  fronts = fronts-asked machine s w plans' f keeps.plans.legal keeps.plans.floors keeps.fronts;
  numbers = numbers-asked machine s w plans' f keeps.plans.legal keeps.plans.floors copies keeps.numbers;
}
