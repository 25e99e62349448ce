-- What a live state keeps between events is enough for the loop of an outage to begin.
use Rattle.std.proofs.Common.{◌≡◌, ◌≢◌, ℕ, zero, suc, ◌<◌, ◌≤◌, Bool, true, false, ◌&&◌, List, [], ◌∷◌, length, cond, count_by, All, AllPairs, Contains, refl, sym, ap, ◌∙◌, arith, subst}
use Rattle.std.specs.Str.{bytes_eq}
use Rattle.std.proofs.lemmas.Bool.Decides.{nat_tests}
use Rattle.std.proofs.lemmas.List.Elements.{All-contains, All-head, All-tail, All-weaker}
use Rattle.std.proofs.lemmas.Slice.Eq.{bytes_eq-Decides}
use Rattle.tp_base.proofs.SliceFacts.{All-at, found}
use Rattle.tp_jobs.specs.Backlogs.{tray_in, tray_of}
use Rattle.tp_jobs.specs.declared.parts.Job.{Job}
use Rattle.tp_machine.specs.declared.machine.Machine.{Machine}
use Rattle.tp_schedule.proofs.Pairs.{AllPairs-head, AllPairs-tail}
use Rattle.tp_schedule.specs.PlannerAnswers.{IsKnownGoal}
use Rattle.tp_schedule.specs.declared.parts.Goal.{Goal}
use Rattle.tp_schedule.specs.declared.parts.Goal.TheVariants.{Tray, Purge}
use Rattle.tp_schedule.specs.declared.parts.Plan.{Plan}
use Rattle.tp_event_rules.specs.StateInvariants.{is_known, is_of_its_job, is_own_goal}
use Rattle.tp_event_rules.specs.Labels.{job_name, job_name_in}
use Rattle.tp_event_rules.specs.Ready.{KeepsLive, last_copy}
use Rattle.tp_event_rules.specs.Seen.{HasNextCopy}
use Rattle.tp_event_rules.specs.States.{SessionState}
use Rattle.tp_replan.specs.LooseLoop.{CanBeginLoop}
use Rattle.tp_replan.proofs.OpenFacts.{count-cons}
use Rattle.tp_schedule.specs.LivePlans.{is_live}

first-part : (a b : Bool) → (a && b) ≡ true → a ≡ true
first-part true b e = refl
first-part false b e = absurd cc

second-part : (a b : Bool) → (a && b) ≡ true → b ≡ true
second-part true b e = e
second-part false b e = absurd cc

-- jobs of one name are one job
names-apart : (jobs : List Job) → AllPairs (λ i j. i.name ≢ j.name) jobs → (a b : ℕ) → a < length jobs → b < length jobs
    → job_name jobs a ≡ job_name jobs b → a ≡ b
names-apart [] apart a b low low' same = absurd (omega arith)
names-apart (j ∷ jobs) apart zero zero low low' same = refl
names-apart (j ∷ jobs) apart zero (suc b) low low' same =
    let there = found jobs b (omega arith) in
    absurd (All-at (λ i. j.name ≢ i.name) jobs b there.0 (AllPairs-head (λ i k. i.name ≢ k.name) j jobs apart) there.1 (same ∙ ap job_name_in there.1))
names-apart (j ∷ jobs) apart (suc a) zero low low' same =
    let there = found jobs a (omega arith) in
    absurd (All-at (λ i. j.name ≢ i.name) jobs a there.0 (AllPairs-head (λ i k. i.name ≢ k.name) j jobs apart) there.1 (sym same ∙ ap job_name_in there.1))
names-apart (j ∷ jobs) apart (suc a) (suc b) low low' same =
    ap suc (names-apart jobs (AllPairs-tail (λ i k. i.name ≢ k.name) j jobs apart) a b (omega arith) (omega arith) same)

-- a plan is of a job that came, has its name, and goes to its tray or to be purged
record IsOfJob (jobs : List Job) (p : Plan) : Type 0 where
  known : p.sheet.job < length jobs
  name : p.name ≡ job_name jobs p.sheet.job
  goal : is_own_goal p.goal (tray_of jobs p.sheet).0 ≡ true

of-job : (jobs : List Job) (p : Plan) → is_of_its_job jobs p ≡ true → IsOfJob jobs p
of-job jobs p e =
    let first = first-part (is_known jobs p.sheet && bytes_eq p.name (job_name jobs p.sheet.job)) (is_own_goal p.goal (tray_of jobs p.sheet).0) e in
    let known = first-part (is_known jobs p.sheet) (bytes_eq p.name (job_name jobs p.sheet.job)) first in
    record {
      known = grind (arith, nat_tests);
      name = (bytes_eq-Decides p.name (job_name jobs p.sheet.job)).0
          (second-part (is_known jobs p.sheet) (bytes_eq p.name (job_name jobs p.sheet.job)) first);
      goal = second-part (is_known jobs p.sheet && bytes_eq p.name (job_name jobs p.sheet.job)) (is_own_goal p.goal (tray_of jobs p.sheet).0) e;
    }

-- and that tray is the machine's
known-goal : (machine : Machine) (jobs : List Job) (p : Plan) → All (λ (j : Job). Contains machine.trays j.tray) jobs → IsOfJob jobs p → IsKnownGoal machine p.goal
known-goal machine jobs p trays of = go p.goal of.goal where
  go : (g : Goal) → is_own_goal g (tray_of jobs p.sheet).0 ≡ true → IsKnownGoal machine g
  go Purge e = tt
  go (Tray t) e =
      let there = found jobs p.sheet.job of.known in
      let number : t.0 ≡ (tray_of jobs p.sheet).0 = grind (arith, nat_tests) in
      let same : t ≡ there.0.tray = (λ k. record { 0 = number k }) ∙ ap tray_in there.1 in
      subst (Contains machine.trays) (sym same) (All-at (λ (j : Job). Contains machine.trays j.tray) jobs p.sheet.job there.0 trays there.1)

count-each : {X : Type 0} (test : X → Bool) (xs : List X) → All (λ x. test x ≡ true) xs → count_by test xs ≡ length xs
count-each test [] all = refl
count-each test (x ∷ xs) all =
    let rest = count-each test xs (All-tail (λ y. test y ≡ true) x xs all) in
    let one = count-cons test x xs in
    let here = ap (λ b. cond {A = ℕ} b 1 0) (All-head (λ y. test y ≡ true) x xs all) in
    omega arith

pub begins-loop : (machine : Machine) (s : SessionState) → KeepsLive machine last_copy s → CanBeginLoop machine s
begins-loop machine s kept =
    let each : (p : Plan) → Contains s.plans p → IsOfJob s.jobs p =
    λ p in'. of-job s.jobs p (All-contains (λ q. is_of_its_job s.jobs q ≡ true) s.plans p kept.lines.plans_known in') in
    record {
      now_at_most = kept.now_at_most;
      plans = kept.plans;
      lines = kept.lines;
      named = λ p q in' in'' same.
          names-apart s.jobs kept.jobs.names p.sheet.job q.sheet.job (each p in').known (each q in'').known
          (sym (each p in').name ∙ same ∙ (each q in'').name);
      goals = All-weaker (λ q. is_of_its_job s.jobs q ≡ true) (λ q. IsKnownGoal machine q.goal)
          (λ q of. known-goal machine s.jobs q kept.jobs.trays (of-job s.jobs q of)) s.plans kept.lines.plans_known;
      next_planned = All-weaker (λ q. q.sheet.copy ≤ last_copy) (λ q. HasNextCopy q.sheet) (λ q low. omega (arith, low)) s.plans kept.numbers.planned;
      few =
          let few = kept.plans.few_live in
          let open' = kept.plans.few_open in
          let all = count-each (is_live machine s.now) s.plans kept.live in
          omega arith;
      purges = kept.purges;
    }
