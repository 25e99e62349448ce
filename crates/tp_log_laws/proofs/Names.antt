-- Plans of different jobs have different names in the midst of a turn.
use Rattle.std.proofs.Common.{◌≡◌, ◌≢◌, ◌⊎◌, ℕ, ◌<◌, inl, inr, true, false, List, [], length, sym, ap, ◌∙◌, arith, AllPairs, Contains, IsTrue, subst}
use Rattle.std.proofs.lemmas.Bool.{cases_lt}
use Rattle.std.proofs.lemmas.Bool.Decides.{nat_tests}
use Rattle.std.proofs.lemmas.List.Elements.{All-contains}
use Rattle.std.proofs.lemmas.Option.{get_or_from_slice_get}
use Rattle.tp_base.proofs.SliceFacts.{found}
use Rattle.tp_machine.specs.declared.machine.Machine.{Machine}
use Rattle.tp_jobs.specs.declared.parts.Job.{Job}
use Rattle.tp_jobs.specs.declared.parts.WaitingCopy.{WaitingCopy}
use Rattle.tp_schedule.specs.Answers.{IsAlternative}
use Rattle.tp_schedule.specs.Plans.{AreNamed, is_same_copy}
use Rattle.tp_schedule.specs.declared.parts.Plan.{Plan}
use Rattle.tp_event_rules.specs.AskPhase.{ask_waiting}
use Rattle.tp_event_rules.specs.StateInvariants.{KeepsLines, is_known, is_of_its_job}
use Rattle.tp_event_rules.specs.Labels.{job_name, job_name_in}
use Rattle.tp_event_rules.specs.Ready.{KeepsLive}
use Rattle.tp_event_rules.specs.States.{SessionState}
use Rattle.tp_event_rules.proofs.AnsweredPlans.{IsUnmoved, plan-cases, unmoved-sheet}
use Rattle.tp_event_turn.proofs.CanAskFacts.{of-its-job}
use Rattle.tp_outage_laws.proofs.Falls.{Falls, none_breaks}
use Rattle.tp_outage_laws.proofs.OutagesKeep.{any_outset}
use Rattle.tp_outage_laws.specs.Through.{KeepsThrough}

-- the plan has its job's name
pub record IsOfJob (jobs : List Job) (p : Plan) : Type 0 where
  pub known : p.sheet.job < length jobs
  pub name : p.name ≡ job_name jobs p.sheet.job

-- jobs have different names, plans have those of their jobs, and the jobs of these copies came
pub record AreOfJobs (jobs : List Job) (plans : List Plan) : Type 0 where
  pub names : AllPairs (λ i j. i.name ≢ j.name) jobs
  pub each : (p : Plan) → Contains plans p → IsOfJob jobs p

one-job : (jobs : List Job) (m n : ℕ) → AllPairs (λ i j. i.name ≢ j.name) jobs → m < length jobs → n < length jobs → job_name jobs m ≡ job_name jobs n → m ≡ n
one-job jobs m n differ within within' same =
    let i = found jobs m within in
    let j = found jobs n within' in
    let names : i.0.name ≡ j.0.name = sym (ap job_name_in i.1) ∙ same ∙ ap job_name_in j.1 in
    elim (cases_lt m n) [
      | inl before ↦ absurd (differ m n i.0 before within' (ap (λ (k : Job). k.name) (get_or_from_slice_get jobs m i.0 i.0 i.1) ∙ names ∙ sym (ap (λ (k : Job). k.name) (get_or_from_slice_get jobs n j.0 i.0 j.1))))
      | inr above ↦ elim (cases_lt n m) [
        | inl after ↦ absurd (differ n m j.0 after within (ap (λ (k : Job). k.name) (get_or_from_slice_get jobs n j.0 j.0 j.1) ∙ sym names ∙ sym (ap (λ (k : Job). k.name) (get_or_from_slice_get jobs m i.0 j.0 i.1))))
        | inr below ↦ omega arith
      ]
    ]

pub are-named : (jobs : List Job) (plans : List Plan) → AreOfJobs jobs plans → AreNamed plans
are-named jobs plans of p q in' in'' same =
    let one = of.each p in' in
    let other = of.each q in'' in
    one-job jobs p.sheet.job q.sheet.job of.names one.known other.known (sym one.name ∙ same ∙ other.name)

its-job : (jobs : List Job) (p : Plan) → is_of_its_job jobs p ≡ true → IsOfJob jobs p
its-job jobs p e = let is = of-its-job jobs p e in record { known = is.known; name = is.name }

lines-named : (s : SessionState) → AllPairs (λ i j. i.name ≢ j.name) s.jobs → KeepsLines s → AreOfJobs s.jobs s.plans
lines-named s names lines = record {
  names = names;
  each = λ p in'. its-job s.jobs p (All-contains (λ p. IsTrue (is_of_its_job s.jobs p)) s.plans p lines.plans_known in');
}

pub through-named : (machine : Machine) (s : SessionState) → KeepsThrough machine s → AreOfJobs s.jobs s.plans
through-named machine s k = lines-named s k.jobs.names k.lines

pub live-through : (machine : Machine) (copies : ℕ) (s : SessionState) → KeepsLive machine copies s → KeepsThrough machine s
live-through machine copies s k = record {
  jobs = k.jobs;
  plans = record { now_at_most = k.now_at_most; legal = k.plans.legal; floors = k.plans.floors; horizon = k.plans.horizon };
  lines = k.lines;
  broken = k.broken;
  older = k.older;
  purges = k.purges;
}

-- the jobs of copies that wait came
pub waiting-known : (s : SessionState) → KeepsLines s → (w : WaitingCopy) → Contains s.waiting w → w.sheet.job < length s.jobs
waiting-known s lines w in' =
    let known : is_known s.jobs w.sheet ≡ true = All-contains (λ w. IsTrue (is_known s.jobs w.sheet)) s.waiting w lines.waiting_known in' in
    grind (arith, nat_tests)

-- in the midst of an outage
pub falls-named : (machine : Machine) (start s : SessionState) → AllPairs (λ i j. i.name ≢ j.name) start.jobs → Falls machine (any_outset start) none_breaks s [] → AreNamed s.plans
falls-named machine start s names f = are-named start.jobs s.plans (record { names = names; each = λ p in'. its-job start.jobs p (f.planned p in').own })

-- behind a copy that is planned
pub planned-named : (machine : Machine) (s : SessionState) (w : WaitingCopy) (plans : List Plan) → w.sheet.job < length s.jobs → IsAlternative machine s.plans (ask_waiting machine s w) plans → AreOfJobs s.jobs s.plans → AreOfJobs s.jobs plans
planned-named machine s w plans known a of = record { names = of.names; each = λ q in'. go q (plan-cases machine s.plans (ask_waiting machine s w) plans a q in') } where
  moved : (q p : Plan) → IsUnmoved q p → IsOfJob s.jobs p → IsOfJob s.jobs q
  moved q p u is =
      let sheet = unmoved-sheet q p u in
      let name : q.name ≡ p.name = ap (λ (x : Plan). x.name) u.is in
      record { known = subst (λ c. c.job < length s.jobs) (sym sheet) is.known; name = name ∙ is.name ∙ ap (λ c. job_name s.jobs c.job) (sym sheet) }

  mine : IsOfJob s.jobs a.plan
  mine = record {
    known = subst (λ c. c.job < length s.jobs) (sym a.answers.sheet) known;
    name = a.answers.name ∙ ap (λ c. job_name s.jobs c.job) (sym a.answers.sheet);
  }

  go : (q : Plan) → (q ≡ a.plan) ⊎ ((p : Plan) × Contains s.plans p × IsUnmoved q p × (is_same_copy q.sheet w.sheet ≡ false)) → IsOfJob s.jobs q
  go q (inl e) = subst (IsOfJob s.jobs) (sym e) mine
  go q (inr (p, in', u, other)) = moved q p u (of.each p in')
