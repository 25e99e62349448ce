-- A job that is broken keeps its place, its name and all else.
use Rattle.std.proofs.Common.{◌≡◌, ◌∙◌, ℕ, zero, suc, ◌<◌, true, List, [], ◌∷◌, length, set, get_or, refl, ap, sym, arith}
use Rattle.std.proofs.lemmas.List.Elements.{All-weaker}
use Rattle.tp_jobs.specs.Backlogs.{IsOfJob, mark_broken, names_of}
use Rattle.tp_jobs.specs.LineInvariants.{Keeps}
use Rattle.tp_jobs.specs.declared.parts.Job.{Job}
use Rattle.tp_jobs.specs.declared.parts.WaitingCopy.{WaitingCopy}

broken-set : (jobs : List Job) (n : ℕ) (d : Job) → n < length jobs → set jobs n (record (get_or jobs n d) { broken = true }) ≡ mark_broken n jobs
broken-set [] n d within = absurd (omega arith)
broken-set (job ∷ jobs) zero d within = refl
broken-set (job ∷ jobs) (suc n) d within = ap (λ js. job ∷ js) (broken-set jobs n d (omega arith))

-- the job that is written is the one that was there, broken
pub broken-written : (jobs : List Job) (n : ℕ) (job : Job) → n < length jobs → job ≡ get_or jobs n job → set jobs n (record job { broken = true }) ≡ mark_broken n jobs
broken-written jobs n job within is = ap (λ (j : Job). set jobs n (record j { broken = true })) is ∙ broken-set jobs n job within

names-broken : (n : ℕ) (jobs : List Job) → names_of (mark_broken n jobs) ≡ names_of jobs
names-broken n [] = refl
names-broken zero (job ∷ jobs) = refl
names-broken (suc n) (job ∷ jobs) = ap (λ names. job.name ∷ names) (names-broken n jobs)

pub length-broken : (n : ℕ) (jobs : List Job) → length (mark_broken n jobs) ≡ length jobs
length-broken n [] = refl
length-broken zero (job ∷ jobs) = refl
length-broken (suc n) (job ∷ jobs) = ap suc (length-broken n jobs)

pub keeps-broken : (names : List (List ℕ)) (jobs : List Job) (waiting : List WaitingCopy) (n : ℕ) → Keeps names jobs waiting → Keeps names (mark_broken n jobs) waiting
keeps-broken names jobs waiting n k =
    let same = length-broken n jobs in
    let few = k.few_jobs in
    record {
      of_names = k.of_names ∙ sym (names-broken n jobs);
      distinct = k.distinct;
      in_order = k.in_order;
      of_jobs = All-weaker (IsOfJob jobs) (IsOfJob (mark_broken n jobs)) (λ w known. omega arith) waiting k.of_jobs;
      few_jobs = omega arith;
      few_waiting = k.few_waiting;
    }
