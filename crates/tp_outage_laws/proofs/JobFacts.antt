-- Jobs that break keep names, trays and sheets.
use Rattle.std.proofs.Common.{◌≡◌, ℕ, suc, zero, ◌<◌, ◌⊎◌, inl, inr, true, false, List, [], ◌∷◌, map, length, refl, sym, ap, ◌∙◌, arith, slice_get}
use Rattle.std.proofs.lemmas.List.{length-map}
use Rattle.tp_jobs.specs.Backlogs.{tray_of, tray_in, mark_broken}
use Rattle.tp_jobs.specs.declared.parts.Job.{Job}
use Rattle.tp_schedule.specs.declared.parts.SheetId.{SheetId}
use Rattle.tp_event_rules.specs.Labels.{job_name}
use Rattle.tp_event_rules.specs.Lines.{is_job_broken}

-- a job but for being broken
abbrev pub unbroken : Job → Job
unbroken j = record j { broken = false }

pub name-unbroken : (jobs : List Job) (n : ℕ) → job_name (map unbroken jobs) n ≡ job_name jobs n
name-unbroken [] n = refl
name-unbroken (j ∷ jobs) zero = refl
name-unbroken (j ∷ jobs) (suc n) = name-unbroken jobs n

pub tray-unbroken : (jobs : List Job) (n : ℕ) → tray_in (slice_get (map unbroken jobs) n) ≡ tray_in (slice_get jobs n)
tray-unbroken [] n = refl
tray-unbroken (j ∷ jobs) zero = refl
tray-unbroken (j ∷ jobs) (suc n) = tray-unbroken jobs n

pub same-name : (jobs jobs' : List Job) → map unbroken jobs' ≡ map unbroken jobs → (n : ℕ) → job_name jobs' n ≡ job_name jobs n
same-name jobs jobs' e n = sym (name-unbroken jobs' n) ∙ ap (λ l. job_name l n) e ∙ name-unbroken jobs n

pub same-tray : (jobs jobs' : List Job) → map unbroken jobs' ≡ map unbroken jobs → (c : SheetId) → tray_of jobs' c ≡ tray_of jobs c
same-tray jobs jobs' e c = sym (tray-unbroken jobs' c.job) ∙ ap (λ l. tray_in (slice_get l c.job)) e ∙ tray-unbroken jobs c.job

pub same-length : (jobs jobs' : List Job) → map unbroken jobs' ≡ map unbroken jobs → length jobs' ≡ length jobs
same-length jobs jobs' e = sym (length-map jobs' unbroken) ∙ ap (λ (l : List Job). length l) e ∙ length-map jobs unbroken

-- a job breaks
pub unbroken-mark : (n : ℕ) (jobs : List Job) → map unbroken (mark_broken n jobs) ≡ map unbroken jobs
unbroken-mark n [] = none n where
  none : (n : ℕ) → map unbroken (mark_broken n []) ≡ []
  none zero = refl
  none (suc n) = refl
unbroken-mark zero (j ∷ jobs) = refl
unbroken-mark (suc n) (j ∷ jobs) = ap (λ l. unbroken j ∷ l) (unbroken-mark n jobs)

pub broken-mark : (job : ℕ) (jobs : List Job) (n : ℕ) → is_job_broken (mark_broken job jobs) n ≡ true → (is_job_broken jobs n ≡ true) ⊎ (n ≡ job)
broken-mark zero [] n e = inl e
broken-mark (suc job) [] n e = inl e
broken-mark zero (j ∷ jobs) zero e = inr refl
broken-mark zero (j ∷ jobs) (suc n) e = inl e
broken-mark (suc job) (j ∷ jobs) zero e = inl e
broken-mark (suc job) (j ∷ jobs) (suc n) e = elim (broken-mark job jobs n e) [
  | inl before ↦ inl before
  | inr is ↦ inr (ap suc is)
]

-- a job that is marked is broken, and one that was stays so
pub marked-is : (n : ℕ) (jobs : List Job) → n < length jobs → is_job_broken (mark_broken n jobs) n ≡ true
marked-is n [] within = absurd (omega arith)
marked-is zero (j ∷ jobs) within = refl
marked-is (suc n) (j ∷ jobs) within = marked-is n jobs (omega arith)

pub stays-marked : (m : ℕ) (jobs : List Job) (n : ℕ) → is_job_broken jobs n ≡ true → is_job_broken (mark_broken m jobs) n ≡ true
stays-marked m [] n e = absurd (cc)
stays-marked zero (j ∷ jobs) zero e = refl
stays-marked zero (j ∷ jobs) (suc n) e = e
stays-marked (suc m) (j ∷ jobs) zero e = e
stays-marked (suc m) (j ∷ jobs) (suc n) e = stays-marked m jobs n e
