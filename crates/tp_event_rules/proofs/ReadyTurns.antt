-- A new job, a module that comes back and a move of the clock keep what a live state keeps.
use Rattle.std.proofs.Common.{◌≡◌, ℕ, ◌+◌, ◌-◌, ◌<◌, ◌≤◌, true, false, List, [], ◌∷◌, ◌++◌, length, length-append, sym, ap, ◌∙◌, arith, All, subst, None}
use Rattle.std.specs.Prelude.{IsFalse}
use Rattle.std.proofs.lemmas.List.Elements.{All-append, All-cons, All-nil, All-weaker}
use Rattle.tp_base.proofs.SliceFacts.{slice_get_last}
use Rattle.tp_machine.specs.declared.parts.Sheet.{Sheet}
use Rattle.tp_machine.specs.declared.machine.Machine.{Machine}
use Rattle.tp_jobs.specs.JobRefusals.{sheet_count}
use Rattle.tp_jobs.specs.WaitingCopies.{first_copies, new_job, sheets_of}
use Rattle.tp_jobs.specs.declared.parts.WaitingCopy.{WaitingCopy}
use Rattle.tp_schedule.specs.Plans.{point}
use Rattle.tp_schedule.specs.declared.parts.SheetId.{SheetId}
use Rattle.tp_script.specs.Form.{GroupForm}
use Rattle.tp_event_rules.specs.Clock.{clock_move, released_until}
use Rattle.tp_event_rules.specs.StateInvariants.{KeepsLines, is_known}
use Rattle.tp_event_rules.specs.Lines.{broken_in, is_job_broken}
use Rattle.tp_event_rules.specs.Moments.{release_until}
use Rattle.tp_event_rules.specs.Ready.{CanTakeEvents, CopiesAtMost, EntersWhereBroken, HasStartedWhole, KeepsBroken, KeepsLive}
use Rattle.tp_event_rules.specs.Refusals.{job_refusal}
use Rattle.tp_event_rules.specs.Seen.{HasStarted}
use Rattle.tp_event_rules.specs.States.{SessionState}
use Rattle.tp_event_rules.specs.Turns.{with_job, with_on}
use Rattle.tp_event_rules.proofs.ComesBack.{lines-on, plans-on}
use Rattle.tp_event_rules.proofs.FirstCopies.{IsFirstCopy, accepted-job}
use Rattle.tp_event_rules.proofs.ListFacts.{All-both, All-map_to}
use Rattle.tp_event_rules.proofs.NewJob.{Known, before-same, firsts, firsts-are, jobs-job, known-plans, lines-job}
use Rattle.tp_event_rules.proofs.NewSheets.{older-job, plans-job}

-- a greater bound of copy numbers
pub numbers-more : (copies more : ℕ) (s : SessionState) → copies ≤ more → CopiesAtMost copies s → CopiesAtMost more s
numbers-more copies more s le most = record {
  jobs = omega (arith, most.jobs);
  waiting = All-weaker (λ w. w.sheet.copy ≤ copies) (λ w. w.sheet.copy ≤ more) (λ w low. omega (arith, low)) s.waiting most.waiting;
  planned = All-weaker (λ p. p.sheet.copy ≤ copies) (λ p. p.sheet.copy ≤ more) (λ p low. omega (arith, low)) s.plans most.planned;
}

pub ready-more : (machine : Machine) (copies more : ℕ) (s : SessionState) → copies ≤ more → KeepsLive machine copies s → KeepsLive machine more s
ready-more machine copies more s le keeps = record {
  now_at_most = keeps.now_at_most;
  live = keeps.live;
  jobs = keeps.jobs;
  plans = keeps.plans;
  lines = keeps.lines;
  broken = keeps.broken;
  older = keeps.older;
  purges = keeps.purges;
  fronts = keeps.fronts;
  numbers = numbers-more copies more s le keeps.numbers;
}

pub events-more : (machine : Machine) (copies more : ℕ) (s : SessionState) → copies ≤ more → CanTakeEvents machine copies s → CanTakeEvents machine more s
events-more machine copies more s le can = record { kept = ready-more machine copies more s le can.kept; least = can.least }

-- a module that comes back
pub ready-on : (machine : Machine) (m : ℕ) (s : SessionState) (copies : ℕ) → KeepsLive machine copies s → KeepsLive machine copies (with_on m s)
ready-on machine m s copies keeps = record {
  now_at_most = keeps.now_at_most;
  live = keeps.live;
  jobs = keeps.jobs;
  plans = plans-on machine m s keeps.plans;
  lines = lines-on machine m s keeps.lines;
  broken = record { waiting = keeps.broken.waiting; plans = keeps.broken.plans };
  older = keeps.older;
  purges = keeps.purges;
  fronts = keeps.fronts;
  numbers = record { jobs = keeps.numbers.jobs; waiting = keeps.numbers.waiting; planned = keeps.numbers.planned };
}

-- a new job, which is not broken, and whose copies are first ones
module _ (machine : Machine) (name tray media : List ℕ) (groups : List GroupForm) (s : SessionState) where
  same-broken : (c : SheetId) → is_known s.jobs c ≡ true → is_job_broken (s.jobs ++ new_job machine name tray groups ∷ []) c.job ≡ is_job_broken s.jobs c.job
  same-broken c known = ap broken_in (before-same s.jobs (new_job machine name tray groups) c known)

  new-whole : (n : ℕ) → n ≡ length s.jobs → is_job_broken (s.jobs ++ new_job machine name tray groups ∷ []) n ≡ false
  new-whole n e = subst (λ n. is_job_broken (s.jobs ++ new_job machine name tray groups ∷ []) n ≡ false) (sym e) (ap broken_in (slice_get_last s.jobs (new_job machine name tray groups)))

  pub broken-job : KeepsLines s → KeepsBroken s → KeepsBroken (with_job machine name tray media groups s)
  broken-job lines broken =
      let jobs = s.jobs ++ new_job machine name tray groups ∷ [] in
      record {
        waiting = All-append (λ w. IsFalse (is_job_broken jobs w.sheet.job)) s.waiting (firsts (length s.jobs) media groups)
            (All-both (Known s.jobs) (λ w. IsFalse (is_job_broken s.jobs w.sheet.job)) (λ w. IsFalse (is_job_broken jobs w.sheet.job))
            (λ w known whole. same-broken w.sheet known ∙ whole) s.waiting lines.waiting_known broken.waiting)
            (All-weaker (IsFirstCopy (length s.jobs) 1 (1 + sheet_count groups)) (λ w. IsFalse (is_job_broken jobs w.sheet.job))
            (λ w is. new-whole w.sheet.job is.of_job) (firsts (length s.jobs) media groups) (firsts-are (length s.jobs) media groups));
        plans = All-both (λ p. is_known s.jobs p.sheet ≡ true) (EntersWhereBroken s.now s.jobs) (EntersWhereBroken s.now jobs)
            (λ p known enters tray is. enters tray (sym (same-broken p.sheet known) ∙ is)) s.plans (known-plans s.jobs s.plans lines.plans_known) broken.plans;
      }

  first-numbers : (copies job n : ℕ) (wants : List Sheet) → All (λ w. w.sheet.copy ≤ copies + 1) (first_copies job n wants)
  first-numbers copies job n [] = All-nil (λ (w : WaitingCopy). w.sheet.copy ≤ copies + 1)
  first-numbers copies job n (want ∷ wants) =
      All-cons (λ w. w.sheet.copy ≤ copies + 1) (record { sheet = record { job = job; number = n; copy = 1 }; want = want }) (first_copies job (n + 1) wants) (omega arith) (first-numbers copies job (n + 1) wants)

  pub ready-job : job_refusal machine s.jobs (length s.waiting) name tray media groups ≡ None → (copies : ℕ) → KeepsLive machine copies s → KeepsLive machine (copies + 1) (with_job machine name tray media groups s)
  ready-job accepted copies keeps =
      let ok = accepted-job machine s.jobs (length s.waiting) name tray media groups accepted in
      let most = numbers-more copies (copies + 1) s (omega arith) keeps.numbers in
      record {
        now_at_most = keeps.now_at_most;
        live = keeps.live;
        jobs = jobs-job machine name tray media groups s ok keeps.jobs;
        plans = plans-job machine name tray media groups s ok keeps.plans;
        lines = lines-job machine name tray media groups s ok keeps.lines;
        broken = broken-job keeps.lines keeps.broken;
        older = older-job machine name tray media groups s keeps.lines keeps.older;
        purges = keeps.purges;
        fronts = keeps.fronts;
        numbers = record {
          jobs = omega (arith, keeps.numbers.jobs, length-append s.jobs (new_job machine name tray groups ∷ []));
          waiting = All-append (λ w. w.sheet.copy ≤ copies + 1) s.waiting (first_copies (length s.jobs) 1 (sheets_of media groups)) most.waiting
              (first-numbers copies (length s.jobs) 1 (sheets_of media groups));
          planned = most.planned;
        };
      }

-- the clock moves on
module _ (machine : Machine) (to : ℕ) (s : SessionState) (later : s.now ≤ to) where
  pub broken-clock : KeepsBroken s → KeepsBroken (clock_move machine to s).state
  broken-clock broken = record {
    waiting = broken.waiting;
    plans = All-map_to (EntersWhereBroken to s.jobs) (release_until (to + machine.lead)) (λ p h. h) s.plans
        (All-weaker (EntersWhereBroken s.now s.jobs) (EntersWhereBroken to s.jobs)
        (λ p enters tray is. let low : point p (length p.acts - 1) ≤ s.now = enters tray is in omega arith) s.plans broken.plans);
  }

  pub purges-clock : All (HasStarted s.now) s.plans → All (HasStarted to) (released_until machine to s.plans)
  purges-clock purges = All-map_to (HasStarted to) (release_until (to + machine.lead)) (λ p h. h) s.plans
      (All-weaker (HasStarted s.now) (HasStarted to) (λ p started purged. let first : point p 0 ≤ s.now = started purged in omega arith) s.plans purges)

  pub fronts-clock : All (HasStartedWhole s.now) s.plans → All (HasStartedWhole to) (released_until machine to s.plans)
  fronts-clock fronts = All-map_to (HasStartedWhole to) (release_until (to + machine.lead)) (λ p h. h) s.plans
      (All-weaker (HasStartedWhole s.now) (HasStartedWhole to) (λ p started front i within. let low : point p i ≤ s.now = started front i within in omega arith) s.plans fronts)

  pub numbers-clock : (copies : ℕ) → CopiesAtMost copies s → CopiesAtMost copies (clock_move machine to s).state
  numbers-clock copies most = record {
    jobs = most.jobs;
    waiting = most.waiting;
    planned = All-map_to (λ p. p.sheet.copy ≤ copies) (release_until (to + machine.lead)) (λ p h. h) s.plans most.planned;
  }
