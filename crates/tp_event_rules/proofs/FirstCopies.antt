-- The first copies of a new job, pair by pair, and what an accepted job was asked with.
use Rattle.std.proofs.Common.{◌≡◌, ℕ, ◌+◌, ◌<◌, ◌≤◌, Bool, true, false, cond, not, List, [], ◌∷◌, length, refl, sym, arith, All, AllPairs, nat_lt, Some, None, option_and_then}
use Rattle.std.proofs.lemmas.Bool.Decides.{nat_tests}
use Rattle.std.proofs.lemmas.List.Elements.{All-nil, All-cons, All-weaker}
use Rattle.tp_machine.specs.declared.parts.Sheet.{Sheet}
use Rattle.tp_machine.specs.declared.machine.Machine.{Machine}
use Rattle.tp_jobs.specs.declared.parts.Job.{Job}
use Rattle.tp_jobs.specs.declared.parts.WaitingCopy.{WaitingCopy}
use Rattle.tp_schedule.proofs.Pairs.{AllPairs-nil, AllPairs-cons}
use Rattle.tp_script.specs.Form.{GroupForm}
use Rattle.tp_jobs.specs.declared.fault.JobFault.TheVariants.{UnknownTray, UnknownMedia, TwiceNamed, TooManyWaiting}
use Rattle.tp_jobs.specs.JobRefusals.{has_media, sheet_count, most_waiting, is_taken, is_tray_name}
use Rattle.tp_jobs.specs.WaitingCopies.{first_copies}
use Rattle.tp_event_rules.specs.Refusals.{job_cause, job_refusal}

-- a first copy of the job, with a number from this one on
pub record IsFirstCopy (job low high : ℕ) (w : WaitingCopy) : Type 0 where
  pub of_job : w.sheet.job ≡ job
  pub at_least : low ≤ w.sheet.number
  pub below : w.sheet.number < high

pub All-first_copies : (job low n high : ℕ) (wants : List Sheet) → low ≤ n → n + length wants ≤ high → All (IsFirstCopy job low high) (first_copies job n wants)
All-first_copies job low n high [] from to = All-nil (IsFirstCopy job low high)
All-first_copies job low n high (want ∷ wants) from to =
    All-cons (IsFirstCopy job low high) _ (first_copies job (n + 1) wants) (record { of_job = refl; at_least = from; below = omega arith })
    (All-first_copies job low (n + 1) high wants (omega arith) (omega arith))

-- they stand in order, and are copies of different sheets
pub AllPairs-first_copies : (R : WaitingCopy → WaitingCopy → Type 0)
    → ((v w : WaitingCopy) → v.sheet.job ≡ w.sheet.job → v.sheet.number < w.sheet.number → R v w)
    → (job n : ℕ) (wants : List Sheet) → AllPairs R (first_copies job n wants)
AllPairs-first_copies R each job n [] = AllPairs-nil R
AllPairs-first_copies R each job n (want ∷ wants) =
    AllPairs-cons R (record { sheet = record { job = job; number = n; copy = 1 }; want = want }) (first_copies job (n + 1) wants)
    (All-weaker (IsFirstCopy job (n + 1) (n + 1 + length wants)) (R (record { sheet = record { job = job; number = n; copy = 1 }; want = want }))
    (λ w is. each _ w (sym is.of_job) (omega (arith, is.at_least))) (first_copies job (n + 1) wants)
    (All-first_copies job (n + 1) (n + 1) (n + 1 + length wants) wants (omega arith) (omega arith)))
    (AllPairs-first_copies R each job (n + 1) wants)

-- what an accepted job was asked with
pub record IsAccepted (machine : Machine) (jobs : List Job) (waiting : ℕ) (name tray : List ℕ) (groups : List GroupForm) : Type 0 where
  pub is_tray : is_tray_name machine tray ≡ true
  pub is_new : is_taken jobs name ≡ false
  pub fits : waiting + sheet_count groups ≤ most_waiting

pub accepted-job : (machine : Machine) (jobs : List Job) (waiting : ℕ) (name tray media : List ℕ) (groups : List GroupForm)
    → job_refusal machine jobs waiting name tray media groups ≡ None → IsAccepted machine jobs waiting name tray groups
accepted-job machine jobs waiting name tray media groups e =
    go (is_tray_name machine tray) refl (has_media machine media) (is_taken jobs name) refl (nat_lt most_waiting (waiting + sheet_count groups)) refl e where
      go : (a : Bool) → is_tray_name machine tray ≡ a → (b c : Bool) → is_taken jobs name ≡ c → (d : Bool) → nat_lt most_waiting (waiting + sheet_count groups) ≡ d
          → option_and_then job_cause (cond (not a) (Some (UnknownTray tray)) (cond (not b) (Some (UnknownMedia media)) (cond c (Some (TwiceNamed name))
          (cond d (Some (TooManyWaiting waiting (sheet_count groups))) None)))) ≡ None
          → IsAccepted machine jobs waiting name tray groups
      go false e b c f d g h = absurd (cc)
      go true e false c f d g h = absurd (cc)
      go true e true true f d g h = absurd (cc)
      go true e true false f true g h = absurd (cc)
      go true e true false f false g h = record { is_tray = e; is_new = f; fits = grind (arith, nat_tests) }
