-- The copies of a new job keep what waiting copies keep.
use Rattle.std.proofs.Common.{◌≡◌, ℕ, zero, suc, ◌+◌, ◌≤◌, Bool, true, false, cond, not, List, [], ◌∷◌, inl, inr, length, refl, sym, ap, subst, arith, All, Contains, Some, None, option_and_then}
use Rattle.std.specs.Prelude.{nat_lt, replicate}
use Rattle.std.proofs.lemmas.List.Elements.{All-cons, All-nil}
use Rattle.tp_machine.specs.declared.parts.Sheet.{Sheet}
use Rattle.tp_machine.specs.declared.machine.Machine.{Machine}
use Rattle.tp_script.specs.Form.{GroupForm}
use Rattle.tp_jobs.proofs.FirstCopies.{length-sheets_of}
use Rattle.tp_jobs.specs.JobRefusals.{has_media, is_taken, is_tray_name, most_waiting, sheet_count}
use Rattle.tp_jobs.specs.WaitingCopies.{first_copies, sheet_of, sheets_of}
use Rattle.tp_jobs.specs.declared.fault.JobFault.TheVariants.{UnknownTray, UnknownMedia, TwiceNamed, TooManyWaiting}
use Rattle.tp_jobs.specs.declared.parts.Job.{Job}
use Rattle.tp_schedule.proofs.Membership.{Contains-cons_cases, Contains-here, Contains-later, flat_map-from}
use Rattle.tp_event_rules.specs.Refusals.{job_cause, job_refusal}
use Rattle.tp_event_rules.proofs.FirstCopies.{accepted-job}
use Rattle.tp_session.specs.Kept.{KeepsWaiting}

-- an accepted job's media is some feeder's
pub accepted-media : (machine : Machine) (jobs : List Job) (waiting : ℕ) (name tray media : List ℕ) (groups : List GroupForm) → job_refusal machine jobs waiting name tray media groups ≡ None → has_media machine media ≡ true
accepted-media machine jobs waiting name tray media groups e =
    go (is_tray_name machine tray) (has_media machine media) (is_taken jobs name) (nat_lt most_waiting (waiting + sheet_count groups)) e where
      go : (a b c d : Bool) → option_and_then job_cause (cond (not a) (Some (UnknownTray tray)) (cond (not b) (Some (UnknownMedia media)) (cond c (Some (TwiceNamed name))
          (cond d (Some (TooManyWaiting waiting (sheet_count groups))) None)))) ≡ None → b ≡ true
      go false b c d h = absurd (cc)
      go true false c d h = absurd (cc)
      go true true c d h = refl

same-media : (media : List ℕ) (g : GroupForm) (n : ℕ) (want : Sheet) → Contains (replicate n (sheet_of media g)) want → want.media ≡ media
same-media media g zero want in' = absurd (omega (arith, in'.1))
same-media media g (suc n) want in' = elim (Contains-cons_cases (sheet_of media g) (replicate n (sheet_of media g)) want in') [
  | inl is ↦ ap (λ (w : Sheet). w.media) (sym is)
  | inr later ↦ same-media media g n want later
]

-- each sheet of a job has its media
sheets-media : (media : List ℕ) (groups : List GroupForm) (want : Sheet) → Contains (sheets_of media groups) want → want.media ≡ media
sheets-media media groups want in' =
    let from = flat_map-from (λ g. replicate g.count (sheet_of media g)) groups want in' in
    same-media media from.0 from.0.count want from.2

counted-copies : (machine : Machine) (job n : ℕ) (wants : List Sheet) → 1 ≤ n → n + length wants ≤ 4097 → ((want : Sheet) → Contains wants want → has_media machine want.media ≡ true)
    → All (KeepsWaiting machine) (first_copies job n wants)
counted-copies machine job n [] some few media = All-nil (KeepsWaiting machine)
counted-copies machine job n (want ∷ wants) some few media =
    All-cons (KeepsWaiting machine) _ (first_copies job (n + 1) wants)
    (record { counted = record { sheets = (some, omega arith); copies = omega arith }; media = media want (Contains-here want wants) })
    (counted-copies machine job (n + 1) wants (omega arith) (omega arith) (λ w in'. media w (Contains-later want wants w in')))

pub new-copies : (machine : Machine) (jobs : List Job) (waiting : ℕ) (name tray media : List ℕ) (groups : List GroupForm) → job_refusal machine jobs waiting name tray media groups ≡ None
    → All (KeepsWaiting machine) (first_copies (length jobs) 1 (sheets_of media groups))
new-copies machine jobs waiting name tray media groups accepted =
    let fits = (accepted-job machine jobs waiting name tray media groups accepted).fits in
    let many = length-sheets_of media groups in
    counted-copies machine (length jobs) 1 (sheets_of media groups) (omega arith) (omega arith)
    (λ want in'. subst (λ m. has_media machine m ≡ true) (sym (sheets-media media groups want in')) (accepted-media machine jobs waiting name tray media groups accepted))
