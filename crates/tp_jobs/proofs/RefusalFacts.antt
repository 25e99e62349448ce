-- What is known of a job that nothing refuses.
use Rattle.std.proofs.Common.{◌≡◌, ℕ, ◌+◌, ◌≤◌, Bool, true, false, not, cond, List, Some, None, refl, arith}
use Rattle.std.specs.Prelude.{nat_lt}
use Rattle.std.proofs.lemmas.Bool.Decides.{nat_tests}
use Rattle.tp_machine.specs.declared.machine.Machine.{Machine}
use Rattle.tp_script.specs.Form.{GroupForm}
use Rattle.tp_jobs.specs.JobRefusals.{has_media, is_taken, is_tray_name, job_fault, most_waiting, sheet_count}
use Rattle.tp_jobs.specs.declared.fault.JobFault.TheVariants.{UnknownTray, UnknownMedia, TwiceNamed, TooManyWaiting}
use Rattle.tp_jobs.specs.declared.parts.Job.{Job}

pub record IsAccepted (jobs : List Job) (waiting : ℕ) (name : List ℕ) (groups : List GroupForm) : Type 0 where
  pub new : is_taken jobs name ≡ false
  pub few : waiting + sheet_count groups ≤ 4096

pub accepted : (machine : Machine) (jobs : List Job) (waiting : ℕ) (name tray media : List ℕ) (groups : List GroupForm) → None ≡ job_fault machine jobs waiting name tray media groups → IsAccepted jobs waiting name groups
accepted machine jobs waiting name tray media groups none =
    go (is_tray_name machine tray) (has_media machine media) (is_taken jobs name) refl (nat_lt most_waiting (waiting + sheet_count groups)) refl none where
      go : (t m n : Bool) → is_taken jobs name ≡ n → (w : Bool) → nat_lt most_waiting (waiting + sheet_count groups) ≡ w
          → None ≡ cond (not t) (Some (UnknownTray tray)) (cond (not m) (Some (UnknownMedia media)) (cond n (Some (TwiceNamed name)) (cond w (Some (TooManyWaiting waiting (sheet_count groups))) None)))
          → IsAccepted jobs waiting name groups
      go false m n isn w isw e = absurd (cc)
      go true false n isn w isw e = absurd (cc)
      go true true true isn w isw e = absurd (cc)
      go true true false isn true isw e = absurd (cc)
      go true true false isn false isw e = record { new = isn; few = grind (arith, nat_tests) }
