-- Checks in which everything but the log itself is in order, and what that excludes.
use Rattle.std.specs.Prelude.{◌≡◌, ◌≢◌, ℕ, ◌≤◌, true, List, length, Option, Some, None, IsTrue}
use Rattle.tp_outside.specs.Outside.{Files}
use Rattle.tp_machine.specs.declared.machine.Machine.{Machine}
use Rattle.tp_machine_text.specs.Texts.{IsMachineText}
use Rattle.tp_command.specs.Form.{Asked, form}
use Rattle.tp_command.specs.declared.request.Mode.TheVariants.{Check}
use Rattle.tp_log_check.specs.Ends.{IsLawfulText}
use Rattle.tp_log_check.specs.Sizes.{KeepsSizes, most_bytes}
use Rattle.tp_log_check.specs.declared.flaw.Flaw.{Flaw}
use Rattle.tp_run_laws.specs.Ends.{IsAnswered}
use Rattle.tp_event_rules.specs.States.{empty_state}
use Rattle.tp_program.specs.Checks.{CheckedBy}
use Rattle.tp_program.specs.InOrder.{IsThere, is_refusal}
use Rattle.tp_program.specs.Runs.{NoMachine}
use Rattle.tp_program.specs.declared.status.Status.{Status}
use Rattle.tp_program.specs.declared.status.Status.TheVariants.{Rejected}

-- the words ask for a check on the text of a machine, and the text and the log keep their sizes
pub record IsCheckInOrder (words : List (List ℕ)) (files : Files) (log : List ℕ) (asked : Asked) : Type 0 where
  pub named : form words ≡ Some asked
  pub mode : asked.mode ≡ Check
  pub text : List ℕ
  pub there : IsThere files asked.arg text
  pub machine : Machine
  pub is_text : IsMachineText text machine
  pub sizes : KeepsSizes log

-- then no cause of a refusal holds but a flaw of the log
pub record CheckIsNotRefused (words : List (List ℕ)) (files : Files) (log : List ℕ) (asked : Asked) : Type 0 where
  pub no_usage : form words ≢ None
  pub found : (status : Status) → IsTrue (is_refusal status) → ¬ NoMachine (Some files) asked.arg status
  pub looked : (status : Status) → IsTrue (is_refusal status) → ((flaw : Flaw) → status ≢ Rejected flaw) → (left taken taken' : Option (List ℕ))
      → ¬ CheckedBy (λ t. t) (Some files) asked (Some log) left taken taken' status

abbrev pub NoCheckIsRefused : Type 0
NoCheckIsRefused = (words : List (List ℕ)) (files : Files) (log : List ℕ) (asked : Asked)
    → IsCheckInOrder words files log asked → CheckIsNotRefused words files log asked

-- no cause of a refusal holds at all
pub record LogIsNotRefused (words : List (List ℕ)) (files : Files) (log : List ℕ) (asked : Asked) : Type 0 where
  pub no_usage : form words ≢ None
  pub found : (status : Status) → IsTrue (is_refusal status) → ¬ NoMachine (Some files) asked.arg status
  pub looked : (status : Status) → IsTrue (is_refusal status) → (left taken taken' : Option (List ℕ)) → ¬ CheckedBy (λ t. t) (Some files) asked (Some log) left taken taken' status

-- so it is if the log is lawful with bounds on the machine, but for the causes of its budgets
abbrev pub NoLawfulLogIsRefused : Type 0
NoLawfulLogIsRefused = (words : List (List ℕ)) (files : Files) (log : List ℕ) (asked : Asked)
    → (good : IsCheckInOrder words files log asked) → IsLawfulText good.machine log → LogIsNotRefused words files log asked

-- the words ask for a check on the text of this machine
pub record IsCheckOf (words : List (List ℕ)) (files : Files) (asked : Asked) (machine : Machine) : Type 0 where
  pub named : form words ≡ Some asked
  pub mode : asked.mode ≡ Check
  pub text : List ℕ
  pub there : IsThere files asked.arg text
  pub is_text : IsMachineText text machine

-- and so it is if a run with bounds from the empty state on this machine wrote the log, of at most 10^18 bytes
abbrev pub NoRunIsRejected : Type 0
NoRunIsRejected = (words : List (List ℕ)) (files : Files) (asked : Asked) (budget : ℕ) (script : List ℕ) (taken taken' : Option (List ℕ)) (machine : Machine)
    → (run : IsAnswered machine budget true empty_state script taken taken') → IsCheckOf words files asked machine → length run.text ≤ most_bytes
    → LogIsNotRefused words files run.text asked
