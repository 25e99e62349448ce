-- Checks in which everything but the log itself is in order, and what that excludes.
use Rattle.std.specs.Prelude.{◌≡◌, ◌≢◌, ℕ, ◌≤◌, Bool, true, false, List, length, Option, Some, None, IsTrue}
use Rattle.tp_outside.specs.Outside.{Files, file_at}
use Rattle.tp_machine.specs.declared.machine.Machine.{Machine}
use Rattle.tp_machine_text.specs.Texts.{IsMachineText}
use Rattle.tp_log_check.specs.Ends.{IsLawfulText}
use Rattle.tp_log_check.specs.Sizes.{KeepsSizes, most_bytes}
use Rattle.tp_log_check.specs.declared.flaw.Flaw.{Flaw}
use Rattle.tp_run_laws.specs.Ends.{IsAnswered}
use Rattle.tp_event_rules.specs.States.{empty_state}
use Rattle.tp_verify.specs.Checks.{CheckedBy}
use Rattle.tp_verify.specs.Machines.{NoMachine, most_text}
use Rattle.tp_verify.specs.Words.{named_by}
use Rattle.tp_verify.specs.declared.verify_status.VerifyStatus.{VerifyStatus}
use Rattle.tp_verify.specs.declared.verify_status.VerifyStatus.TheVariants.{Done, Memory, Usage, Machine as MachineIs, TooLong, Rejected}

-- the status refuses what was given: it is neither an answer, nor want of memory, nor a fault of the outside
abbrev pub is_refusal : VerifyStatus → Bool
is_refusal Usage = true
is_refusal (MachineIs fault) = true
is_refusal (TooLong what) = true
is_refusal (Rejected flaw) = true
is_refusal _ = false

-- the log was accepted or refused, or memory ran out
abbrev pub is_verdict : VerifyStatus → Bool
is_verdict Done = true
is_verdict Memory = true
is_verdict (Rejected flaw) = true
is_verdict _ = false

-- the words name the text of this machine, of at most 1,048,576 bytes
pub record IsCheckOf (words : List (List ℕ)) (files : Files) (name : List ℕ) (machine : Machine) : Type 0 where
  pub named : named_by words ≡ Some name
  pub text : List ℕ
  pub is_known : file_at files name ≡ Some text
  pub fits : length text ≤ most_text
  pub is_text : IsMachineText text machine

-- no cause of a refusal holds: the words are of the form, there is a machine, and the log was checked with another end
pub record IsNotRefused (refuses : VerifyStatus → Type 0) (words : List (List ℕ)) (files : Files) (log name : List ℕ) : Type 0 where
  pub no_usage : named_by words ≢ None
  pub found : (status : VerifyStatus) → refuses status → ¬ NoMachine (Some files) name status
  pub looked : (status : VerifyStatus) → refuses status → (left taken taken' : Option (List ℕ)) → ¬ CheckedBy (λ t. t) (Some files) name (Some log) left taken taken' status

abbrev pub Refuses : VerifyStatus → Type 0
Refuses status = IsTrue (is_refusal status)

-- a refusal that is not of the log
abbrev pub RefusesButLog : VerifyStatus → Type 0
RefusesButLog status = Refuses status × ((flaw : Flaw) → status ≢ Rejected flaw)

-- if the words name a machine's text, and the log keeps its sizes, no cause of a refusal holds but a flaw of the log
abbrev pub NoCheckIsRefused : Type 0
NoCheckIsRefused = (words : List (List ℕ)) (files : Files) (log name : List ℕ) (machine : Machine)
    → IsCheckOf words files name machine → KeepsSizes log → IsNotRefused RefusesButLog words files log name

-- none at all if the log is lawful with bounds on the machine, but for the causes of its budgets
abbrev pub NoLawfulLogIsRefused : Type 0
NoLawfulLogIsRefused = (words : List (List ℕ)) (files : Files) (log name : List ℕ) (machine : Machine)
    → IsCheckOf words files name machine → KeepsSizes log → IsLawfulText machine log → IsNotRefused Refuses words files log name

-- nor if a run with bounds from the empty state on this machine wrote the log, of at most 10^18 bytes
abbrev pub NoRunIsRejected : Type 0
NoRunIsRejected = (words : List (List ℕ)) (files : Files) (name : List ℕ) (budget : ℕ) (script : List ℕ) (taken taken' : Option (List ℕ)) (machine : Machine)
    → (run : IsAnswered machine budget true empty_state script taken taken') → IsCheckOf words files name machine → length run.text ≤ most_bytes
    → IsNotRefused Refuses words files run.text name

-- if the files and the log are known, the words name a machine's text, and the log keeps its sizes, the status is a verdict
abbrev pub VerifiesInOrder : List (List ℕ) → Option Files → Option (List ℕ) → VerifyStatus → Type 0
VerifiesInOrder words known left status = (files : Files) (log name : List ℕ) (machine : Machine) → known ≡ Some files → left ≡ Some log
    → IsCheckOf words files name machine → KeepsSizes log → IsTrue (is_verdict status)
