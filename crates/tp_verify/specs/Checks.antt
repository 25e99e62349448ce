-- How a check ends, by its status.
use Rattle.std.specs.Prelude.{◌≡◌, ◌⊎◌, ℕ, List, ◌++◌, Option, Some, IfSome}
use Rattle.tp_outside.specs.Outside.{Files}
use Rattle.tp_outside.specs.PartialTransfer.{IsCutShort}
use Rattle.tp_machine.specs.declared.machine.Machine.{Machine}
use Rattle.tp_machine_text.specs.Texts.{IsMachineText}
use Rattle.tp_log_check.specs.declared.counts.Counts.{Counts}
use Rattle.tp_log_check.specs.Ends.{IsAcceptedFrom, StopsFrom}
use Rattle.tp_log_check.specs.Summary.{counts_text}
use Rattle.tp_log_check.specs.declared.rejection.Rejection.{Rejection}
use Rattle.tp_log_check.specs.declared.rejection.Rejection.TheVariants as cause
use Rattle.tp_stream.specs.Takes.{IsAtEnd}
use Rattle.tp_verify.specs.Machines.{IsShelved, NoMachine}
use Rattle.tp_verify.specs.declared.verify_status.LongInput.TheVariants.{Line, Log}
use Rattle.tp_verify.specs.declared.verify_status.VerifyStatus.{VerifyStatus}
use Rattle.tp_verify.specs.declared.verify_status.VerifyStatus.TheVariants.{Done, Memory, Source, Sink, TooLong, Rejected}

abbrev pub status_of : Rejection → VerifyStatus
status_of cause.Memory = Memory
status_of cause.Source = Source
status_of (cause.Line n) = TooLong (Line n)
status_of cause.Log = TooLong Log
status_of (cause.Flaw flaw) = Rejected flaw

-- the line of these counts was written, or a first part of it if the sink failed
abbrev pub WritesCounts : Counts → Option (List ℕ) → Option (List ℕ) → VerifyStatus → Type 0
WritesCounts counts taken taken' Done = IfSome taken (λ before. taken' ≡ Some (before ++ counts_text counts))
WritesCounts counts taken taken' Sink = IfSome taken (IsCutShort (counts_text counts) taken')
WritesCounts counts taken taken' _ = ⊥

-- on a machine: what is left of the source before and after, and the sink before and after
module _ {K : Type 0} (taken : K → Option (List ℕ)) (machine : Machine) (left left' : Option (List ℕ)) (sink sink' : K) where
  -- the source was read to its end, what it gave is the text of a log that is lawful with bounds, but for the causes of its
  -- budgets, and the line of the log's counts was written, or a first part of it
  pub record Accepts (status : VerifyStatus) : Type 0 where
    pub counts : Counts
    pub log : IsAcceptedFrom machine left left' counts
    pub all : IsAtEnd left left'
    pub written : WritesCounts counts (taken sink) (taken sink') status

  -- the first lines were those of such a log so far, up to the cause, and nothing was written
  abbrev pub StopsBy : Rejection → Type 0
  StopsBy why = StopsFrom machine left left' why × (sink' ≡ sink)

  abbrev pub ChecksOn : VerifyStatus → Type 0
  ChecksOn Done = Accepts Done
  ChecksOn Sink = Accepts Sink
  ChecksOn Memory = sink' ≡ sink
  ChecksOn Source = StopsBy cause.Source
  ChecksOn (TooLong (Line n)) = StopsBy (cause.Line n)
  ChecksOn (TooLong Log) = StopsBy cause.Log
  ChecksOn (Rejected flaw) = StopsBy (cause.Flaw flaw)
  ChecksOn _ = ⊥

-- the name is that of a machine's text, and the log was checked as one of the machine
pub record CheckedBy {K : Type 0} (taken : K → Option (List ℕ)) (known : Option Files) (name : List ℕ) (left left' : Option (List ℕ)) (sink sink' : K) (status : VerifyStatus) : Type 0 where
  pub machine : Machine
  pub text : IsShelved known name (λ text. IsMachineText text machine)
  pub did : ChecksOn taken machine left left' sink sink' status

-- how a check ends: there is no machine, and nothing is read or written; or the log was checked
module _ {S K : Type 0} (left : S → Option (List ℕ)) (taken : K → Option (List ℕ)) (known : Option Files) (source source' : S) (sink sink' : K) where
  abbrev pub CheckEnds : List ℕ → VerifyStatus → Type 0
  CheckEnds name status =
      (NoMachine known name status × (source' ≡ source) × (sink' ≡ sink))
      ⊎ CheckedBy taken known name (left source) (left source') sink sink' status
