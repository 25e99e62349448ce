-- How a check ends, by what it found.
use Rattle.std.proofs.Common.{◌≡◌, ◌⊎◌, ℕ, List, [], Option, Some, inl, inr, sym, ap, subst}
use Rattle.std.specs.Prelude.{IfSome}
use Rattle.tp_log_check.specs.declared.counts.Counts.{Counts}
use Rattle.tp_machine.specs.declared.machine.Machine.{Machine}
use Rattle.tp_log_check.specs.Ends.{IsAcceptedFrom, StopsFrom}
use Rattle.tp_log_check.specs.declared.rejection.Rejection.{Rejection}
use Rattle.tp_log_check.specs.declared.rejection.Rejection.TheVariants as cause
use Rattle.tp_verify.specs.Checks.{ChecksOn, WritesCounts, status_of}
use Rattle.tp_verify.specs.declared.verify_status.LongInput.TheVariants as size
use Rattle.tp_verify.specs.declared.verify_status.VerifyStatus.{VerifyStatus}
use Rattle.tp_verify.specs.declared.verify_status.VerifyStatus.TheVariants as status

module _ {K : Type 0} (taken : K → Option (List ℕ)) (machine : Machine) (left left' : Option (List ℕ)) (sink sink' : K) where
  -- it stopped, and nothing was written
  pub checks-stopped : (why : Rejection) → StopsFrom machine left left' why → sink' ≡ sink → ChecksOn taken machine left left' sink sink' (status_of why)
  checks-stopped cause.Memory stops same = same
  checks-stopped cause.Source stops same = (stops, same)
  checks-stopped (cause.Line n) stops same = (stops, same)
  checks-stopped cause.Log stops same = (stops, same)
  checks-stopped (cause.Flaw flaw) stops same = (stops, same)

  module _ (counts : Counts) (log : IsAcceptedFrom machine left left' counts) (all : IfSome left (λ _. left' ≡ Some [])) where
    wrote : (s : VerifyStatus) → WritesCounts counts (taken sink) (taken sink') s → ChecksOn taken machine left left' sink sink' s
    wrote status.Done h = record { counts = counts; log = log; all = all; written = h }
    wrote status.Sink h = record { counts = counts; log = log; all = all; written = h }
    wrote s h = absurd h

    -- it was accepted
    pub checks-accepted : (s : VerifyStatus) → ((s ≡ status.Memory) × (sink' ≡ sink)) ⊎ WritesCounts counts (taken sink) (taken sink') s → ChecksOn taken machine left left' sink sink' s
    checks-accepted s (inl memory) = subst (ChecksOn taken machine left left' sink sink') (sym memory.0) memory.1
    checks-accepted s (inr written) = wrote s written

  -- what the sink had taken says as much of a check as the sink
  pub checks-taken : (s : VerifyStatus) → ChecksOn taken machine left left' sink sink' s → ChecksOn (λ t. t) machine left left' (taken sink) (taken sink') s
  checks-taken status.Done h = record { counts = h.counts; log = h.log; all = h.all; written = h.written }
  checks-taken status.Sink h = record { counts = h.counts; log = h.log; all = h.all; written = h.written }
  checks-taken status.Memory h = ap taken h
  checks-taken status.Source h = (h.0, ap taken h.1)
  checks-taken (status.TooLong (size.Line n)) h = (h.0, ap taken h.1)
  checks-taken (status.TooLong size.Log) h = (h.0, ap taken h.1)
  checks-taken (status.Rejected flaw) h = (h.0, ap taken h.1)
  checks-taken s h = absurd h
