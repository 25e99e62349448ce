-- How a check ends, by what it found.
use Rattle.std.proofs.Common.{◌≡◌, ◌⊎◌, ℕ, List, [], Option, Some, inl, inr, sym, subst}
use Rattle.std.specs.Prelude.{IfSome}
use Rattle.tp_log_check.specs.declared.counts.Counts.{Counts}
use Rattle.tp_machine.specs.declared.machine.Machine.{Machine}
use Rattle.tp_log_check.specs.Ends.{IsAcceptedFrom, StopsFrom}
use Rattle.tp_log_check.specs.declared.rejection.Rejection.{Rejection}
use Rattle.tp_log_check.specs.declared.rejection.Rejection.TheVariants as cause
use Rattle.tp_program.specs.Checks.{ChecksOn, WritesCounts, status_of}
use Rattle.tp_program.specs.declared.status.Status.{Status}
use Rattle.tp_program.specs.declared.status.Status.TheVariants as status

module _ {K : Type 0} (taken : K → Option (List ℕ)) (machine : Machine) (left left' : Option (List ℕ)) (sink sink' : K) where
  -- it stopped, and nothing was written
  pub checks-stopped : (why : Rejection) → StopsFrom machine left left' why → sink' ≡ sink → ChecksOn taken machine left left' sink sink' (status_of why)
  checks-stopped cause.Memory stops same = same
  checks-stopped cause.Source stops same = (stops, same)
  checks-stopped (cause.Line n) stops same = (stops, same)
  checks-stopped cause.Log stops same = (stops, same)
  checks-stopped (cause.Flaw flaw) stops same = (stops, same)

  module _ (counts : Counts) (log : IsAcceptedFrom machine left left' counts) (all : IfSome left (λ _. left' ≡ Some [])) where
    wrote : (s : Status) → WritesCounts counts (taken sink) (taken sink') s → ChecksOn taken machine left left' sink sink' s
    wrote status.Done h = record { counts = counts; log = log; all = all; written = h }
    wrote status.Sink h = record { counts = counts; log = log; all = all; written = h }
    wrote s h = absurd h

    -- it was accepted
    pub checks-accepted : (s : Status) → ((s ≡ status.Memory) × (sink' ≡ sink)) ⊎ WritesCounts counts (taken sink) (taken sink') s → ChecksOn taken machine left left' sink sink' s
    checks-accepted s (inl memory) = subst (ChecksOn taken machine left left' sink sink') (sym memory.0) memory.1
    checks-accepted s (inr written) = wrote s written
