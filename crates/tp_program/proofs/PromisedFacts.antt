-- A run that ends on the empty state keeps the promises.
use Rattle.std.proofs.Common.{ℕ, Bool, List, Option}
use Rattle.tp_machine.specs.declared.machine.Machine.{Machine}
use Rattle.tp_run_laws.specs.Promised.{AnswersKeepPromises, StopsKeepPromises}
use Rattle.tp_stream.specs.Takes.{IsAtEnd}
use Rattle.tp_stream.specs.declared.stop.Stop.{Stop}
use Rattle.tp_stream.specs.declared.stop.Stop.TheVariants as stop
use Rattle.tp_event_rules.specs.States.{empty_state}
use Rattle.tp_program.specs.Runs.{DoneOn, DonePromised, EndsBy, EndsOn, EndsPromised, StopsOn, StopsPromised}
use Rattle.tp_program.specs.declared.status.Long.TheVariants as size
use Rattle.tp_program.specs.declared.status.Status.{Status}
use Rattle.tp_program.specs.declared.status.Status.TheVariants as status

-- what follows of all that was done, and of each stop, follows of how a run ends
ends-so : (all all' : Type 0) (stops stops' : Stop → Type 0) → (all → all') → ((cause : Stop) → stops cause → stops' cause)
    → (s : Status) → EndsBy all stops s → EndsBy all' stops' s
ends-so all all' stops stops' done stopped status.Done h = done h
ends-so all all' stops stops' done stopped status.Memory h = stopped stop.Memory h
ends-so all all' stops stops' done stopped status.Source h = stopped stop.Source h
ends-so all all' stops stops' done stopped status.Sink h = stopped stop.Sink h
ends-so all all' stops stops' done stopped (status.TooLong (size.Line n)) h = stopped (stop.Line n) h
ends-so all all' stops stops' done stopped (status.TooLong size.Lines) h = stopped stop.Lines h
ends-so all all' stops stops' done stopped s h = absurd h

module _ (machine : Machine) (budget : ℕ) (bounds : Bool) (left left' taken taken' : Option (List ℕ)) where
  pub promised : AnswersKeepPromises machine budget bounds → StopsKeepPromises machine budget bounds
      → (s : Status) → EndsOn machine budget bounds empty_state left left' taken taken' s → EndsPromised machine budget bounds left left' taken taken' s
  promised answers stops =
      ends-so (DoneOn machine budget bounds empty_state left left' taken taken' × IsAtEnd left left') (DonePromised machine budget bounds left left' taken taken' × IsAtEnd left left')
      (StopsOn machine budget bounds empty_state left left' taken taken') (StopsPromised machine budget bounds left left' taken taken')
      (λ ((script, read, answered), end). ((script, read, answered, answers script taken taken' answered), end))
      (λ cause (script, read, answered). (script, read, answered, stops cause script left left' taken taken' answered))
