-- What a session answered, as a run on its machine.
use Rattle.std.proofs.Common.{◌≡◌, ◌≢◌, ℕ, Bool, List, [], Option, Some, refl, sym, subst, arith}
use Rattle.std.specs.Prelude.{IfSome, unwrap_or}
use Rattle.tp_machine.specs.declared.machine.Machine.{Machine}
use Rattle.tp_run_laws.specs.Wholes.{IsWhole}
use Rattle.tp_session.specs.Continuations.{ScriptsGoOn, StopsGoOn, stands_at}
use Rattle.tp_session.specs.Sessions.{Standing, Tells}
use Rattle.tp_stream.specs.Scripts.{AnswersLine, IsStopped, IsTaken, line_bytes}
use Rattle.tp_stream.specs.Takes.{place_of}
use Rattle.tp_stream.specs.declared.stop.Stop.{Stop}
use Rattle.tp_stream.specs.declared.stop.Stop.TheVariants as stop
use Rattle.tp_stream.proofs.TakesFacts.{read_none, takes_none}
use Rattle.tp_event_rules.specs.States.{SessionState}
use Rattle.tp_program.specs.Runs.{DoneOn, EndsBy, EndsOn, StopsOn}
use Rattle.tp_program.specs.declared.status.Long.TheVariants as size
use Rattle.tp_program.specs.declared.status.Status.{Status}
use Rattle.tp_program.specs.declared.status.Status.TheVariants as status

-- what a session answered from a live state on, on every whole state behind it
module _ (machine : Machine) (budget : Option ℕ) (bounds : Bool) (whole live : SessionState) (behind : IsWhole machine whole live) (left left' taken taken' : Option (List ℕ)) where
  pub done_on : ScriptsGoOn machine budget bounds → (last : Standing) → IsTaken Tells (stands_at machine budget bounds live) left taken last left' taken'
      → DoneOn machine (unwrap_or budget machine.budget) bounds whole left left' taken taken'
  done_on go last (bytes, read, takes) = (bytes, read, go whole live behind bytes taken taken' last takes)

  pub stops_on : StopsGoOn machine budget bounds → (cause : Stop) → IsStopped Tells (stands_at machine budget bounds live) left taken cause left' taken'
      → StopsOn machine (unwrap_or budget machine.budget) bounds whole left left' taken taken' cause
  stops_on go cause (bytes, read, (s, stops)) = (bytes, read, go whole live behind cause bytes left left' taken taken' s stops)

-- where it stood at first
pub taken_at : (left left' taken taken' : Option (List ℕ)) (from to last : Standing) → from ≡ to → IsTaken Tells from left taken last left' taken' → IsTaken Tells to left taken last left' taken'
taken_at left left' taken taken' from to last e = subst (λ x. IsTaken Tells x left taken last left' taken') e

pub stopped_at : (left left' taken taken' : Option (List ℕ)) (from to : Standing) (cause : Stop) → from ≡ to → IsStopped Tells from left taken cause left' taken' → IsStopped Tells to left taken cause left' taken'
stopped_at left left' taken taken' from to cause e = subst (λ x. IsStopped Tells x left taken cause left' taken') e

-- where no session could be made
pub never_began : (start : Standing) (left taken : Option (List ℕ)) → IsStopped Tells start left taken stop.Memory left taken
never_began start left taken = (
  [],
  read_none left,
  (start, record { rest = []; at = place_of start 0 taken; takes = takes_none (AnswersLine Tells) line_bytes (place_of start 0 taken) []; few = omega arith; stops = refl }),
)

-- no line of a script is refused
pub never_refused : (start : Standing) (left taken left' taken' : Option (List ℕ)) → ¬ IsStopped Tells start left taken stop.Refused left' taken'
never_refused start left taken left' taken' (bytes, read, (s, stops)) = stops.stops.0.refused

pub not_refused : (start : Standing) (left taken left' taken' : Option (List ℕ)) (cause : Stop) → IsStopped Tells start left taken cause left' taken' → cause ≢ stop.Refused
not_refused start left taken left' taken' cause stopped is = never_refused start left taken left' taken' (subst (λ c. IsStopped Tells start left taken c left' taken') is stopped)

-- the status tells the cause
pub ends_by : (all : Type 0) (stops : Stop → Type 0) (cause : Stop) (s : Status) → EndsBy ⊥ (λ c. cause ≡ c) s → stops cause → EndsBy all stops s
ends_by all stops cause status.Memory is h = subst stops is h
ends_by all stops cause status.Source is h = subst stops is h
ends_by all stops cause status.Sink is h = subst stops is h
ends_by all stops cause (status.TooLong (size.Line n)) is h = subst stops is h
ends_by all stops cause (status.TooLong size.Lines) is h = subst stops is h
ends_by all stops cause s is h = absurd is

-- how a run ends, by how its script was answered
module _ (machine : Machine) (budget : Option ℕ) (bounds : Bool) (whole live : SessionState) (behind : IsWhole machine whole live) (left left' taken taken' : Option (List ℕ)) where
  abbrev Ends : Status → Type 0
  Ends s = EndsOn machine (unwrap_or budget machine.budget) bounds whole left left' taken taken' s

  pub ends_done : ScriptsGoOn machine budget bounds → (last : Standing) → IsTaken Tells (stands_at machine budget bounds live) left taken last left' taken'
      → IfSome left (λ _. left' ≡ Some []) → (s : Status) → s ≡ status.Done → Ends s
  ends_done go last all end s is = subst Ends (sym is) (done_on machine budget bounds whole live behind left left' taken taken' go last all, end)

  pub ends_stopped : StopsGoOn machine budget bounds → (cause : Stop) → IsStopped Tells (stands_at machine budget bounds live) left taken cause left' taken'
      → (s : Status) → EndsBy ⊥ (λ c. cause ≡ c) s → Ends s
  ends_stopped go cause stopped s is =
      ends_by (DoneOn machine (unwrap_or budget machine.budget) bounds whole left left' taken taken' × IfSome left (λ _. left' ≡ Some []))
      (StopsOn machine (unwrap_or budget machine.budget) bounds whole left left' taken taken') cause s is
      (stops_on machine budget bounds whole live behind left left' taken taken' go cause stopped)

pub source_cause : (cause : Stop) (s : Status) → EndsBy ⊥ (λ c. cause ≡ c) s → s ≡ status.Source → cause ≡ stop.Source
source_cause cause s is e = subst (EndsBy ⊥ (λ c. cause ≡ c)) e is

pub sink_cause : (cause : Stop) (s : Status) → EndsBy ⊥ (λ c. cause ≡ c) s → s ≡ status.Sink → cause ≡ stop.Sink
sink_cause cause s is e = subst (EndsBy ⊥ (λ c. cause ≡ c)) e is
