-- How a run ends that goes on from a snapshot, by its status.
use Rattle.std.specs.Prelude.{◌≡◌, ◌⊎◌, ℕ, ◌<◌, ◌≤◌, List, length, Option, Some, IfSome, unwrap_or}
use Rattle.std.specs.Option.{IsSomeAnd}
use Rattle.tp_outside.specs.Outside.{Files, file_at}
use Rattle.tp_machine.specs.declared.machine.Machine.{Machine}
use Rattle.tp_command.specs.Form.{Asked}
use Rattle.tp_jobs.specs.declared.standing.Standing as kept
use Rattle.tp_snapshot.specs.Rules.{IsBrokenAt, IsSnapshot}
use Rattle.tp_snapshot.specs.Texts.{IsNotJson}
use Rattle.tp_snapshot.specs.declared.fault.SnapFault.TheVariants.{NotJson, Rule}
use Rattle.tp_session_standing.specs.Sound.{IsSound}
use Rattle.tp_session_standing.specs.StandingStates.{standing_state}
use Rattle.tp_event_rules.specs.States.{SessionState}
use Rattle.tp_run_laws.specs.Wholes.{IsWhole}
use Rattle.tp_program.specs.Runs.{EndsOn}
use Rattle.tp_program.specs.declared.status.Long.TheVariants.{Snapshot as SnapshotText}
use Rattle.tp_program.specs.declared.status.Status.{Status}
use Rattle.tp_program.specs.declared.status.Status.TheVariants.{Memory, Shelf, TooLong, Snapshot}

abbrev pub most_snapshot : ℕ
most_snapshot = 134217728

-- a text of at most 134,217,728 bytes of which P holds; it is the one of this name, where the shelf tells it
pub record IsSaved (known : Option Files) (name : List ℕ) (P : List ℕ → Type 0) : Type 0 where
  pub text : List ℕ
  pub is_known : IfSome known (λ files. file_at files name ≡ Some text)
  pub fits : length text ≤ most_snapshot
  pub has : P text

-- the text of this name has more bytes
abbrev pub IsLongSnapshot : Option Files → List ℕ → Type 0
IsLongSnapshot known name = IfSome known (λ files. IsSomeAnd (file_at files name) (λ text. most_snapshot < length text))

-- why there is no snapshot of this name. That the shelf failed, its counts say
abbrev pub NoSnapshot : Option Files → List ℕ → Status → Type 0
NoSnapshot known name Memory = Unit {0}
NoSnapshot known name Shelf = Unit {0}
NoSnapshot known name (TooLong SnapshotText) = IsLongSnapshot known name
NoSnapshot known name (Snapshot NotJson) = IsSaved known name IsNotJson
NoSnapshot known name (Snapshot (Rule n)) = IsSaved known name (IsBrokenAt n)
NoSnapshot known name _ = ⊥

-- the name is that of a snapshot, which tells a machine and a sound standing; and what the run did, with the budget of the words, or
-- else the machine's, and with bounds where the words ask for them. It did so from the state that the standing tells, and from
-- every state that has this as its live part, past included
pub record ResumesOn (known : Option Files) (asked : Asked) (left left' taken taken' : Option (List ℕ)) (status : Status) : Type 0 where
  pub machine : Machine
  pub standing : kept.Standing
  pub snapshot : IsSaved known asked.arg (λ text. IsSnapshot text machine standing)
  pub sound : IsSound machine standing
  pub whole : IsWhole machine (standing_state machine standing) (standing_state machine standing)
  pub did : (start : SessionState) → IsWhole machine start (standing_state machine standing)
      → EndsOn machine (unwrap_or asked.budget machine.budget) asked.bounds start left left' taken taken' status

-- how it ends: there is no snapshot, and nothing is read or written; or it ran
module _ {S K : Type 0} (left : S → Option (List ℕ)) (taken : K → Option (List ℕ)) (known : Option Files) (source source' : S) (sink sink' : K) where
  abbrev pub ResumeEnds : Asked → Status → Type 0
  ResumeEnds asked status =
      (NoSnapshot known asked.arg status × (source' ≡ source) × (sink' ≡ sink))
      ⊎ ResumesOn known asked (left source) (left source') (taken sink) (taken sink') status
