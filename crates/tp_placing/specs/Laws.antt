-- Marks keep what a board stands on, and what a refusal shows.
use Rattle.std.specs.Prelude.{◌≡◌, ℕ, List, [], ◌∷◌, ◌++◌, take, slice_get, Some}
use Rattle.tp_base.specs.Readings.{Reading}
use Rattle.tp_base.specs.Net.{Net}
use Rattle.tp_machine.specs.declared.machine.Machine.{Machine}
use Rattle.tp_schedule.specs.Spots.{Spot}
use Rattle.tp_schedule.specs.declared.parts.Plan.{Plan}
use Rattle.tp_constraints.specs.Suffixes.{Suffix}
use Rattle.tp_placing.specs.Boards.{BoardValue, content_of, untouched_of, past_of}
use Rattle.tp_placing.specs.Causes.{numbered}
use Rattle.tp_placing.specs.Reasons.{HasReason, HasEndReason}
use Rattle.tp_placing.specs.LoadedBoard.{Stands, table_with}
use Rattle.tp_placing.specs.RefusedPlace.{HasReasonUpTo}

module _ {N A : Type 0} (reading : Reading N) (untouched : N → A) where
  -- a board that stands on a machine stands on it after a mark
  abbrev pub MarkKeeps : Type 0
  MarkKeeps = (a b : BoardValue N) (machine : Machine) → content_of reading b ≡ content_of reading a → untouched_of untouched b ≡ untouched_of untouched a → past_of reading b ≡ past_of reading a ++ content_of reading a ∷ []
      → Stands reading a machine → Stands reading b machine

  -- and when it is taken back to one
  abbrev pub UndoKeeps : Type 0
  UndoKeeps = (a b : BoardValue N) (machine : Machine) (k : ℕ) → slice_get (past_of reading a) k ≡ Some (content_of reading b) → untouched_of untouched b ≡ untouched_of untouched a → past_of reading b ≡ take k (past_of reading a)
      → Stands reading a machine → Stands reading b machine

-- what marks leave alone has what the last refusal shows
abbrev pub UntouchedKeepsReasons : {N A : Type 0} → (N → A) → (N → Net → Type 0) → Type 0
UntouchedKeepsReasons {N} untouched refutes = (a b : BoardValue N) (machine : Machine) (x : Suffix) → untouched_of untouched b ≡ untouched_of untouched a → HasReason refutes machine a x → HasReason refutes machine b x

abbrev pub UntouchedKeepsEndReasons : {N A : Type 0} → (N → A) → (N → Net → Type 0) → Type 0
UntouchedKeepsEndReasons {N} untouched refutes =
    (a b : BoardValue N) (machine : Machine) (x : Suffix) (last : ℕ) → untouched_of untouched b ≡ untouched_of untouched a → HasEndReason refutes machine a x last → HasEndReason refutes machine b x last

abbrev pub UntouchedKeepsReasonsUpTo : {N A : Type 0} → (N → A) → (N → Net → Type 0) → Type 0
UntouchedKeepsReasonsUpTo {N} untouched refutes =
    (a b : BoardValue N) (machine : Machine) (place : ℕ) (x : Suffix) → untouched_of untouched b ≡ untouched_of untouched a → HasReasonUpTo refutes machine a place x → HasReasonUpTo refutes machine b place x

-- the points of a table have their numbers
abbrev pub TablesAreNumbered : Type 0
TablesAreNumbered = (plans : List Plan) (count i : ℕ) (s : Spot) → slice_get (table_with plans count) i ≡ Some s → numbered plans i ≡ s
