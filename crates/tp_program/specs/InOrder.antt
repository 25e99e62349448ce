-- Requests in which everything is in order, and what that excludes.
use Rattle.std.specs.Prelude.{◌≡◌, ◌≢◌, ◌⊎◌, ℕ, ◌≤◌, Bool, true, false, List, All, length, Option, Some, None, IsTrue}
use Rattle.tp_outside.specs.Outside.{Files, file_at}
use Rattle.tp_machine.specs.declared.machine.Machine.{Machine}
use Rattle.tp_machine_text.specs.Texts.{IsMachineText}
use Rattle.tp_command.specs.Form.{Asked, form}
use Rattle.tp_command.specs.declared.request.Mode.TheVariants.{Run, Save, Compose}
use Rattle.tp_compose.specs.Texts.{IsSoundRack}
use Rattle.tp_words.specs.Texts.{lines_of}
use Rattle.tp_stream.specs.Scripts.{line_bytes, most_lines}
use Rattle.tp_stream.specs.Takes.{FitsIn}
use Rattle.tp_program.specs.ComposeEnds.{NoRack, WritesComposed}
use Rattle.tp_program.specs.Runs.{NoMachine, RanBy}
use Rattle.tp_program.specs.SaveEnds.{SavedBy}
use Rattle.tp_program.specs.Texts.{most_text}
use Rattle.tp_program.specs.declared.status.Status.{Status}
use Rattle.tp_program.specs.declared.status.Status.TheVariants.{Usage, Machine as MachineIs, TooLong, Rejected, Snapshot, Rack, Farm}

-- the status refuses what was given: it is neither an answer, nor want of memory, nor a fault of the outside
abbrev pub is_refusal : Status → Bool
is_refusal Usage = true
is_refusal (MachineIs fault) = true
is_refusal (TooLong what) = true
is_refusal (Rejected flaw) = true
is_refusal (Snapshot fault) = true
is_refusal (Rack fault) = true
is_refusal (Farm fault) = true
is_refusal _ = false

-- the name is that of a text of at most 1,048,576 bytes
pub record IsThere (files : Files) (name text : List ℕ) : Type 0 where
  pub is_known : file_at files name ≡ Some text
  pub fits : length text ≤ most_text

-- the words ask for a run on the text of a machine, saved or not, and the text and the script keep their sizes
pub record IsRunInOrder (words : List (List ℕ)) (files : Files) (script : List ℕ) (asked : Asked) : Type 0 where
  pub named : form words ≡ Some asked
  pub mode : (asked.mode ≡ Run) ⊎ (asked.mode ≡ Save)
  pub text : List ℕ
  pub there : IsThere files asked.arg text
  pub machine : Machine
  pub is_text : IsMachineText text machine
  pub lines_fit : All (FitsIn line_bytes) (lines_of script)
  pub few : length (lines_of script) ≤ most_lines

-- then no cause of a refusal holds
pub record RunIsNotRefused (words : List (List ℕ)) (files : Files) (script : List ℕ) (asked : Asked) : Type 0 where
  pub no_usage : form words ≢ None
  pub found : (status : Status) → IsTrue (is_refusal status) → ¬ NoMachine (Some files) asked.arg status
  pub answered : (status : Status) → IsTrue (is_refusal status) → (left taken taken' : Option (List ℕ))
      → ¬ RanBy (Some files) asked (Some script) left taken taken' status
  pub saved : (status : Status) → IsTrue (is_refusal status) → (left taken taken' : Option (List ℕ))
      → ¬ SavedBy (Some files) asked (Some script) left taken taken' status

abbrev pub NoRunIsRefused : Type 0
NoRunIsRefused = (words : List (List ℕ)) (files : Files) (script : List ℕ) (asked : Asked)
    → IsRunInOrder words files script asked → RunIsNotRefused words files script asked

-- the words ask for what is composed of a rack's text, and the text keeps its size
pub record IsRackInOrder (words : List (List ℕ)) (files : Files) (asked : Asked) : Type 0 where
  pub named : form words ≡ Some asked
  pub mode : asked.mode ≡ Compose
  pub text : List ℕ
  pub there : IsThere files asked.arg text
  pub is_rack : IsSoundRack text

-- then no cause of a refusal holds
pub record RackIsNotRefused (words : List (List ℕ)) (files : Files) (asked : Asked) : Type 0 where
  pub no_usage : form words ≢ None
  pub found : (status : Status) → IsTrue (is_refusal status) → ¬ NoRack (Some files) asked.arg status
  pub written : (status : Status) → IsTrue (is_refusal status) → (taken taken' : Option (List ℕ))
      → ¬ WritesComposed (Some files) asked.arg taken taken' status

abbrev pub NoRackIsRefused : Type 0
NoRackIsRefused = (words : List (List ℕ)) (files : Files) (asked : Asked) → IsRackInOrder words files asked → RackIsNotRefused words files asked
