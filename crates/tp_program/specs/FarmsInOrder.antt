-- Farms in which everything is in order, and what that excludes.
use Rattle.std.specs.Prelude.{◌≡◌, ◌≢◌, ℕ, ◌≤◌, List, All, length, Option, Some, None, IsTrue}
use Rattle.tp_outside.specs.Outside.{Files}
use Rattle.tp_machine.specs.declared.machine.Machine.{Machine}
use Rattle.tp_machine_text.specs.Texts.{IsMachineText}
use Rattle.tp_command.specs.Form.{Asked, form}
use Rattle.tp_command.specs.declared.request.Mode.TheVariants.{Farm}
use Rattle.tp_words.specs.Texts.{lines_of}
use Rattle.tp_stream.specs.Scripts.{line_bytes, most_lines}
use Rattle.tp_stream.specs.Takes.{FitsIn}
use Rattle.tp_program.specs.FarmEnds.{AreNames, FarmedBy, NoFarm}
use Rattle.tp_program.specs.InOrder.{IsThere, is_refusal}
use Rattle.tp_program.specs.declared.status.Status.{Status}

-- the name is that of a machine's text, which keeps its size
pub record IsOfMachine (files : Files) (name : List ℕ) : Type 0 where
  pub text : List ℕ
  pub there : IsThere files name text
  pub machine : Machine
  pub is_text : IsMachineText text machine

-- the words ask for a farm of a list of machine texts, and the list, the texts and the script keep their sizes
pub record IsFarmInOrder (words : List (List ℕ)) (files : Files) (script : List ℕ) (asked : Asked) : Type 0 where
  pub named : form words ≡ Some asked
  pub mode : asked.mode ≡ Farm
  pub list : List ℕ
  pub there : IsThere files asked.arg list
  pub names : List (List ℕ)
  pub are_names : AreNames list names
  pub are_machines : All (IsOfMachine files) names
  pub lines_fit : All (FitsIn line_bytes) (lines_of script)
  pub few : length (lines_of script) ≤ most_lines

-- then no cause of a refusal holds
pub record FarmIsNotRefused (words : List (List ℕ)) (files : Files) (script : List ℕ) (asked : Asked) : Type 0 where
  pub no_usage : form words ≢ None
  pub found : (status : Status) → IsTrue (is_refusal status) → ¬ NoFarm (Some files) asked.arg status
  pub answered : (status : Status) → IsTrue (is_refusal status) → (left taken taken' : Option (List ℕ))
      → ¬ FarmedBy (Some files) asked (Some script) left taken taken' status

abbrev pub NoFarmIsRefused : Type 0
NoFarmIsRefused = (words : List (List ℕ)) (files : Files) (script : List ℕ) (asked : Asked)
    → IsFarmInOrder words files script asked → FarmIsNotRefused words files script asked
