-- A request that is in order is answered: no refusal comes, so it ends in an answer, or memory ran out, or the outside failed.
use Rattle.std.specs.Prelude.{◌≡◌, ℕ, Bool, true, false, List, Option, Some, IsTrue}
use Rattle.tp_outside.specs.Outside.{Files}
use Rattle.tp_command.specs.Form.{Asked, form}
use Rattle.tp_command.specs.declared.request.Mode.{Mode}
use Rattle.tp_command.specs.declared.request.Mode.TheVariants.{Run, Save, Resume, Check, Soak, Compose, Farm}
use Rattle.tp_program.specs.ChecksInOrder.{IsCheckInOrder}
use Rattle.tp_program.specs.FarmsInOrder.{IsFarmInOrder}
use Rattle.tp_program.specs.InOrder.{IsRackInOrder, IsRunInOrder}
use Rattle.tp_program.specs.ResumesInOrder.{IsResumeInOrder}
use Rattle.tp_program.specs.declared.status.Status.{Status}
use Rattle.tp_program.specs.declared.status.Status.TheVariants.{Done, Memory, Rejected}

-- the words ask for this, the texts that they name are there and keep their rules and sizes, and the input keeps its sizes
abbrev pub IsInOrderAs : Mode → List (List ℕ) → Files → List ℕ → Asked → Type 0
IsInOrderAs Run words files input asked = IsRunInOrder words files input asked
IsInOrderAs Save words files input asked = IsRunInOrder words files input asked
IsInOrderAs Resume words files input asked = IsResumeInOrder words files input asked
IsInOrderAs Check words files input asked = IsCheckInOrder words files input asked
IsInOrderAs Compose words files input asked = IsRackInOrder words files asked
IsInOrderAs Farm words files input asked = IsFarmInOrder words files input asked
IsInOrderAs Soak words files input asked = form words ≡ Some asked

-- all was done, or memory ran out
abbrev pub is_answer : Status → Bool
is_answer Done = true
is_answer Memory = true
is_answer _ = false

-- or the log was refused
abbrev pub is_verdict : Status → Bool
is_verdict Done = true
is_verdict Memory = true
is_verdict (Rejected flaw) = true
is_verdict _ = false

abbrev pub is_answer_of : Mode → Status → Bool
is_answer_of Check status = is_verdict status
is_answer_of _ status = is_answer status

-- if the files and the input are known, and what the words ask for is in order, the status is an answer of its mode
abbrev pub AnswersInOrder : List (List ℕ) → Option Files → Option (List ℕ) → Status → Type 0
AnswersInOrder words known left status = (files : Files) (input : List ℕ) (asked : Asked) → known ≡ Some files → left ≡ Some input
    → IsInOrderAs asked.mode words files input asked → IsTrue (is_answer_of asked.mode status)
