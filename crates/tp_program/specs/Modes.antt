-- How what the words ask for ends, by its mode and its status.
use Rattle.std.specs.Prelude.{◌≡◌, ℕ, List, Option}
use Rattle.tp_outside.specs.Outside.{Files}
use Rattle.tp_command.specs.Form.{Asked}
use Rattle.tp_command.specs.declared.request.Mode.{Mode}
use Rattle.tp_command.specs.declared.request.Mode.TheVariants.{Run, Save, Resume, Check, Soak, Compose, Farm}
use Rattle.tp_program.specs.Checks.{CheckEnds}
use Rattle.tp_program.specs.ComposeEnds.{ComposeEnds}
use Rattle.tp_program.specs.FarmEnds.{FarmEnds}
use Rattle.tp_program.specs.ResumeEnds.{ResumeEnds}
use Rattle.tp_program.specs.Runs.{RunEnds}
use Rattle.tp_program.specs.SaveEnds.{SaveEnds}
use Rattle.tp_program.specs.SoakEnds.{SoakEnds}
use Rattle.tp_program.specs.declared.status.Status.{Status}

module _ {S K : Type 0} (left : S → Option (List ℕ)) (taken : K → Option (List ℕ)) (known : Option Files) (source source' : S) (sink sink' : K) where
  abbrev pub EndsAs : Mode → Asked → Status → Type 0
  EndsAs Run asked status = RunEnds left taken known source source' sink sink' asked status
  EndsAs Save asked status = SaveEnds left taken known source source' sink sink' asked status
  EndsAs Resume asked status = ResumeEnds left taken known source source' sink sink' asked status
  EndsAs Compose asked status = ComposeEnds taken known source source' sink sink' asked status
  EndsAs Farm asked status = FarmEnds left taken known source source' sink sink' asked status
  EndsAs Check asked status = CheckEnds left taken known source source' sink sink' asked status
  EndsAs Soak asked status = SoakEnds taken source source' sink sink' asked status

  abbrev pub Ends : Asked → Status → Type 0
  Ends asked status = EndsAs asked.mode asked status
