-- Where there is no text of a name, there is no machine and no rack of it.
use Rattle.std.proofs.Common.{ℕ, List, Option}
use Rattle.tp_outside.specs.Outside.{Files}
use Rattle.tp_program.specs.ComposeEnds.{NoRack}
use Rattle.tp_program.specs.Runs.{NoMachine}
use Rattle.tp_program.specs.Texts.{NoText}
use Rattle.tp_program.specs.declared.status.Long.TheVariants as size
use Rattle.tp_program.specs.declared.status.Status.{Status}
use Rattle.tp_program.specs.declared.status.Status.TheVariants as status

pub no_machine : (known : Option Files) (name : List ℕ) (s : Status) → NoText known name s → NoMachine known name s
no_machine known name status.Memory none = none
no_machine known name status.Shelf none = none
no_machine known name (status.TooLong size.MachineText) none = none
no_machine known name s none = absurd none

pub no_rack : (known : Option Files) (name : List ℕ) (s : Status) → NoText known name s → NoRack known name s
no_rack known name status.Memory none = none
no_rack known name status.Shelf none = none
no_rack known name (status.TooLong size.MachineText) none = none
no_rack known name s none = absurd none
