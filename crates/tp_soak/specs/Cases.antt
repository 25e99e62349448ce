-- The case of a number: its machine and its events.
use Rattle.std.specs.Prelude.{ℕ, List}
use Rattle.tp_machine.specs.declared.machine.Machine.{Machine}
use Rattle.tp_script.specs.declared.event.Event.{Event}
use Rattle.tp_soak.specs.Draws.{first_state}
use Rattle.tp_soak.specs.Engines.{draw_engines}
use Rattle.tp_soak.specs.Machines.{IsMachineWith}
use Rattle.tp_soak.specs.Scripts.{script}

abbrev pub IsMachineFor : ℕ → Machine → Type 0
IsMachineFor arg machine = IsMachineWith (draw_engines (first_state arg)).engines machine

abbrev pub events_for : ℕ → List Event
events_for arg = script (draw_engines (first_state arg)).state
