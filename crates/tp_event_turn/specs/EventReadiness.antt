-- That an event can be taken.
use Rattle.tp_machine.specs.declared.machine.Machine.{Machine}
use Rattle.tp_event_rules.specs.Ready.{CanTakeEvents, KeepsStock, last_copy}
use Rattle.tp_event_rules.specs.States.{SessionState}

-- the planner serves the machine, and the state is that of a session that can take one event more
pub record IsReadyForEvent {P : Type 0} (serves : P → Machine → Type 0) (machine : Machine) (s : SessionState) (planner : P) : Type 0 where
  pub served : serves planner machine
  pub can : CanTakeEvents machine last_copy s
  pub stocked : KeepsStock machine last_copy s
