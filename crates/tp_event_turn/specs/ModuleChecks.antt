-- Which module an event names, and why the event is refused.
use Rattle.std.specs.Prelude.{ℕ, Bool, true, false, Option, Some, None, Result, Ok, Err}
use Rattle.tp_machine.specs.declared.parts.Outs.{Outs}
use Rattle.tp_machine.specs.declared.machine.Machine.{Machine}
use Rattle.tp_schedule.specs.declared.records.Cause.{Cause}
use Rattle.tp_schedule.specs.declared.records.Cause.TheVariants.{Module, Out, NotOn}
use Rattle.tp_script.specs.declared.event.Event.{Event}
use Rattle.tp_script.specs.declared.event.Event.TheVariants.{Bad, Job as NewJob, Clock, Jam, Off, On, Refill}
use Rattle.tp_event_rules.specs.Refusals.{jam_refusal, module_of, off_refusal, on_refusal}
use Rattle.tp_event_turn.specs.declared.out_fault.OutFault.{OutFault}
use Rattle.tp_event_turn.specs.declared.out_fault.OutFault.TheVariants.{UnknownModule, AlreadyOut, NotOut}

-- a module goes out, or comes back
abbrev pub is_of_module : Event → Bool
is_of_module Bad = false
is_of_module (NewJob name tray media groups) = false
is_of_module (Clock to) = false
is_of_module (Jam name) = true
is_of_module (Off name) = true
is_of_module (On name) = true
is_of_module (Refill name count) = false

abbrev pub is_jam : Event → Bool
is_jam (Jam name) = true
is_jam _ = false

abbrev pub comes_back : Event → Bool
comes_back (On name) = true
comes_back _ = false

-- the number of the module that the event names
abbrev pub module_named : Machine → Event → Option ℕ
module_named machine Bad = None
module_named machine (NewJob name tray media groups) = None
module_named machine (Clock to) = None
module_named machine (Jam name) = module_of machine name
module_named machine (Off name) = module_of machine name
module_named machine (On name) = module_of machine name
module_named machine (Refill name count) = None

-- why it is refused where these modules are out
abbrev pub module_refusal : Machine → Outs → Event → Option Cause
module_refusal machine outs Bad = None
module_refusal machine outs (NewJob name tray media groups) = None
module_refusal machine outs (Clock to) = None
module_refusal machine outs (Jam name) = jam_refusal machine name
module_refusal machine outs (Off name) = off_refusal machine outs name
module_refusal machine outs (On name) = on_refusal machine outs name
module_refusal machine outs (Refill name count) = None

-- the cause that a fault is
abbrev pub out_cause : OutFault → Cause
out_cause (UnknownModule name) = Module name
out_cause (AlreadyOut name) = Out name
out_cause (NotOut name) = NotOn name

-- the cause in an answer
abbrev pub out_cause_in : {X : Type 0} → Result X OutFault → Option Cause
out_cause_in (Ok x) = None
out_cause_in (Err fault) = Some (out_cause fault)

abbrev pub cause_in : {X : Type 0} → Result X Cause → Option Cause
cause_in (Ok x) = None
cause_in (Err cause) = Some cause
