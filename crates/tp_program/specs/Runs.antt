-- How a run ends, by its status.
use Rattle.std.specs.Prelude.{◌≡◌, ◌⊎◌, ℕ, Bool, List, Option, unwrap_or}
use Rattle.tp_outside.specs.Outside.{Files}
use Rattle.tp_machine.specs.declared.machine.Machine.{Machine}
use Rattle.tp_machine_text.specs.Texts.{IsBrokenAt, IsMachineText, IsNotToml}
use Rattle.tp_machine_text.specs.declared.machine_reader.MachineFault.TheVariants.{NotToml, Rule}
use Rattle.tp_command.specs.Form.{Asked}
use Rattle.tp_stream.specs.Takes.{IsAtEnd, IsReadFrom}
use Rattle.tp_stream.specs.declared.stop.Stop.{Stop}
use Rattle.tp_stream.specs.declared.stop.Stop.TheVariants as stop
use Rattle.tp_event_rules.specs.States.{SessionState, empty_state}
use Rattle.tp_run_laws.specs.Ends.{IsAnswered, IsAnsweredTo}
use Rattle.tp_run_laws.specs.Promised.{KeepsPromises}
use Rattle.tp_program.specs.Texts.{IsLongText, IsShelved}
use Rattle.tp_program.specs.declared.status.Long.TheVariants.{MachineText, Line, Lines}
use Rattle.tp_program.specs.declared.status.Status.{Status}
use Rattle.tp_program.specs.declared.status.Status.TheVariants.{Done, Memory, Machine as MachineIs, Shelf, Source, Sink, TooLong}

-- why there is no machine of this name
abbrev pub NoMachine : Option Files → List ℕ → Status → Type 0
NoMachine known name Memory = Unit {0}
NoMachine known name Shelf = Unit {0}
NoMachine known name (TooLong MachineText) = IsLongText known name
NoMachine known name (MachineIs NotToml) = IsShelved known name IsNotToml
NoMachine known name (MachineIs (Rule n)) = IsShelved known name (IsBrokenAt n)
NoMachine known name _ = ⊥

-- how the answering of a script ends that has begun: all was done, or it stopped for the cause that the status tells
abbrev pub EndsBy : Type 0 → (Stop → Type 0) → Status → Type 0
EndsBy all stops Done = all
EndsBy all stops Memory = stops stop.Memory
EndsBy all stops Source = stops stop.Source
EndsBy all stops Sink = stops stop.Sink
EndsBy all stops (TooLong (Line n)) = stops (stop.Line n)
EndsBy all stops (TooLong Lines) = stops stop.Lines
EndsBy all stops _ = ⊥

-- on a machine, with this budget and with bounds or without, from this state on: what is left of the source before and after, and what
-- the sink had taken before and after
module _ (machine : Machine) (budget : ℕ) (bounds : Bool) (start : SessionState) (left left' taken taken' : Option (List ℕ)) where
  -- the script that the source gave was answered on the machine by a lawful run, and the text of its one log was written
  abbrev pub DoneOn : Type 0
  DoneOn = (script : List ℕ) × IsReadFrom left script left' × IsAnswered machine budget bounds start script taken taken'

  -- its first lines were, up to where the run stopped
  abbrev pub StopsOn : Stop → Type 0
  StopsOn cause = (script : List ℕ) × IsReadFrom left script left' × IsAnsweredTo machine budget bounds start cause script left left' taken taken'

  -- how a run ends that has begun: with Done the source was read to its end
  abbrev pub EndsOn : Status → Type 0
  EndsOn status = EndsBy (DoneOn × IsAtEnd left left') StopsOn status

-- so from the empty state on, and the log keeps the promises: no resource is held twice, each tray receives its line in order, each plan
-- is earliest and least, each none and each budget means what it says, and with bounds trees prove plans and nones
module _ (machine : Machine) (budget : ℕ) (bounds : Bool) (left left' taken taken' : Option (List ℕ)) where
  abbrev pub DonePromised : Type 0
  DonePromised = (script : List ℕ) × IsReadFrom left script left'
      × (answered : IsAnswered machine budget bounds empty_state script taken taken')
      × KeepsPromises machine budget bounds answered.run.log answered.run.last

  abbrev pub StopsPromised : Stop → Type 0
  StopsPromised cause = (script : List ℕ) × IsReadFrom left script left'
      × (answered : IsAnsweredTo machine budget bounds empty_state cause script left left' taken taken')
      × KeepsPromises machine budget bounds answered.run.log answered.run.last

  -- how a run ends that has begun, with what its log promises
  abbrev pub EndsPromised : Status → Type 0
  EndsPromised status = EndsBy (DonePromised × IsAtEnd left left') StopsPromised status

-- the name is that of a machine's text, and the run on it with the budget of the words, or else the machine's, and with
-- bounds where the words ask for them, did this
pub record RunsOn (known : Option Files) (asked : Asked) (Did : Machine → ℕ → Bool → Type 0) : Type 0 where
  pub machine : Machine
  pub text : IsShelved known asked.arg (λ text. IsMachineText text machine)
  pub did : Did machine (unwrap_or asked.budget machine.budget) asked.bounds

abbrev pub RanBy : Option Files → Asked → Option (List ℕ) → Option (List ℕ) → Option (List ℕ) → Option (List ℕ) → Status → Type 0
RanBy known asked left left' taken taken' status =
    RunsOn known asked (λ machine budget bounds. EndsPromised machine budget bounds left left' taken taken' status)

-- how a run ends: there is no machine, and nothing is read or written; or it ran
module _ {S K : Type 0} (left : S → Option (List ℕ)) (taken : K → Option (List ℕ)) (known : Option Files) (source source' : S) (sink sink' : K) where
  abbrev pub RunEnds : Asked → Status → Type 0
  RunEnds asked status =
      (NoMachine known asked.arg status × (source' ≡ source) × (sink' ≡ sink))
      ⊎ RanBy known asked (left source) (left source') (taken sink) (taken sink') status
