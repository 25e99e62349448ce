-- How a farm ends, by its status.
use Rattle.std.specs.Prelude.{◌≡◌, ◌⊎◌, ℕ, ◌+◌, Bool, List, slice_get, take, All, Option, Some, None}
use Rattle.std.specs.List.{AllZip}
use Rattle.tp_outside.specs.Outside.{Files, file_at}
use Rattle.tp_machine.specs.declared.machine.Machine.{Machine}
use Rattle.tp_machine_text.specs.Texts.{IsBrokenAt, IsMachineText, IsNotToml}
use Rattle.tp_machine_text.specs.declared.machine_reader.MachineFault.TheVariants.{NotToml, Rule}
use Rattle.tp_command.specs.Form.{Asked}
use Rattle.tp_session.specs.Sessions.{Standing, start_of}
use Rattle.tp_stream.specs.Takes.{IsAtEnd, IsReadFrom}
use Rattle.tp_stream.specs.declared.stop.Stop.{Stop}
use Rattle.tp_farm.specs.Farms.{FarmState}
use Rattle.tp_farm.specs.Lists.{IsBadName, IsFileName, IsNoList, names_of}
use Rattle.tp_program.specs.FarmRuns.{IsFarmAnswered, IsFarmAnsweredTo, farm_start}
use Rattle.tp_program.specs.Runs.{EndsBy}
use Rattle.tp_program.specs.Texts.{IsLongText, IsShelved}
use Rattle.tp_program.specs.declared.farm_fault.FarmFault.TheVariants.{Lines, Name, Machine as MachineAt}
use Rattle.tp_program.specs.declared.status.Long.TheVariants.{MachineText}
use Rattle.tp_program.specs.declared.status.Status.{Status}
use Rattle.tp_program.specs.declared.status.Status.TheVariants.{Memory, Shelf, TooLong, Machine as MachineIs, Farm}

-- ---- the list of a farm, and the machines of its names

-- these are the names of the list, each 1 to 255 bytes of UTF-8
pub record AreNames (list : List ℕ) (names : List (List ℕ)) : Type 0 where
  pub listed : names_of list ≡ Some names
  pub good : All IsFileName names

-- the name is that of this machine's text
abbrev pub HasMachine : Option Files → List ℕ → Machine → Type 0
HasMachine known name machine = IsShelved known name (λ text. IsMachineText text machine)

-- the names are those of these machines' texts, in their order
abbrev pub AreMachines : Option Files → List (List ℕ) → List Machine → Type 0
AreMachines known names machines = AllZip (HasMachine known) names machines

-- the name of this number, counted from 1, is the first that isn't a machine's, and P holds of it
pub record IsFirstOther (known : Option Files) (names : List (List ℕ)) (number : ℕ) (P : List ℕ → Type 0) : Type 0 where
  pub place : ℕ
  pub counted : number ≡ place + 1
  pub name : List ℕ
  pub there : slice_get names place ≡ Some name
  pub other : P name
  pub machines : List Machine
  pub before : AreMachines known (take place names) machines

-- the text of this name is a list, and P holds of its names
pub record IsListed (known : Option Files) (name : List ℕ) (P : List (List ℕ) → Type 0) : Type 0 where
  pub names : List (List ℕ)
  pub list : IsShelved known name (λ list. AreNames list names)
  pub has : P names

-- no name that is looked for is missing on the shelf: the first that isn't a machine's is there
abbrev pub NoneMissing : Files → List (List ℕ) → Type 0
NoneMissing files names = (number : ℕ) → ¬ IsFirstOther (Some files) names number (λ name. file_at files name ≡ None)

-- so it is with the names of the list of this name
abbrev pub NoneListedMissing : Files → List ℕ → Type 0
NoneListedMissing files name = (list : List ℕ) (names : List (List ℕ)) → file_at files name ≡ Some list → AreNames list names → NoneMissing files names

-- ---- why there is no farm

-- why one of the names is no machine's: each name before it is one's
abbrev pub NoMachines : Option Files → List (List ℕ) → Status → Type 0
NoMachines known names Memory = Unit {0}
NoMachines known names Shelf = Unit {0}
NoMachines known names (TooLong MachineText) = (number : ℕ) × IsFirstOther known names number (IsLongText known)
NoMachines known names (Farm (MachineAt number NotToml)) = IsFirstOther known names number (λ name. IsShelved known name IsNotToml)
NoMachines known names (Farm (MachineAt number (Rule n))) = IsFirstOther known names number (λ name. IsShelved known name (IsBrokenAt n))
NoMachines known names _ = ⊥

-- why there is no farm of the list of this name. That the shelf failed, its counts say
abbrev pub NoFarm : Option Files → List ℕ → Status → Type 0
NoFarm known name Memory = Unit {0}
NoFarm known name Shelf = Unit {0}
NoFarm known name (TooLong MachineText) = IsLongText known name ⊎ IsListed known name (λ names. NoMachines known names (TooLong MachineText))
NoFarm known name (Farm Lines) = IsShelved known name IsNoList
NoFarm known name (Farm (Name number)) = IsShelved known name (IsBadName number)
NoFarm known name (Farm (MachineAt number fault)) = IsListed known name (λ names. NoMachines known names (Farm (MachineAt number fault)))
NoFarm known name _ = ⊥

-- what the status of one machine says of a farm in which it has this number
abbrev pub of_machine : ℕ → Status → Status
of_machine number (MachineIs fault) = Farm (MachineAt number fault)
of_machine number status = status

-- ---- how a farm ends

-- the name is that of a machine's text, and this is where a session on it stands before its first event
pub record BeginsOn (known : Option Files) (budget : Option ℕ) (bounds : Bool) (name : List ℕ) (standing : Standing) : Type 0 where
  pub machine : Machine
  pub text : HasMachine known name machine
  pub begins : standing ≡ start_of machine budget bounds

-- the text of this name lists the names of machines' texts, and this holds of the machines
pub record FarmsOn (known : Option Files) (name : List ℕ) (P : List Machine → Type 0) : Type 0 where
  pub machines : List Machine
  pub listed : IsListed known name (λ names. AreMachines known names machines)
  pub has : P machines

-- the farm has a session at its start for each machine that the words name, with their budget, or else the machine's, and with
-- bounds where they ask for them
abbrev pub IsFarmFor : Option Files → Asked → FarmState Standing → Type 0
IsFarmFor known asked farm = FarmsOn known asked.arg (λ machines. farm ≡ farm_start machines asked.budget asked.bounds)

-- on machines, with this budget and with bounds or without: what is left of the source before and after, and what the sink had
-- taken before and after
module _ (machines : List Machine) (budget : Option ℕ) (bounds : Bool) (left left' taken taken' : Option (List ℕ)) where
  -- the script that the source gave was answered by the farm, and its text was written. The lines of each machine, without its
  -- number before them, are the text of the one log that answers the events that it was sent by a lawful run
  abbrev pub FarmDone : Type 0
  FarmDone = (script : List ℕ) × IsReadFrom left script left' × IsFarmAnswered machines budget bounds script taken taken'

  -- its first lines were, up to where the farm stopped
  abbrev pub FarmStops : Stop → Type 0
  FarmStops cause = (script : List ℕ) × IsReadFrom left script left' × IsFarmAnsweredTo machines budget bounds cause script left left' taken taken'

  -- how a farm ends that has begun: with Done the source was read to its end
  abbrev pub FarmEndsOn : Status → Type 0
  FarmEndsOn status = EndsBy (FarmDone × IsAtEnd left left') FarmStops status

abbrev pub FarmedBy : Option Files → Asked → Option (List ℕ) → Option (List ℕ) → Option (List ℕ) → Option (List ℕ) → Status → Type 0
FarmedBy known asked left left' taken taken' status =
    FarmsOn known asked.arg (λ machines. FarmEndsOn machines asked.budget asked.bounds left left' taken taken' status)

-- how a farm ends: there is none, and nothing is read or written; or it answered
module _ {S K : Type 0} (left : S → Option (List ℕ)) (taken : K → Option (List ℕ)) (known : Option Files) (source source' : S) (sink sink' : K) where
  abbrev pub FarmEnds : Asked → Status → Type 0
  FarmEnds asked status =
      (NoFarm known asked.arg status × (source' ≡ source) × (sink' ≡ sink))
      ⊎ FarmedBy known asked (left source) (left source') (taken sink) (taken sink') status
