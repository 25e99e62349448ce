-- How composing a machine of a rack ends, by its status.
use Rattle.std.specs.Prelude.{◌≡◌, ◌⊎◌, ℕ, List, Option}
use Rattle.tp_outside.specs.Outside.{Files}
use Rattle.tp_machine_text.specs.Texts.{IsNotToml}
use Rattle.tp_compose.specs.Texts.{IsComposed, IsFlatBrokenAt, IsRackBrokenAt, IsSoundRack}
use Rattle.tp_compose.specs.declared.rack_machine.RackFault.TheVariants.{NotToml, Rule, Flat}
use Rattle.tp_command.specs.Form.{Asked}
use Rattle.tp_program.specs.Texts.{IsLongText, IsShelved}
use Rattle.tp_program.specs.WrittenText.{WritesOne}
use Rattle.tp_program.specs.declared.status.Long.TheVariants.{MachineText}
use Rattle.tp_program.specs.declared.status.Status.{Status}
use Rattle.tp_program.specs.declared.status.Status.TheVariants.{Memory, Shelf, TooLong, Rack}

-- why nothing is composed of the text of this name
abbrev pub NoRack : Option Files → List ℕ → Status → Type 0
NoRack known name Memory = Unit {0}
NoRack known name Shelf = Unit {0}
NoRack known name (TooLong MachineText) = IsLongText known name
NoRack known name (Rack NotToml) = IsShelved known name IsNotToml
NoRack known name (Rack (Rule n)) = IsShelved known name (IsRackBrokenAt n)
NoRack known name (Rack (Flat n)) = IsShelved known name (IsFlatBrokenAt n)
NoRack known name _ = ⊥

-- the text of this name is a rack's, and the machine text that is composed of it was written, or cut short
abbrev pub WritesComposed : Option Files → List ℕ → Option (List ℕ) → Option (List ℕ) → Status → Type 0
WritesComposed known name taken taken' status =
    IsShelved known name (λ text. IsSoundRack text × WritesOne (IsComposed text) taken taken' status)

-- how composing ends: nothing is composed, and nothing written; or what is composed is written. The source is never read
module _ {S K : Type 0} (taken : K → Option (List ℕ)) (known : Option Files) (source source' : S) (sink sink' : K) where
  abbrev pub ComposeEnds : Asked → Status → Type 0
  ComposeEnds asked status =
      (source' ≡ source)
      × ((NoRack known asked.arg status × (sink' ≡ sink)) ⊎ WritesComposed known asked.arg (taken sink) (taken sink') status)
