-- What is composed of a rack text, and what is wrong with a text of which nothing is.
use Rattle.std.specs.Prelude.{◌≡◌, ℕ, List, Option, Some, None}
use Rattle.toml.specs.Data.{Members}
use Rattle.tp_machine.specs.declared.machine.Machine.{Machine}
use Rattle.tp_machine_text.specs.Broken as table
use Rattle.tp_machine_text.specs.TheMachine.{IsMachineOf}
use Rattle.tp_machine_text.specs.Texts.{IsToml, IsNotToml, IsMachineText, IsPrintedText}
use Rattle.tp_compose.specs.Broken.{first_broken}
use Rattle.tp_compose.specs.Flat.{flat}

-- the first rule of machine texts that the flat table of a rack breaks
unfoldable pub flat_broken : Members → Option ℕ
flat_broken r = table.first_broken (flat r)

-- the rack keeps the rules of racks, its flat table those of machine texts, and the machine is that of the flat table
pub record IsMachineOfRack (r : Members) (machine : Machine) : Type 0 where
  pub kept : first_broken r ≡ None
  pub flat_kept : flat_broken r ≡ None
  pub is_machine : IsMachineOf (flat r) machine

-- the text is TOML, and the nth rule of racks is the first that it breaks
abbrev pub IsRackBrokenAt : ℕ → List ℕ → Type 0
IsRackBrokenAt n text = (r : Members) × IsToml text r × (first_broken r ≡ Some n)

-- the text is TOML and keeps the rules of racks, and the nth rule of machine texts is the first that its flat table breaks
abbrev pub IsFlatBrokenAt : ℕ → List ℕ → Type 0
IsFlatBrokenAt n text = (r : Members) × IsToml text r × (first_broken r ≡ None) × (flat_broken r ≡ Some n)

-- the bytes are those that are printed for the machine, and are read as it
abbrev pub IsTextOf : List ℕ → Machine → Type 0
IsTextOf bytes machine = IsMachineText bytes machine × IsPrintedText bytes machine

-- the text is a rack text, and the bytes are the machine text that is printed for its machine
abbrev pub IsComposed : List ℕ → List ℕ → Type 0
IsComposed text bytes = (r : Members) × (machine : Machine) × IsToml text r × IsMachineOfRack r machine × IsTextOf bytes machine

-- nothing is wrong with the text
abbrev pub IsSoundRack : List ℕ → Type 0
IsSoundRack text = (¬ IsNotToml text) × ((n : ℕ) → ¬ IsRackBrokenAt n text) × ((n : ℕ) → ¬ IsFlatBrokenAt n text)
