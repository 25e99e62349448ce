-- The machine texts of the shelf.
use Rattle.std.specs.Prelude.{◌≡◌, ℕ, ◌<◌, ◌≤◌, List, length, Option, Some, IfSome}
use Rattle.std.specs.Option.{IsSomeAnd}
use Rattle.tp_outside.specs.Outside.{Files, file_at}
use Rattle.tp_machine_text.specs.Texts.{IsBrokenAt, IsNotToml}
use Rattle.tp_machine_text.specs.declared.machine_reader.MachineFault.TheVariants.{NotToml, Rule}
use Rattle.tp_verify.specs.declared.verify_status.LongInput.TheVariants.{MachineText}
use Rattle.tp_verify.specs.declared.verify_status.VerifyStatus.{VerifyStatus}
use Rattle.tp_verify.specs.declared.verify_status.VerifyStatus.TheVariants.{Memory, Machine as MachineIs, Shelf, TooLong}

abbrev pub most_text : ℕ
most_text = 1048576

-- a text of at most 1,048,576 bytes of which P holds; it is the one of this name, if the shelf tells it
pub record IsShelved (known : Option Files) (name : List ℕ) (P : List ℕ → Type 0) : Type 0 where
  pub text : List ℕ
  pub is_known : IfSome known (λ files. file_at files name ≡ Some text)
  pub fits : length text ≤ most_text
  pub has : P text

-- the text of this name has more bytes
abbrev pub IsLongText : Option Files → List ℕ → Type 0
IsLongText known name = IfSome known (λ files. IsSomeAnd (file_at files name) (λ text. most_text < length text))

-- why there is no machine of this name, by the status. That the shelf failed, its counts say
abbrev pub NoMachine : Option Files → List ℕ → VerifyStatus → Type 0
NoMachine known name Memory = Unit {0}
NoMachine known name Shelf = Unit {0}
NoMachine known name (TooLong MachineText) = IsLongText known name
NoMachine known name (MachineIs NotToml) = IsShelved known name IsNotToml
NoMachine known name (MachineIs (Rule n)) = IsShelved known name (IsBrokenAt n)
NoMachine known name _ = ⊥
