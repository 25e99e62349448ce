-- The texts of the shelf that the words name.
use Rattle.std.specs.Prelude.{◌≡◌, ℕ, ◌<◌, ◌≤◌, List, length, Option, Some, IfSome}
use Rattle.std.specs.Option.{IsSomeAnd}
use Rattle.tp_outside.specs.Outside.{Files, file_at}
use Rattle.tp_program.specs.declared.status.Long.TheVariants.{MachineText}
use Rattle.tp_program.specs.declared.status.Status.{Status}
use Rattle.tp_program.specs.declared.status.Status.TheVariants.{Memory, Shelf, TooLong}

abbrev pub most_text : ℕ
most_text = 1048576

-- a text of at most 1,048,576 bytes of which P holds; it is the one of this name, where the shelf tells it
pub record IsShelved (known : Option Files) (name : List ℕ) (P : List ℕ → Type 0) : Type 0 where
  pub text : List ℕ
  pub is_known : IfSome known (λ files. file_at files name ≡ Some text)
  pub fits : length text ≤ most_text
  pub has : P text

-- the text of this name has more bytes
abbrev pub IsLongText : Option Files → List ℕ → Type 0
IsLongText known name = IfSome known (λ files. IsSomeAnd (file_at files name) (λ text. most_text < length text))

-- why there is no text of this name, by the status. That the shelf failed, its counts say
abbrev pub NoText : Option Files → List ℕ → Status → Type 0
NoText known name Memory = Unit {0}
NoText known name Shelf = Unit {0}
NoText known name (TooLong MachineText) = IsLongText known name
NoText known name _ = ⊥
