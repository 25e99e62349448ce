-- What a machine text is, and what is wrong with a text that is none.
use Rattle.std.specs.Prelude.{◌≡◌, ℕ, false, List, Some, None, IsUtf8}
use Rattle.toml.specs.Data.{Members}
use Rattle.toml.specs.Parse.{parse_document}
use Rattle.toml.specs.Text.{IsDocumentText}
use Rattle.tp_machine.specs.declared.machine.Machine.{Machine}
use Rattle.tp_machine_text.specs.Broken.{first_broken}
use Rattle.tp_machine_text.specs.Printed.{table_of}
use Rattle.tp_machine_text.specs.TheMachine.{IsMachineOf}

-- the bytes are the TOML text of the table
pub record IsToml (text : List ℕ) (t : Members) : Type 0 where
  pub utf8 : IsUtf8 text
  pub parses : parse_document text ≡ Some t

-- the bytes are no TOML text
abbrev pub IsNotToml : List ℕ → Type 0
IsNotToml text = (t : Members) → ¬ IsToml text t

-- the text is TOML, and the nth rule is the first that it breaks
abbrev pub IsBrokenAt : ℕ → List ℕ → Type 0
IsBrokenAt n text = (t : Members) × IsToml text t × (first_broken t ≡ Some n)

-- the text is TOML, it breaks no rule, and the machine is that of its table
abbrev pub IsMachineText : List ℕ → Machine → Type 0
IsMachineText text machine = (t : Members) × IsToml text t × (first_broken t ≡ None) × IsMachineOf t machine

-- the bytes are the document of the machine's table, which has format 2 and each key, in byte order
pub record IsPrintedText (text : List ℕ) (machine : Machine) : Type 0 where
  pub document : IsDocumentText false (table_of machine) text
  pub toml : IsToml text (table_of machine)

-- the text is TOML and breaks no rule
abbrev pub IsSound : List ℕ → Type 0
IsSound text = (¬ IsNotToml text) × ((n : ℕ) → ¬ IsBrokenAt n text)
