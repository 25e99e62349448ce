-- A text that is written at the end, in one piece.
use Rattle.std.specs.Prelude.{◌≡◌, ℕ, List, ◌++◌, Option, Some, IfSome}
use Rattle.tp_outside.specs.PartialTransfer.{IsCutShort}
use Rattle.tp_program.specs.declared.status.Status.{Status}
use Rattle.tp_program.specs.declared.status.Status.TheVariants.{Done, Sink}

-- a text of which P holds was written: whole, or a first part of it, where the sink failed
abbrev pub WritesOne : (List ℕ → Type 0) → Option (List ℕ) → Option (List ℕ) → Status → Type 0
WritesOne P taken taken' Done = (text : List ℕ) × P text × IfSome taken (λ before. taken' ≡ Some (before ++ text))
WritesOne P taken taken' Sink = (text : List ℕ) × P text × IfSome taken (IsCutShort text taken')
WritesOne P taken taken' _ = ⊥
