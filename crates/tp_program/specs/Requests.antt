-- What the words ask for, where they are of the form `MODE ARG [--bounds] [--budget N]`.
use Rattle.std.specs.Prelude.{◌≡◌, ℕ, List, Some, IsSome}
use Rattle.tp_outside.specs.Outside.{Files, file_at}
use Rattle.tp_command.specs.Form.{Asked, form}
use Rattle.tp_command.specs.declared.request.Mode.{Mode}
use Rattle.tp_command.specs.declared.request.Mode.TheVariants.{Farm}
use Rattle.tp_program.specs.FarmEnds.{NoneListedMissing}

-- where the words ask for this mode, P holds of what they ask for
abbrev pub Asks : Mode → List (List ℕ) → (Asked → Type 0) → Type 0
Asks mode words P = (asked : Asked) → form words ≡ Some asked → asked.mode ≡ mode → P asked

-- what is looked for is there: the text of ARG, and in a farm those that its list names
pub record IsThereFor (files : Files) (asked : Asked) : Type 0 where
  pub arg : IsSome (file_at files asked.arg)
  pub listed : asked.mode ≡ Farm → NoneListedMissing files asked.arg
