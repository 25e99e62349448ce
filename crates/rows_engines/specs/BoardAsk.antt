-- A board that is asked for a new copy.
use Rattle.std.specs.Prelude.{◌≡◌, ◌<◌, ℕ, [], IsSomeAnd, IsFalse}
use Rattle.tp_base.specs.Readings.{Reading}
use Rattle.tp_machine.specs.declared.machine.Machine.{Machine}
use Rattle.tp_schedule.specs.Answers.{kept_of}
use Rattle.tp_placing.specs.Boards.{BoardValue, past_of, suffix_of}
use Rattle.tp_placing.specs.LoadedBoard.{Stands, own_points}

-- the board stands on the machine, is asked for a new copy, and a mark can be set
pub record IsForNew {N : Type 0} (reading : Reading N) (b : BoardValue N) (machine : Machine) : Type 0 where
  pub stands : Stands reading b machine
  pub new : IsSomeAnd b.ask (λ ask. kept_of ask ≡ 0)
  pub unmarked : past_of reading b ≡ []
  pub marks : reading.max_marks b.net ≡ 330

-- a goal is open, and there are fewer than so many choices
abbrev pub IsOpen : {N : Type 0} → ℕ → BoardValue N → Type 0
IsOpen most b = IsSomeAnd (suffix_of b) (λ x. IsFalse x.stopped) × (own_points (suffix_of b) < most)
