-- What a board carries while a list is opened, and that it is left as it was.
use Rattle.std.specs.Prelude.{◌≡◌, ℕ, ◌+◌, ◌-◌, ◌≤◌, List, [], ◌++◌, length, None, Some, IsFalse, IsSomeAnd}
use Rattle.tp_base.specs.Readings.{Reading}
use Rattle.tp_machine.specs.declared.parts.State.{State}
use Rattle.tp_machine.specs.declared.machine.Machine.{Machine}
use Rattle.tp_schedule.specs.Choices.{Choice}
use Rattle.tp_schedule.specs.declared.parts.Ask.{Ask}
use Rattle.tp_schedule.specs.declared.parts.Plan.{Plan}
use Rattle.tp_constraints.specs.Suffixes.{Suffix}
use Rattle.tp_placing.specs.Boards.{BoardContent, BoardValue, content_of, past_of, suffix_of}
use Rattle.tp_placing.specs.Calls.{IsSameLoad}
use Rattle.tp_placing.specs.LoadedBoard.{Stands}
use Rattle.tp_constraints.specs.Ways.{IsWay}

-- the suffix is a way that is not stopped, of these choices
pub record IsWayOf (machine : Machine) (plans : List Plan) (ask : Ask) (goal first : State) (choices : List Choice) (x : Suffix) : Type 0 where
  pub way : IsWay machine plans ask goal first x
  pub same : x.choices ≡ choices
  pub going : IsFalse x.stopped

module _ {N : Type 0} (reading : Reading N) where
  -- the board stands on the machine and the ask, and carries such a way
  pub record IsLaid (b : BoardValue N) (machine : Machine) (ask : Ask) (goal first : State) (choices : List Choice) : Type 0 where
    pub stands : Stands reading b machine
    pub asked : b.ask ≡ Some ask
    pub way : IsSomeAnd (suffix_of b) (IsWayOf machine b.plans ask goal first choices)

  -- the board stands on the machine, is loaded for the ask, and has no goal open
  pub record IsReady (b : BoardValue N) (machine : Machine) (ask : Ask) : Type 0 where
    pub stands : Stands reading b machine
    pub asked : b.ask ≡ Some ask
    pub closed : suffix_of b ≡ None

  -- so many marks of the board are spare, one of the network being its own
  abbrev pub HasMarks : ℕ → BoardValue N → Type 0
  HasMarks count b = length (past_of reading b) + count ≤ reading.max_marks b.net - 1

  -- the board is as it was, but for what marks leave alone, and stands on the machine if it did
  pub record IsBack (b b' : BoardValue N) (machine : Machine) : Type 0 where
    pub same_content : content_of reading b' ≡ content_of reading b
    pub same_past : past_of reading b' ≡ past_of reading b
    pub loaded : IsSameLoad b b'
    pub marks : reading.max_marks b'.net - 1 ≡ reading.max_marks b.net - 1
    pub stands : Stands reading b machine → Stands reading b' machine

  -- the second board is further than the first one: the same is loaded, and the same marks are in force, perhaps with more
  -- behind them
  pub record IsFurther (b b' : BoardValue N) : Type 0 where
    pub kept : List BoardContent
    pub past_more : past_of reading b' ≡ past_of reading b ++ kept
    pub loaded : IsSameLoad b b'
    pub marks : reading.max_marks b'.net - 1 ≡ reading.max_marks b.net - 1

-- the board stands on the machine, with no goal open and no mark in force
pub record IsAtRest {N : Type 0} (reading : Reading N) (b : BoardValue N) (machine : Machine) : Type 0 where
  pub stands : Stands reading b machine
  pub closed : b.steps ≡ []
  pub unmarked : past_of reading b ≡ []
