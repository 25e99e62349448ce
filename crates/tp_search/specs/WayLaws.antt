-- What a search needs of ways on a board: their bounds, and that complete ones can be committed.
use Rattle.std.specs.Prelude.{ℕ, ◌<◌, List, length}
use Rattle.tp_machine.specs.declared.parts.State.{State}
use Rattle.tp_machine.specs.declared.machine.Machine.{Machine}
use Rattle.tp_schedule.specs.Choices.{IsBound, IsComplete}
use Rattle.tp_schedule.specs.Routes.{IsStart}
use Rattle.tp_schedule.specs.Spots.Spot.{own}
use Rattle.tp_schedule.specs.declared.parts.Ask.{Ask}
use Rattle.tp_schedule.specs.declared.parts.Plan.{Plan}
use Rattle.tp_constraints.specs.Suffixes.{Suffix, SuffixTimes, list_of}
use Rattle.tp_placing.specs.Ticks.{IsLeastTick}
use Rattle.tp_placing.specs.Commits.{CanCommit}
use Rattle.tp_constraints.specs.Ways.{IsPlaced, IsWay}

-- the least end among its times is the bound of the list
abbrev pub WayBound : Type 0
WayBound = (machine : Machine) (plans : List Plan) (ask : Ask) (goal first : State) (x : Suffix) (tick : ℕ) → IsWay machine plans ask goal first x → IsPlaced machine x.choices
    → IsLeastTick (SuffixTimes machine plans ask x) (own 0) tick → IsBound machine plans ask (list_of goal x) tick

-- a complete way can be committed
abbrev pub WayCommit : Type 0
WayCommit = (machine : Machine) (plans : List Plan) (ask : Ask) (goal first : State) (x : Suffix) → IsWay machine plans ask goal first x → IsPlaced machine x.choices → IsComplete machine ask (list_of goal x)
    → 0 < length x.choices → IsStart machine ask first → CanCommit machine plans ask x
