-- A board that was loaded for an ask, before the first search.
use Rattle.std.specs.Prelude.{◌≡◌, List, [], Some}
use Rattle.tp_base.specs.Readings.{Reading}
use Rattle.tp_machine.specs.declared.machine.Machine.{Machine}
use Rattle.tp_schedule.specs.declared.parts.Ask.{Ask}
use Rattle.tp_schedule.specs.declared.parts.Plan.{Plan}
use Rattle.tp_placing.specs.Boards.{BoardValue, past_of}
use Rattle.tp_placing.specs.LoadedBoard.{Stands}
use Rattle.tp_placing.specs.Commits.{IsHeldFrom}

-- the board holds the live ones of these plans for the ask, no goal is open and no mark in force
pub record IsReady {N : Type 0} (reading : Reading N) (b : BoardValue N) (machine : Machine) (plans : List Plan) (ask : Ask) : Type 0 where
  pub held : IsHeldFrom machine plans ask b.plans
  pub stands : Stands reading b machine
  pub asked : b.ask ≡ Some ask
  pub closed : b.steps ≡ []
  pub unmarked : past_of reading b ≡ []
