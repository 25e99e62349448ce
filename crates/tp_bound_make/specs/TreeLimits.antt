-- The limit of a tree, and the rooms that it is made with.
use Rattle.std.specs.Prelude.{ℕ, pos}
use Rattle.tp_machine.specs.declared.machine.Machine.{Machine}
use Rattle.tp_routes.specs.Tables.{AreRooms, IsMadeFor, RoomTable}
use Rattle.tp_schedule.specs.declared.parts.Ask.{Ask}
use Rattle.tp_bound_make.specs.Closes.{IsLimit}

-- the rooms are those of the ask on the machine, and the limit is no later than the ask's window
pub record FitsAsk (machine : Machine) (ask : Ask) (table : RoomTable) (last : ℕ) : Type 0 where
  pub limit : IsLimit machine ask (pos last)
  pub made : IsMadeFor table machine
  pub rooms : AreRooms machine ask table.sums
