-- What a search is for: an ask on a machine, with the rooms of its states.
use Rattle.tp_routes.specs.Index.{IsLeadIndex}
use Rattle.tp_routes.specs.Tables.{AreRooms, IsKnownOrigin, IsMadeFor}
use Rattle.tp_search.specs.declared.problem.Problem.{Problem}

-- the table of rooms was made for the machine and filled for the ask, it indexes the actions by where they lead, and the machine
-- knows where the ask begins
pub record IsPosed (problem : Problem) : Type 0 where
  pub table : IsMadeFor problem.rooms.now problem.machine.now
  pub rooms : AreRooms problem.machine.now problem.ask.now problem.rooms.now.sums
  pub leads : IsLeadIndex problem.machine.now problem.rooms.now.firsts problem.rooms.now.nexts
  pub origin : IsKnownOrigin problem.machine.now problem.ask.now.origin
