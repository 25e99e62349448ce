-- The memory of a search.
use Rattle.std.specs.Prelude.{◌≡◌, ℕ, ◌+◌, ◌*◌, ◌≤◌, List, Vec, vec_capacity}
use Rattle.std.specs.declared.alloc.Global.{Global}
use Rattle.tp_machine.specs.declared.machine.Machine.{Machine}
use Rattle.tp_schedule.specs.SpentBudget.{IsSpent}
use Rattle.tp_schedule.specs.declared.parts.Ask.{Ask}
use Rattle.tp_schedule.specs.declared.parts.Plan.{Plan}
use Rattle.tp_placing.specs.declared.parts.MadeFor.{MadeFor}
use Rattle.tp_base.specs.Readings.{Reading}
use Rattle.tp_placing.specs.Boards.{BoardValue}
use Rattle.tp_placing.specs.Commits.{IsHeldFrom}
use Rattle.tp_routes.specs.Index.{IsLeadIndex}
use Rattle.tp_routes.specs.Tables.{AreRooms, IsMadeFor, RoomTable}
use Rattle.tp_search.specs.Boards.{HasMarks, IsReady}
use Rattle.tp_search.specs.Stores.{StoreValue}
use Rattle.tp_search.specs.declared.goals.OpenGoal.{OpenGoal}

-- the table of rooms, with the numbers of the machine that it was made for, and how many lists can be stored
pub record WorkspaceValue : Type 0 where
  pub rooms : RoomTable
  pub nodes : ℕ

-- it was made for a machine with these numbers
abbrev pub IsFor : WorkspaceValue → Machine → Type 0
IsFor w machine = IsMadeFor w.rooms machine

-- the numbers of locations and resources and the window for which it was made
abbrev pub numbers_of : WorkspaceValue → MadeFor
numbers_of w = record { locations = w.rooms.locations; resources = w.rooms.resources; window = w.rooms.window }

-- it is for the machine as before, and stores as many lists; only the table of rooms may be another
pub record StaysFor (machine : Machine) (w w' : WorkspaceValue) : Type 0 where
  pub made : IsFor w' machine
  pub numbers : numbers_of w' ≡ numbers_of w
  pub nodes : w'.nodes ≡ w.nodes

-- it keeps bounds for each tick of the window, and goals for each state
pub record IsWorkspace (rooms : RoomTable) (store : StoreValue) (goals : Vec OpenGoal Global) : Type 0 where
  pub wide : store.width ≡ rooms.window + 1
  pub space : 8 * rooms.locations ≤ vec_capacity goals

-- as many lists as it has nodes are open
abbrev pub IsSpentOf : ℕ → Machine → List Plan → Ask → ℕ → Type 0
IsSpentOf nodes machine plans ask bound = IsSpent machine plans ask nodes bound

-- a search can begin: the workspace has the tables of the machine and the ask, and the board is loaded for the ask and has no
-- choices
pub record CanSearch {N : Type 0} (reading : Reading N) (w : WorkspaceValue) (b : BoardValue N) (machine : Machine) (ask : Ask) : Type 0 where
  pub made : IsFor w machine
  pub rooms : AreRooms machine ask w.rooms.sums
  pub leads : IsLeadIndex machine w.rooms.firsts w.rooms.nexts
  pub plans : List Plan
  pub held : IsHeldFrom machine plans ask b.plans
  pub ready : IsReady reading b machine ask
  pub marks : HasMarks reading 7 b
