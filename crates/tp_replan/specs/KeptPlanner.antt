-- What every call of a planner keeps, whatever its answer.
use Rattle.std.specs.Prelude.{◌≡◌, ℕ, ◌≤◌, Result, IfErr}
use Rattle.tp_machine.specs.declared.machine.Machine.{Machine}
use Rattle.tp_schedule.specs.PlannerAnswers.{StopsOnlyWhere}
use Rattle.tp_schedule.specs.declared.parts.Halt.{Halt}

-- the planner still serves the machine, and what no call changes of it stays. Its count of stops does not fall, and it is stopped only
-- if the count rose
pub record KeepsPlanner {P L A : Type 0} (serves : P → Machine → Type 0) (stops : P → ℕ) (lasting : P → L) (machine : Machine) (old new : P) (result : Result A Halt) : Type 0 where
  pub stops_only : IfErr result (StopsOnlyWhere (stops old) (stops new))
  pub counted : stops old ≤ stops new
  pub still_serves : serves new machine
  pub lasts : lasting new ≡ lasting old
