-- The goal of an open list is at a location of the machine, and a board on which a step is late has no times for it.
use Rattle.std.proofs.Common.{◌≡◌, ◌<◌, List, [], inl, inr, length, subst, Some, IsSomeAnd}
use Rattle.std.proofs.lemmas.Bool.{cases_lt}
use Rattle.tp_machine.specs.declared.parts.State.{State}
use Rattle.tp_machine.specs.declared.machine.Machine.{Machine}
use Rattle.tp_schedule.specs.Choices.{IsOpen, going}
use Rattle.tp_schedule.specs.declared.parts.Ask.{Ask}
use Rattle.tp_schedule.specs.declared.parts.Plan.{Plan}
use Rattle.tp_constraints.specs.Suffixes.{Suffix}
use Rattle.tp_placing.specs.Boards.{BoardValue}
use Rattle.tp_placing.specs.Calls.{HasNoTimes}
use Rattle.tp_routes.specs.Tables.{IsKnownOrigin}
use Rattle.tp_constraints.specs.WayLaws.{IsLate}
use Rattle.tp_search.proofs.StateFacts.{none_outside}
use Rattle.tp_constraints.proofs.WayChildren.{goal-closed}

-- a goal at no location has no room, so its list is not open
pub goal_within : (machine : Machine) (plans : List Plan) (ask : Ask) (goal : State) → IsKnownOrigin machine ask.origin → IsOpen machine plans ask (going goal []) → goal.loc.0 < length machine.locations
goal_within machine plans ask goal origin o = elim (cases_lt goal.loc.0 (length machine.locations)) [
  | inl within ↦ within
  | inr outside ↦ absurd (goal-closed machine plans ask goal (none_outside machine ask goal origin outside) o)
]

-- what the board refuses has no times under its ask
pub refused-late : {N : Type 0} (machine : Machine) (b : BoardValue N) (ask : Ask) (x : Suffix) → b.ask ≡ Some ask → HasNoTimes machine b x → IsLate machine b.plans ask x
refused-late machine b ask x asked none = subst (λ o. IsSomeAnd o (λ a. IsLate machine b.plans a x)) asked none
