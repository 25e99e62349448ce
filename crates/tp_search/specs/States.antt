-- States: the states that a search comes to, each with its room.
use Rattle.std.specs.Prelude.{◌≡◌, Some, IsTrue}
use Rattle.tp_machine.specs.declared.parts.ActId.{ActId}
use Rattle.tp_machine.specs.declared.parts.State.{State}
use Rattle.tp_machine.specs.declared.machine.Machine.{Machine}
use Rattle.tp_schedule.specs.Routes.{HasNoRoom, IsGoalState, IsRoom, is_act_allowed, step_by}
use Rattle.tp_schedule.specs.declared.parts.Ask.{Ask}
use Rattle.tp_search.specs.declared.states.Before.{Before}

-- from this state, which has this room, the allowed action leads to the other
pub record IsBefore (machine : Machine) (ask : Ask) (act : ActId) (after : State) (r : Before) : Type 0 where
  pub step : step_by machine ask.want act r.state ≡ Some after
  pub allowed : IsTrue (is_act_allowed machine ask.outs act)
  pub is_room : IsRoom machine ask r.state r.room

-- no state from which the allowed action leads to this one has room
abbrev pub HasNoneBefore : Machine → Ask → ActId → State → Type 0
HasNoneBefore machine ask act after =
    (before : State) → step_by machine ask.want act before ≡ Some after → IsTrue (is_act_allowed machine ask.outs act) → HasNoRoom machine ask before

-- the state is a goal state of the ask, and has this room
pub record IsGoalAt (machine : Machine) (ask : Ask) (state : State) (r : Before) : Type 0 where
  pub same : r.state ≡ state
  pub is_goal : IsGoalState machine ask.want ask.goal r.state
  pub is_room : IsRoom machine ask r.state r.room

-- the state is no goal state of the ask that has room
abbrev pub HasNoGoalAt : Machine → Ask → State → Type 0
HasNoGoalAt machine ask state = IsGoalState machine ask.want ask.goal state → HasNoRoom machine ask state
