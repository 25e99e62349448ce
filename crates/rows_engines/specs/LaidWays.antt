-- Ways that are laid on a board, the last choice first.
use Rattle.std.specs.Prelude.{◌≡◌, ℕ, ◌≤◌, List, [], ◌∷◌, length, Option, Some, IsSomeAnd, IsTrue, IsFalse}
use Rattle.tp_base.specs.Readings.{Reading}
use Rattle.tp_machine.specs.ModuleUse.{action_at}
use Rattle.tp_machine.specs.declared.parts.ActId.{ActId}
use Rattle.tp_machine.specs.declared.parts.HoldRule.{HoldRule}
use Rattle.tp_machine.specs.declared.parts.State.{State}
use Rattle.tp_machine.specs.declared.machine.Machine.{Machine}
use Rattle.tp_schedule.specs.Choices.{acts_of, HavePlaces}
use Rattle.tp_schedule.specs.Holders.{holds_of_act}
use Rattle.tp_schedule.specs.Routes.{AreAllowed, IsGoalState, IsRoom, is_act_allowed, step_by, walk}
use Rattle.tp_schedule.specs.Spots.{slot_order}
use Rattle.tp_schedule.specs.declared.parts.Ask.{Ask}
use Rattle.tp_schedule.specs.declared.parts.Plan.{Plan}
use Rattle.tp_constraints.specs.Suffixes.{Suffix, HaveRooms, order_in, with_action, with_place}
use Rattle.tp_placing.specs.Boards.{BoardValue, suffix_of}
use Rattle.tp_placing.specs.LoadedBoard.{Stands}

-- so many choices lead from the state to a goal state of the ask, with the rooms of their states and a place for each hold
pub record LeadsFrom (machine : Machine) (plans : List Plan) (ask : Ask) (first : State) (count : ℕ) (x : Suffix) : Type 0 where
  pub goal : State
  pub is_goal : IsGoalState machine ask.want ask.goal goal
  pub rooms : HaveRooms machine ask goal first x.choices x.rooms
  pub walks : walk machine ask.want (acts_of x.choices) first ≡ Some goal
  pub allowed : AreAllowed machine ask.outs (acts_of x.choices)
  pub places : HavePlaces machine (slot_order machine plans) x.choices
  pub going : IsFalse x.stopped
  pub many : length x.choices ≡ count

-- the board stands on the machine and the ask, and its choices are such a way
pub record IsLaid {N : Type 0} (reading : Reading N) (b : BoardValue N) (machine : Machine) (ask : Ask) (first : State) (count : ℕ) : Type 0 where
  pub stands : Stands reading b machine
  pub asked : b.ask ≡ Some ask
  pub leads : IsSomeAnd (suffix_of b) (LeadsFrom machine b.plans ask first count)

-- the action is allowed and leads from the one state, with this room, to the other
pub record IsStepTo (machine : Machine) (ask : Ask) (act : ActId) (room : ℕ) (after before : State) : Type 0 where
  pub step : step_by machine ask.want act before ≡ Some after
  pub allowed : IsTrue (is_act_allowed machine ask.outs act)
  pub is_room : IsRoom machine ask before room

-- the suffix has one action more, of one hold, which has this place
pub record IsPut (machine : Machine) (plans : List Plan) (act : ActId) (room place : ℕ) (after : Option Suffix) (x : Suffix) : Type 0 where
  pub rule : HoldRule
  pub holds : holds_of_act (action_at machine act.0) ≡ rule ∷ []
  pub within : place ≤ length (order_in machine plans x rule.resource.0)
  pub suffix : after ≡ Some (with_place place (with_action act room x))
