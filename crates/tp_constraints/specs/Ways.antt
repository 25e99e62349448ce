-- Ways: the choice lists that a search lays on a board, with the rooms of their states. The newest choice may have the first
-- of its places alone.
use Rattle.std.specs.Prelude.{◌≡◌, ◌+◌, ◌≤◌, List, [], ◌∷◌, length, IsTrue}
use Rattle.tp_machine.specs.ModuleUse.{action_at}
use Rattle.tp_machine.specs.declared.parts.State.{State}
use Rattle.tp_machine.specs.declared.machine.Machine.{Machine}
use Rattle.tp_schedule.specs.Answers.{kept_of}
use Rattle.tp_schedule.specs.Choices.{Choice, CanStop, acts_of}
use Rattle.tp_schedule.specs.Holders.{holds_of_act}
use Rattle.tp_schedule.specs.Limits.{most_acts}
use Rattle.tp_schedule.specs.Routes.{AreAllowed, IsGoalState}
use Rattle.tp_schedule.specs.Spots.{slot_order}
use Rattle.tp_schedule.specs.declared.parts.Ask.{Ask}
use Rattle.tp_schedule.specs.declared.parts.Plan.{Plan}
use Rattle.tp_constraints.specs.Suffixes.{Suffix, HavePlacesSoFar, HaveRooms, list_of}

-- from the first state allowed actions lead to a goal state of the ask, each with the room of its state, and with places
-- within the orders; with the kept actions they are at most 64; and it is stopped only where it may be
pub record IsWay (machine : Machine) (plans : List Plan) (ask : Ask) (goal first : State) (x : Suffix) : Type 0 where
  pub is_goal : IsGoalState machine ask.want ask.goal goal
  pub rooms : HaveRooms machine ask goal first x.choices x.rooms
  pub allowed : AreAllowed machine ask.outs (acts_of x.choices)
  pub at_most : kept_of ask + length x.choices ≤ most_acts
  pub places : HavePlacesSoFar machine (slot_order machine plans) x.choices
  pub can_stop : IsTrue x.stopped → CanStop machine ask (list_of goal x) ask.origin

-- each hold of the newest choice has its place
abbrev pub IsPlaced : Machine → List Choice → Type 0
IsPlaced machine [] = Unit {0}
IsPlaced machine (c ∷ choices) = length c.places ≡ length (holds_of_act (action_at machine c.act.0))
