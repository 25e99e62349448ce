-- The route of a plan that answers an ask, as it is looked at.
use Rattle.std.specs.Prelude.{◌≡◌, List, IsSomeAnd}
use Rattle.tp_machine.specs.declared.machine.Machine.{Machine}
use Rattle.tp_machine.specs.declared.parts.ActId.{ActId}
use Rattle.tp_machine.specs.declared.parts.State.{State}
use Rattle.tp_schedule.specs.Answers.{kept_of}
use Rattle.tp_schedule.specs.Routes.{AreAllowed, IsGoalState, IsRoute, IsStart, walk}
use Rattle.tp_schedule.specs.declared.parts.Ask.{Ask}
use Rattle.tp_schedule.specs.declared.parts.Kind.TheVariants.{Whole}
use Rattle.tp_schedule.specs.declared.parts.Plan.{Plan}

-- the actions lead from the state to a goal state
abbrev pub Arrives : Machine → Ask → List ActId → State → Type 0
Arrives machine ask acts start = IsSomeAnd (walk machine ask.want acts start) (IsGoalState machine ask.want ask.goal)

-- and that is a start state
pub record LeadsFrom (machine : Machine) (ask : Ask) (acts : List ActId) (start : State) : Type 0 where
  pub starts : IsStart machine ask start
  pub arrives : Arrives machine ask acts start

abbrev pub DoesLead : Machine → Ask → List ActId → Type 0
DoesLead machine ask acts = (start : State) × LeadsFrom machine ask acts start

-- the plan is the asked copy's but for its way: whole, with the ask's name, want and goal, and with its kept actions released
pub record IsOf (ask : Ask) (p : Plan) : Type 0 where
  pub sheet : p.sheet ≡ ask.sheet
  pub name : p.name ≡ ask.name
  pub want : p.want ≡ ask.want
  pub goal : p.goal ≡ ask.goal
  pub whole : p.kind ≡ Whole
  pub released : p.released ≡ kept_of ask

-- it is, and goes on by this route of allowed actions
pub record AnswersBy (machine : Machine) (ask : Ask) (p : Plan) (route : List ActId) : Type 0 where
  pub of : IsOf ask p
  pub leads : IsRoute machine ask route
  pub allowed : AreAllowed machine ask.outs route
