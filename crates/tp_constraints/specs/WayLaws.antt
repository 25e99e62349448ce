-- What a search needs of ways: when they are choice lists that open, what each step makes of one, and which children open.
use Rattle.std.specs.Prelude.{◌≡◌, ◌≢◌, ℕ, ◌+◌, ◌<◌, ◌≤◌, List, [], ◌∷◌, ◌++◌, length, slice_get, Some, IsTrue, IsFalse}
use Rattle.tp_machine.specs.ModuleUse.{action_at}
use Rattle.tp_machine.specs.declared.parts.ActId.{ActId}
use Rattle.tp_machine.specs.declared.parts.HoldRule.{HoldRule}
use Rattle.tp_machine.specs.declared.parts.State.{State}
use Rattle.tp_machine.specs.declared.machine.Machine.{Machine}
use Rattle.tp_schedule.specs.Answers.{kept_of}
use Rattle.tp_schedule.specs.Choices.{Choice, IsChoiceList, IsOpen, IsComplete, acts_of, going, stopping}
use Rattle.tp_schedule.specs.Holders.{holds_of_act}
use Rattle.tp_schedule.specs.Limits.{most_acts}
use Rattle.tp_schedule.specs.Routes.{IsGoalState, IsRoom, HasNoRoom, IsStart, is_act_allowed, step_by, walk}
use Rattle.tp_schedule.specs.Spots.{Ticks}
use Rattle.tp_schedule.specs.declared.parts.Ask.{Ask}
use Rattle.tp_schedule.specs.declared.parts.Origin.TheVariants.{Feeder as FromFeeder, Front as FromFront}
use Rattle.tp_schedule.specs.declared.parts.Plan.{Plan}
use Rattle.tp_constraints.specs.Suffixes.{Suffix, SuffixTimes, list_of, order_in, with_goal, with_action, with_place, with_stop}
use Rattle.tp_constraints.specs.Ways.{IsWay, IsPlaced}

-- no ticks are times of the suffix
abbrev pub IsLate : Machine → List Plan → Ask → Suffix → Type 0
IsLate machine plans ask x = (t : Ticks) → ¬ SuffixTimes machine plans ask x t

-- a placed way is a choice list
abbrev pub WayList : Type 0
WayList = (machine : Machine) (plans : List Plan) (ask : Ask) (goal first : State) (x : Suffix) → IsWay machine plans ask goal first x → IsPlaced machine x.choices → IsChoiceList machine plans ask (list_of goal x)

-- its actions lead to the goal, and they do from no other state
abbrev pub WayWalk : Type 0
WayWalk = (machine : Machine) (plans : List Plan) (ask : Ask) (goal first : State) (x : Suffix) → IsWay machine plans ask goal first x → walk machine ask.want (acts_of x.choices) first ≡ Some goal

abbrev pub FirstOnly : Type 0
FirstOnly = (machine : Machine) (plans : List Plan) (ask : Ask) (goal first : State) (x : Suffix) (other : State) → IsWay machine plans ask goal first x → walk machine ask.want (acts_of x.choices) other ≡ Some goal → other ≡ first

-- the list is open exactly where the way has times
abbrev pub WayOpens : Type 0
WayOpens = (machine : Machine) (plans : List Plan) (ask : Ask) (goal first : State) (x : Suffix) (t : Ticks) → IsWay machine plans ask goal first x → IsPlaced machine x.choices
    → SuffixTimes machine plans ask x t → IsOpen machine plans ask (list_of goal x)

abbrev pub OpenTimes : Type 0
OpenTimes = (machine : Machine) (plans : List Plan) (ask : Ask) (goal first : State) (x : Suffix) → IsWay machine plans ask goal first x → IsOpen machine plans ask (list_of goal x)
    → (t : Ticks) × SuffixTimes machine plans ask x t

-- an opened goal with its room is a way
abbrev pub GoalWay : Type 0
GoalWay = (machine : Machine) (plans : List Plan) (ask : Ask) (goal : State) (room : ℕ) → IsGoalState machine ask.want ask.goal goal → IsRoom machine ask goal room → kept_of ask ≤ most_acts
    → IsWay machine plans ask goal goal (with_goal room)

-- and so is a placed way with an allowed action more that leads to its first state
abbrev pub ActionWay : Type 0
ActionWay = (machine : Machine) (plans : List Plan) (ask : Ask) (goal s before : State) (x : Suffix) (act : ActId) (room : ℕ) → IsWay machine plans ask goal s x → IsPlaced machine x.choices → IsFalse x.stopped
    → step_by machine ask.want act before ≡ Some s → IsTrue (is_act_allowed machine ask.outs act) → IsRoom machine ask before room → kept_of ask + length x.choices < most_acts
    → IsWay machine plans ask goal before (with_action act room x)

-- one with a place more
abbrev pub PlaceWay : Type 0
PlaceWay = (machine : Machine) (plans : List Plan) (ask : Ask) (goal s : State) (x : Suffix) (c : Choice) (choices : List Choice) (rule : HoldRule) (place : ℕ) → IsWay machine plans ask goal s x → IsFalse x.stopped
    → x.choices ≡ c ∷ choices → slice_get (holds_of_act (action_at machine c.act.0)) (length c.places) ≡ Some rule → place ≤ length (order_in machine plans x rule.resource.0)
    → IsWay machine plans ask goal s (with_place place x)

-- and one from the front's state that is stopped
abbrev pub StopWay : Type 0
StopWay = (machine : Machine) (plans : List Plan) (ask : Ask) (goal state : State) (end count : ℕ) (x : Suffix) → IsWay machine plans ask goal state x
    → ask.origin ≡ FromFront state end count → x.choices ≢ [] → IsWay machine plans ask goal state (with_stop x)

-- a goal without times or room does not open
abbrev pub GoalLate : Type 0
GoalLate = (machine : Machine) (plans : List Plan) (ask : Ask) (goal : State) (room : ℕ) → IsLate machine plans ask (with_goal room) → IsRoom machine ask goal room → ¬ IsOpen machine plans ask (going goal [])

abbrev pub GoalClosed : Type 0
GoalClosed = (machine : Machine) (plans : List Plan) (ask : Ask) (goal : State) → HasNoRoom machine ask goal → ¬ IsOpen machine plans ask (going goal [])

-- where the first places of the newest choice have no times, no further places make a list that opens
abbrev pub ChildLate : Type 0
ChildLate = (machine : Machine) (plans : List Plan) (ask : Ask) (goal s : State) (x : Suffix) (c : Choice) (choices : List Choice) (rest : List ℕ) → IsWay machine plans ask goal s x → IsFalse x.stopped
    → x.choices ≡ c ∷ choices → IsLate machine plans ask x → ¬ IsOpen machine plans ask (going goal (record { act = c.act; places = c.places ++ rest } ∷ choices))

abbrev pub StopLate : Type 0
StopLate = (machine : Machine) (plans : List Plan) (ask : Ask) (goal state : State) (x : Suffix) → IsWay machine plans ask goal state x → IsLate machine plans ask (with_stop x) → ¬ IsOpen machine plans ask (stopping goal x.choices)

-- a child opens only by an action that leads from a state with room, and only where the actions stay at most 64
abbrev pub ChildClosed : Type 0
ChildClosed = (machine : Machine) (plans : List Plan) (ask : Ask) (goal s : State) (x : Suffix) (act : ActId) (places : List ℕ) → IsWay machine plans ask goal s x
    → ((before : State) → step_by machine ask.want act before ≡ Some s → IsTrue (is_act_allowed machine ask.outs act) → HasNoRoom machine ask before)
    → ¬ IsOpen machine plans ask (going goal (record { act = act; places = places } ∷ x.choices))

abbrev pub ChildFull : Type 0
ChildFull = (machine : Machine) (plans : List Plan) (ask : Ask) (goal : State) (x : Suffix) (c : Choice) → kept_of ask + length x.choices ≡ most_acts → ¬ IsOpen machine plans ask (going goal (c ∷ x.choices))

-- an open list has a place for each hold of its newest choice
abbrev pub ChildPlaces : Type 0
ChildPlaces = (machine : Machine) (plans : List Plan) (ask : Ask) (goal : State) (c : Choice) (choices : List Choice) → IsOpen machine plans ask (going goal (c ∷ choices))
    → length c.places ≡ length (holds_of_act (action_at machine c.act.0))

-- each within the order with the places before it
abbrev pub PlaceBeyond : Type 0
PlaceBeyond = (machine : Machine) (plans : List Plan) (ask : Ask) (goal : State) (x : Suffix) (c : Choice) (choices : List Choice) (first : List ℕ) (place : ℕ) (rest : List ℕ) (rule : HoldRule)
    → IsOpen machine plans ask (going goal (c ∷ choices)) → x.choices ≡ record { act = c.act; places = first } ∷ choices → c.places ≡ first ++ place ∷ rest
    → slice_get (holds_of_act (action_at machine c.act.0)) (length first) ≡ Some rule → place ≤ length (order_in machine plans x rule.resource.0)

-- its first state is a start state; for a new copy this makes it complete, and for one in flight the stop alone does
abbrev pub CompleteStart : Type 0
CompleteStart = (machine : Machine) (plans : List Plan) (ask : Ask) (goal first : State) (x : Suffix) → IsWay machine plans ask goal first x → IsComplete machine ask (list_of goal x) → IsStart machine ask first

abbrev pub StartComplete : Type 0
StartComplete = (machine : Machine) (plans : List Plan) (ask : Ask) (goal first : State) (x : Suffix) → ask.origin ≡ FromFeeder → IsWay machine plans ask goal first x → IsStart machine ask first → IsComplete machine ask (list_of goal x)

abbrev pub GoingIncomplete : Type 0
GoingIncomplete = (machine : Machine) (ask : Ask) (goal state : State) (end count : ℕ) (x : Suffix) → ask.origin ≡ FromFront state end count → IsFalse x.stopped → ¬ IsComplete machine ask (list_of goal x)
