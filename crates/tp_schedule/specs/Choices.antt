-- Choice lists: a goal state with choices for a suffix of a route, each choice an action with places for its holds.
use Rattle.std.specs.Prelude.{◌≡◌, ◌≢◌, ℕ, suc, ◌+◌, ◌<◌, ◌≤◌, Bool, true, false, ◌==◌, List, [], ◌∷◌, length, map, insert, Some, Contains, IsTrue, AllPairs, if◌then◌else◌}
use Rattle.tp_machine.specs.Modes.{gap_at}
use Rattle.tp_machine.specs.ModuleUse.{action_at}
use Rattle.tp_machine.specs.declared.parts.ActId.{ActId}
use Rattle.tp_machine.specs.declared.parts.HoldRule.{HoldRule}
use Rattle.tp_machine.specs.declared.parts.State.{State}
use Rattle.tp_machine.specs.declared.machine.Machine.{Machine}
use Rattle.tp_schedule.specs.Routes.{walk, IsStart, IsGoalState, AreAllowed, Reaches, least_sum}
use Rattle.tp_schedule.specs.Plans.{LastsWithin, is_delivered_to, goes_to, is_before}
use Rattle.tp_schedule.specs.Holders.{holds_of_act}
use Rattle.tp_schedule.specs.Answers.{kept_of}
use Rattle.tp_schedule.specs.Limits.{most_acts}
use Rattle.tp_schedule.specs.Spots.{Spot, Ticks, Slot, IsApart, slot_order}
use Rattle.tp_schedule.specs.Spots.Spot.{own}
use Rattle.tp_schedule.specs.Times.{KeepsTimes, at}
use Rattle.tp_schedule.specs.declared.parts.Ask.{Ask}
use Rattle.tp_schedule.specs.declared.parts.Origin.{Origin}
use Rattle.tp_schedule.specs.declared.parts.Origin.TheVariants.{Feeder as FromFeeder, Front as FromFront}
use Rattle.tp_schedule.specs.declared.parts.Plan.{Plan}

-- an action with a place for each of its holds, in the order of the holds: a position, from 0 on, in the order of
-- the holds on its resource that are kept or were placed before
pub record Choice : Type 0 where
  pub act : ActId
  pub places : List ℕ

-- a goal state with choices for a suffix of a route. They stand in the order of the route, so that the one that was
-- added last stands first. The list is stopped where its first point is to be the front's end
pub record ChoiceList : Type 0 where
  pub goal : State
  pub choices : List Choice
  pub stopped : Bool

abbrev pub acts_of : List Choice → List ActId
acts_of choices = map (λ c. c.act) choices

-- the order of a resource with those of an action's holds that are on it, each in its place
abbrev pub put_places : ℕ → Spot → Spot → List HoldRule → List ℕ → List Slot → List Slot
put_places resource from to [] places order = order
put_places resource from to (rule ∷ rules) [] order = order
put_places resource from to (rule ∷ rules) (place ∷ places) order =
    put_places resource from to rules places (if rule.resource.0 == resource then insert order place (record { rule = rule; from = from; to = to }) else order)

-- the order of a resource with the holds of the choices, each in its place
abbrev pub placed : Machine → ℕ → List Slot → List Choice → List Slot
placed machine resource order [] = order
placed machine resource order (c ∷ choices) =
    put_places resource (own (suc (length choices))) (own (length choices)) (holds_of_act (action_at machine c.act.0)) c.places (placed machine resource order choices)

-- there is one place for each hold, within the order of its resource
abbrev pub AreWithin : (ℕ → List Slot) → List HoldRule → List ℕ → Type 0
AreWithin orders [] [] = Unit {0}
AreWithin orders [] (place ∷ places) = ⊥
AreWithin orders (rule ∷ rules) [] = ⊥
AreWithin orders (rule ∷ rules) (place ∷ places) = (place ≤ length (orders rule.resource.0)) × AreWithin orders rules places

-- each choice has places within the orders as they were before it
abbrev pub HavePlaces : Machine → (ℕ → List Slot) → List Choice → Type 0
HavePlaces machine orders [] = Unit {0}
HavePlaces machine orders (c ∷ choices) =
    AreWithin (λ r. placed machine r (orders r) choices) (holds_of_act (action_at machine c.act.0)) c.places × HavePlaces machine orders choices

-- the state from which the choices' actions lead to the goal state
abbrev pub IsFirstState : Machine → Ask → ChoiceList → State → Type 0
IsFirstState machine ask list s = walk machine ask.want (acts_of list.choices) s ≡ Some list.goal

-- an ask in flight may stop a list that has at least one choice and reaches the front's state
abbrev pub CanStop : Machine → Ask → ChoiceList → Origin → Type 0
CanStop machine ask list FromFeeder = ⊥
CanStop machine ask list (FromFront state end count) = (list.choices ≢ []) × IsFirstState machine ask list state

-- a choice list of an ask: a goal state of it, allowed actions, with the kept ones at most 64, and a place for each hold
pub record IsChoiceList (machine : Machine) (plans : List Plan) (ask : Ask) (list : ChoiceList) : Type 0 where
  pub goal : IsGoalState machine ask.want ask.goal list.goal
  pub allowed : AreAllowed machine ask.outs (acts_of list.choices)
  pub at_most : kept_of ask + length list.choices ≤ most_acts
  pub places : HavePlaces machine (slot_order machine plans) list.choices
  pub can_stop : IsTrue list.stopped → CanStop machine ask list ask.origin

-- the start floor: the first tick at which the asked copy's new actions may start
abbrev pub start_floor : Machine → ℕ → Origin → ℕ
start_floor machine now FromFeeder = now + machine.lead + 1
start_floor machine now (FromFront state end count) = end

-- at these ticks the asked copy, ending at this tick, ends after the whole plans of earlier copies to its tray and
-- before those of later ones
abbrev pub KeepsLine : Ask → List Plan → Ticks → ℕ → Type 0
KeepsLine ask plans t end = (p : Plan) → Contains plans p → (tray : ℕ) → IsTrue (goes_to ask.goal tray) → IsTrue (is_delivered_to p tray) →
    (IsTrue (is_before p.sheet ask.sheet) → at t p (length p.acts) < end) × (IsTrue (is_before ask.sheet p.sheet) → end < at t p (length p.acts))

-- each choice's action runs from its start to the start of the next within its durations
abbrev pub ChoicesLast : Machine → Ticks → List Choice → Type 0
ChoicesLast machine t [] = Unit {0}
ChoicesLast machine t (c ∷ choices) = LastsWithin machine c.act (t (own (suc (length choices)))) (t (own (length choices))) × ChoicesLast machine t choices

-- the kept plans and the choices may have these ticks, with so much room before the choices
pub record HasTimes (machine : Machine) (plans : List Plan) (ask : Ask) (list : ChoiceList) (room : ℕ) (t : Ticks) : Type 0 where
  pub keeps : KeepsTimes machine ask.now (λ _. false) plans t
  pub lasts : ChoicesLast machine t list.choices
  pub first : start_floor machine ask.now ask.origin + room ≤ t (own (length list.choices))
  pub last : t (own 0) ≤ ask.now + machine.window
  pub line : KeepsLine ask plans t (t (own 0))
  pub apart : (resource : ℕ) → AllPairs (IsApart (gap_at machine resource) t) (placed machine resource (slot_order machine plans resource) list.choices)
  pub stopped : IsTrue list.stopped → t (own (length list.choices)) ≡ start_floor machine ask.now ask.origin

-- the list opens to this end: some allowed actions lead from a start state of the ask to the list's first state, and
-- there are ticks that leave these actions their least durations before the first point, and end the choices at this
-- tick. So room of the first state exists, and the ticks leave it
pub record OpensTo (machine : Machine) (plans : List Plan) (ask : Ask) (list : ChoiceList) (end : ℕ) : Type 0 where
  pub is_list : IsChoiceList machine plans ask list
  pub state : State
  pub first_state : IsFirstState machine ask list state
  pub before : List ActId
  pub allowed : AreAllowed machine ask.outs before
  pub reaches : Reaches machine ask before state
  pub ticks : Ticks
  pub times : HasTimes machine plans ask list (least_sum machine before) ticks
  pub ends : ticks (own 0) ≡ end

-- an open list: it opens to some end
abbrev pub IsOpen : Machine → List Plan → Ask → ChoiceList → Type 0
IsOpen machine plans ask list = (end : ℕ) × OpensTo machine plans ask list end

-- the bound of an open list: the least end to which it opens
pub record IsBound (machine : Machine) (plans : List Plan) (ask : Ask) (list : ChoiceList) (bound : ℕ) : Type 0 where
  pub opens : OpensTo machine plans ask list bound
  pub least : (end : ℕ) → OpensTo machine plans ask list end → bound ≤ end

-- a complete list: for a new copy its first state is a start state, for a copy in flight it is stopped
abbrev pub IsCompleteFrom : Machine → Ask → ChoiceList → Origin → Type 0
IsCompleteFrom machine ask list FromFeeder = (s : State) × IsFirstState machine ask list s × IsStart machine ask s
IsCompleteFrom machine ask list (FromFront state end count) = IsTrue list.stopped

abbrev pub IsComplete : Machine → Ask → ChoiceList → Type 0
IsComplete machine ask list = IsCompleteFrom machine ask list ask.origin

-- the list of a goal state and choices that is not stopped, and the one that is
abbrev pub going : State → List Choice → ChoiceList
going goal choices = record { goal = goal; choices = choices; stopped = false }

abbrev pub stopping : State → List Choice → ChoiceList
stopping goal choices = record { goal = goal; choices = choices; stopped = true }

-- a child of a list has one choice more, or is its stopped list
pub data IsChild (machine : Machine) (ask : Ask) : ChoiceList → ChoiceList → Type 0 where
  one_more : {goal : State} {choices : List Choice} (c : Choice) → IsChild machine ask (going goal choices) (going goal (c ∷ choices))
  stopped : {goal : State} {choices : List Choice} → CanStop machine ask (going goal choices) ask.origin → IsChild machine ask (going goal choices) (stopping goal choices)
