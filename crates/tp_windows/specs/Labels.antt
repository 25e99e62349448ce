-- Labels: states with intervals of ticks, and why labels that are closed bound the end of a copy.
use Rattle.std.specs.Prelude.{◌≡◌, ℕ, ◌+◌, ◌<◌, ◌≤◌, ◌⊎◌, List, [], ◌∷◌, ◌++◌, length, Contains, Option, Some}
use Rattle.tp_machine.specs.declared.machine.Machine.{Machine}
use Rattle.tp_machine.specs.declared.parts.State.{State}
use Rattle.tp_schedule.specs.Choices.{Choice, ChoiceList, IsComplete, OpensTo, acts_of}
use Rattle.tp_schedule.specs.Routes.{IsGoalState, walk}
use Rattle.tp_schedule.specs.Spots.Spot.{own}
use Rattle.tp_schedule.specs.declared.parts.Ask.{Ask}
use Rattle.tp_schedule.specs.declared.parts.Plan.{Plan}
use Rattle.tp_windows.specs.Windows.{HoldsWithin, NoneIn, Windows}
use Rattle.tp_windows.specs.Ways.{GoalsAreLast, IsBegin, IsClosed, IsRest, IsStep}

-- a label: the copy can be in the state from one tick to another
pub record Label : Type 0 where
  pub state : State
  pub from : ℕ
  pub till : ℕ

-- a label of these covers the state at the tick
pub record IsCovered (labels : List Label) (s : State) (tick : ℕ) : Type 0 where
  pub label : Label
  pub in_labels : Contains labels label
  pub state : label.state ≡ s
  pub from : label.from ≤ tick
  pub till : tick ≤ label.till

-- the labels taken and those that wait: each start in time is covered, each step from a taken label is covered, and no taken
-- label is one of a goal state
pub record IsFront (machine : Machine) (plans : List Plan) (ask : Ask) (w : Windows) (rest : State → Option ℕ) (limit : ℕ) (taken waiting : List Label) : Type 0 where
  pub starts : (s : State) (tick : ℕ) → IsBegin machine plans ask w rest limit s tick → IsCovered taken s tick ⊎ IsCovered waiting s tick
  pub steps : (s next : State) (start end : ℕ) → IsCovered taken s start → IsStep machine plans ask w rest limit s start next end → IsCovered taken next end ⊎ IsCovered waiting next end
  pub no_goal : (l : Label) → Contains taken l → IsGoalState machine ask.want ask.goal l.state → ⊥

-- each label that waits needs more than the bound
abbrev pub AreBeyond : (State → Option ℕ) → ℕ → List Label → Type 0
AreBeyond rest bound waiting = (l : Label) → Contains waiting l → (n : ℕ) → rest l.state ≡ Some n → bound < l.from + n

-- where a complete list has ticks in the windows and ends by the limit, closed labels cover each state of its route at its tick
abbrev pub CoverLaw : Type 0
CoverLaw = (machine : Machine) (plans : List Plan) (ask : Ask) (w : Windows) (rest : State → Option ℕ) (limit : ℕ) (labels : List Label) (list : ChoiceList) (end : ℕ) (before behind : List Choice)
    → GoalsAreLast machine ask → IsRest machine ask rest → IsClosed machine plans ask w rest limit (IsCovered labels)
    → IsComplete machine ask list → (o : OpensTo machine plans ask list end) → HoldsWithin w plans o.ticks → end ≤ limit → list.choices ≡ before ++ behind
    → (s : State) × (walk machine ask.want (acts_of behind) s ≡ Some list.goal) × IsCovered labels s (o.ticks (own (length behind)))

-- so where closed labels have no goal state by the limit, no complete list in the windows ends by it
abbrev pub BoundLaw : Type 0
BoundLaw = (machine : Machine) (plans : List Plan) (ask : Ask) (w : Windows) (rest : State → Option ℕ) (limit : ℕ) (labels : List Label)
    → GoalsAreLast machine ask → IsRest machine ask rest → IsClosed machine plans ask w rest limit (IsCovered labels)
    → ((goal : State) (tick : ℕ) → IsGoalState machine ask.want ask.goal goal → IsCovered labels goal tick → limit < tick) → NoneIn machine plans ask w limit

-- the search of a way begins with labels that cover the starts
abbrev pub FrontBegins : Type 0
FrontBegins = (machine : Machine) (plans : List Plan) (ask : Ask) (w : Windows) (rest : State → Option ℕ) (limit : ℕ) (waiting : List Label)
    → ((s : State) (tick : ℕ) → IsBegin machine plans ask w rest limit s tick → IsCovered waiting s tick) → IsFront machine plans ask w rest limit [] waiting

-- labels that wait may be cut, dropped or put together, where what they covered stays covered
abbrev pub FrontDrops : Type 0
FrontDrops = (machine : Machine) (plans : List Plan) (ask : Ask) (w : Windows) (rest : State → Option ℕ) (limit : ℕ) (taken waiting waiting' : List Label)
    → IsFront machine plans ask w rest limit taken waiting → ((s : State) (tick : ℕ) → IsCovered waiting s tick → IsCovered taken s tick ⊎ IsCovered waiting' s tick)
    → IsFront machine plans ask w rest limit taken waiting'

-- a label of no goal state is taken: each step from it is covered
abbrev pub FrontTakes : Type 0
FrontTakes = (machine : Machine) (plans : List Plan) (ask : Ask) (w : Windows) (rest : State → Option ℕ) (limit : ℕ) (l : Label) (taken waiting waiting' : List Label)
    → IsFront machine plans ask w rest limit taken waiting → (IsGoalState machine ask.want ask.goal l.state → ⊥)
    → ((s : State) (tick : ℕ) → IsCovered waiting s tick → IsCovered (l ∷ taken) s tick ⊎ IsCovered waiting' s tick)
    → ((next : State) (start end : ℕ) → l.from ≤ start → start ≤ l.till → IsStep machine plans ask w rest limit l.state start next end → IsCovered (l ∷ taken) next end ⊎ IsCovered waiting' next end)
    → IsFront machine plans ask w rest limit (l ∷ taken) waiting'

-- where each label that waits needs more than a bound, no complete list in the windows ends by it
abbrev pub FrontBounds : Type 0
FrontBounds = (machine : Machine) (plans : List Plan) (ask : Ask) (w : Windows) (rest : State → Option ℕ) (limit bound : ℕ) (taken waiting : List Label)
    → GoalsAreLast machine ask → IsRest machine ask rest → IsFront machine plans ask w rest limit taken waiting → bound ≤ limit → AreBeyond rest bound waiting → NoneIn machine plans ask w bound
