-- What a way is sought for, in plans and windows.
use Rattle.std.specs.Prelude.{◌≡◌, ℕ, ◌+◌, ◌<◌, ◌≤◌, List, Option, Some, None}
use Rattle.tp_machine.specs.declared.parts.State.{State}
use Rattle.tp_routes.specs.Index.{IsIndexOf}
use Rattle.tp_routes.specs.declared.index.ActEnd.TheVariants.{From}
use Rattle.tp_schedule.specs.PlannerAnswers.{IsKnownGoal}
use Rattle.tp_schedule.specs.declared.parts.Plan.{Plan}
use Rattle.tp_windows.specs.KeptRows.{AreRowsOf}
use Rattle.tp_windows.specs.RestTables.{rest_of}
use Rattle.tp_schedule.specs.Routes.{IsStart}
use Rattle.tp_windows.specs.WaitingLabels.{IsFrontOf, IsReached, Waits}
use Rattle.tp_windows.specs.Ways.{CanBeginFrom, FitsLine, IsRest, IsStep}
use Rattle.tp_windows.specs.Windows.{NoneIn, Windows}
use Rattle.tp_windows.specs.declared.front.Arrival.{Arrival}
use Rattle.tp_windows.specs.declared.front.Front.{Front}
use Rattle.tp_windows.specs.declared.sought.Sought.{Sought}
use Rattle.tp_windows.specs.declared.way.Way.{Way}
use Rattle.tp_windows.specs.declared.way.Way.TheVariants.{Found, Never, GaveUp}
use Rattle.tp_windows.specs.declared.waiting_heap.Waiting.{Waiting}

-- an end lies behind this tick, if there is one
abbrev pub IsBehind : Option ℕ → ℕ → Type 0
IsBehind None end = Unit {0}
IsBehind (Some tick) end = tick < end

-- or ahead of it
abbrev pub IsAhead : Option ℕ → ℕ → Type 0
IsAhead None end = Unit {0}
IsAhead (Some tick) end = end < tick

-- what is sought is sought in these plans and windows: the rests, the index and the rows are theirs, and each end that fits the line
-- lies between the ends beside it
pub record IsSoughtIn (sought : Sought) (plans : List Plan) (w : Windows) : Type 0 where
  pub goal : IsKnownGoal sought.machine.now sought.ask.now.goal
  pub rests : IsRest sought.machine.now sought.ask.now (rest_of sought.rests.now.rests.items)
  pub starts : IsIndexOf From sought.machine.now sought.starts.now.firsts.items sought.starts.now.nexts.items
  pub rows : AreRowsOf sought.machine.now plans w sought.rows.now.rows
  pub line : (end : ℕ) → FitsLine plans sought.ask.now w end → IsBehind sought.after end × IsAhead sought.before end

-- each step of the action from the arrival is reached
abbrev pub AreStepsReached : Sought → Arrival → ℕ → Front → Type 0
AreStepsReached sought a act front = (plans : List Plan) (w : Windows) → IsSoughtIn sought plans w → (next : State) (start end : ℕ) → a.from ≤ start → start ≤ a.till
    → (step : IsStep sought.machine.now plans sought.ask.now w (rest_of sought.rests.now.rests.items) sought.limit a.state start next end) → step.act.0 ≡ act → IsReached front next end

-- the state is reached when the copy may begin in it
abbrev pub AreStartsReached : Sought → State → Front → Type 0
AreStartsReached sought s front = (tick n : ℕ) → IsStart sought.machine.now sought.ask.now s → CanBeginFrom sought.machine.now sought.ask.now.now sought.ask.now.origin tick
    → rest_of sought.rests.now.rests.items s ≡ Some n → tick + n ≤ sought.limit → Waits front.arrivals.items front.waiting.items s tick

-- with these that wait, they are the front of the way that is sought
abbrev pub IsFrontFor : Sought → List Waiting → Front → Type 0
IsFrontFor sought waiting front = (plans : List Plan) (w : Windows) → IsSoughtIn sought plans w → IsFrontOf sought.machine.now plans sought.ask.now w sought.rests.now.rests.items sought.limit waiting front

-- no complete list ends by the bound
abbrev pub NoneBy : Sought → ℕ → Type 0
NoneBy sought bound = (plans : List Plan) (w : Windows) → IsSoughtIn sought plans w → NoneIn sought.machine.now plans sought.ask.now w bound

-- what was found: no complete list ends before the end of the way, or by the limit where there is none
abbrev pub IsWay : Sought → Way → Type 0
IsWay sought (Found label end) = (bound : ℕ) → bound < end → bound ≤ sought.limit → NoneBy sought bound
IsWay sought Never = NoneBy sought sought.limit
IsWay sought GaveUp = Unit {0}
