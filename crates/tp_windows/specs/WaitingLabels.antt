-- Arrivals that wait, and ticks that are taken: how they are labels, and which states and ticks they reach.
use Rattle.std.specs.Prelude.{◌≡◌, ℕ, ◌+◌, ◌≤◌, ◌⊎◌, List, [], ◌∷◌, All, Contains, Option, Some, None, slice_get, slice_index_or}
use Rattle.tp_machine.specs.declared.machine.Machine.{Machine}
use Rattle.tp_machine.specs.declared.parts.State.{State}
use Rattle.tp_routes.specs.Numbers.{number_of}
use Rattle.tp_schedule.specs.declared.parts.Ask.{Ask}
use Rattle.tp_schedule.specs.declared.parts.Plan.{Plan}
use Rattle.tp_windows.specs.Labels.{IsCovered, IsFront, Label}
use Rattle.tp_windows.specs.RestTables.{rest_of}
use Rattle.tp_windows.specs.Windows.{Windows}
use Rattle.tp_windows.specs.declared.front.Arrival.{Arrival}
use Rattle.tp_windows.specs.declared.front.Front.{Front}
use Rattle.tp_windows.specs.declared.front.Stay.{Stay}
use Rattle.tp_windows.specs.declared.waiting_heap.Waiting.{Waiting}

-- the label of an arrival
abbrev pub label_of : Arrival → Label
label_of a = record { state = a.state; from = a.from; till = a.till }

-- those of the arrivals that wait
abbrev pub with_label : Option Arrival → List Label → List Label
with_label None labels = labels
with_label (Some a) labels = label_of a ∷ labels

abbrev pub labels_of : List Arrival → List Waiting → List Label
labels_of arrivals [] = []
labels_of arrivals (one ∷ waiting) = with_label (slice_get arrivals one.number) (labels_of arrivals waiting)

-- the tick lies in a stay
abbrev pub IsDuring : Stay → ℕ → Type 0
IsDuring stay tick = (stay.from ≤ tick) × (tick ≤ stay.till)

-- an arrival that waits is in the state at the tick
pub record Waits (arrivals : List Arrival) (waiting : List Waiting) (s : State) (tick : ℕ) : Type 0 where
  pub one : Waiting
  pub in_waiting : Contains waiting one
  pub arrival : Arrival
  pub there : slice_get arrivals one.number ≡ Some arrival
  pub state : arrival.state ≡ s
  pub from : arrival.from ≤ tick
  pub till : tick ≤ arrival.till

-- a stay that holds all ticks from one to another
abbrev pub HoldsAll : Option Stay → ℕ → ℕ → Type 0
HoldsAll None from till = ⊥
HoldsAll (Some stay) from till = (stay.from ≤ from) × (till ≤ stay.till)

-- the state is taken at the tick
pub record IsTaken (taken : List (Option Stay)) (s : State) (tick : ℕ) : Type 0 where
  pub stay : Stay
  pub there : slice_index_or taken (number_of s) None ≡ Some stay
  pub during : IsDuring stay tick

-- either of both
abbrev pub IsReached : Front → State → ℕ → Type 0
IsReached front s tick = Waits front.arrivals.items front.waiting.items s tick ⊎ IsTaken front.taken.items s tick

-- one that waits is of an arrival with this rest, and ends no sooner than its key
pub record IsKeyed (rests : List (Option ℕ)) (arrivals : List Arrival) (one : Waiting) : Type 0 where
  pub arrival : Arrival
  pub there : slice_get arrivals one.number ≡ Some arrival
  pub rest : rest_of rests arrival.state ≡ Some one.rest
  pub key : one.key ≤ arrival.from + one.rest

abbrev pub AreKeyed : List (Option ℕ) → Front → Type 0
AreKeyed rests front = All (IsKeyed rests front.arrivals.items) front.waiting.items

-- those that wait are still keyed if they were
abbrev pub KeepsKeys : List (Option ℕ) → Front → Front → Type 0
KeepsKeys rests front front' = AreKeyed rests front → AreKeyed rests front'

-- arrivals were noted: those from before are still there, and wait if they did
pub record Grows (front front' : Front) : Type 0 where
  pub arrivals : (n : ℕ) (a : Arrival) → slice_get front.arrivals.items n ≡ Some a → slice_get front'.arrivals.items n ≡ Some a
  pub waits : (one : Waiting) → Contains front.waiting.items one → Contains front'.waiting.items one
  pub taken : front'.taken.items ≡ front.taken.items

-- the arrival was taken: a state is taken as before, or by the arrival
pub record Takes (a : Arrival) (front front' : Front) : Type 0 where
  pub arrivals : front'.arrivals.items ≡ front.arrivals.items
  pub waiting : front'.waiting.items ≡ front.waiting.items
  pub taken : (s : State) (tick : ℕ) → IsTaken front'.taken.items s tick → IsTaken front.taken.items s tick ⊎ (s ≡ a.state) × (a.from ≤ tick) × (tick ≤ a.till)

-- with these that wait, they are the front of the search for a way
pub record IsFrontOf (machine : Machine) (plans : List Plan) (ask : Ask) (w : Windows) (rests : List (Option ℕ)) (limit : ℕ) (waiting : List Waiting) (front : Front) : Type 0 where
  pub taken : List Label
  pub labels : IsFront machine plans ask w (rest_of rests) limit taken (labels_of front.arrivals.items waiting)
  pub covers : (s : State) (tick : ℕ) → IsTaken front.taken.items s tick → IsCovered taken s tick
