-- The halves of windows that wait: each is told by its conditions, a point that comes before a tick or not, one for each split.
use Rattle.std.specs.Prelude.{ℕ, ◌+◌, ◌<◌, ◌≤◌, Bool, true, false, List, [], ◌∷◌, Contains, All}
use Rattle.tp_machine.specs.declared.machine.Machine.{Machine}
use Rattle.tp_schedule.specs.Answers.{IsAsked, NoneBefore}
use Rattle.tp_schedule.specs.Choices.{ChoiceList, IsComplete, OpensTo}
use Rattle.tp_schedule.specs.Legality.{IsLegal}
use Rattle.tp_schedule.specs.Spots.{Spot, Ticks}
use Rattle.tp_schedule.specs.declared.parts.Ask.{Ask}
use Rattle.tp_schedule.specs.declared.parts.Plan.{Plan}
use Rattle.tp_windows.specs.Windows.{HoldsWithin, MayStand, NoneIn, Windows}

-- the half of a split: the point comes at the tick or later, or before it
pub record Half : Type 0 where
  pub spot : Spot
  pub tick : ℕ
  pub high : Bool

abbrev pub IsSide : Bool → ℕ → ℕ → Type 0
IsSide true tick at = tick ≤ at
IsSide false tick at = at < tick

abbrev pub Meets : Ticks → Half → Type 0
Meets t h = IsSide h.high h.tick (t h.spot)

abbrev pub high_half : Spot → ℕ → Half
high_half s v = record { spot = s; tick = v; high = true }

abbrev pub low_half : Spot → ℕ → Half
low_half s v = record { spot = s; tick = v; high = false }

module _ (machine : Machine) (plans : List Plan) (ask : Ask) where
  -- each complete list that ends by the limit has ticks that meet the conditions of one of those that wait
  abbrev pub AreLeft : List (List Half) → ℕ → Type 0
  AreLeft waiting limit = (list : ChoiceList) (end : ℕ) → IsComplete machine ask list → (o : OpensTo machine plans ask list end) → end ≤ limit → (halves : List Half) × Contains waiting halves × All (Meets o.ticks) halves

  -- the windows hold all ticks that meet the conditions
  abbrev pub AreWindowsOf : ℕ → List Half → Windows → Type 0
  AreWindowsOf limit halves w = (t : Ticks) → MayStand machine plans ask limit t → All (Meets t) halves → HoldsWithin w plans t

-- at first there are no conditions
abbrev pub HalvesBegin : Type 0
HalvesBegin = (machine : Machine) (plans : List Plan) (ask : Ask) (limit : ℕ) → AreLeft machine plans ask ([] ∷ []) limit

-- a lower limit leaves no more
abbrev pub HalvesLower : Type 0
HalvesLower = (machine : Machine) (plans : List Plan) (ask : Ask) (limit lower : ℕ) (waiting : List (List Half)) → lower ≤ limit → AreLeft machine plans ask waiting limit → AreLeft machine plans ask waiting lower

-- the first that waits is split in two
abbrev pub HalvesSplit : Type 0
HalvesSplit = (machine : Machine) (plans : List Plan) (ask : Ask) (limit : ℕ) (s : Spot) (v : ℕ) (halves : List Half) (waiting : List (List Half))
    → AreLeft machine plans ask (halves ∷ waiting) limit → AreLeft machine plans ask ((high_half s v ∷ halves) ∷ (low_half s v ∷ halves) ∷ waiting) limit

-- the first that waits is closed, where no list in its windows ends by the limit
abbrev pub HalvesClose : Type 0
HalvesClose = (machine : Machine) (plans : List Plan) (ask : Ask) (limit : ℕ) (w : Windows) (halves : List Half) (waiting : List (List Half))
    → AreLeft machine plans ask (halves ∷ waiting) limit → AreWindowsOf machine plans ask limit halves w → NoneIn machine plans ask w limit → AreLeft machine plans ask waiting limit

-- or where no ticks meet its conditions
abbrev pub HalvesRefuse : Type 0
HalvesRefuse = (machine : Machine) (plans : List Plan) (ask : Ask) (limit : ℕ) (halves : List Half) (waiting : List (List Half))
    → AreLeft machine plans ask (halves ∷ waiting) limit → ((t : Ticks) → MayStand machine plans ask limit t → All (Meets t) halves → ⊥) → AreLeft machine plans ask waiting limit

-- where none waits, no alternative ends by the limit
abbrev pub HalvesEnd : Type 0
HalvesEnd = (machine : Machine) (plans : List Plan) (ask : Ask) (limit : ℕ) → IsLegal machine plans → IsAsked machine plans ask → AreLeft machine plans ask [] limit → NoneBefore machine plans ask (limit + 1)
