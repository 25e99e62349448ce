-- Which points of a schedule are supported. A schedule is least exactly where all of them are.
use Rattle.std.specs.Prelude.{◌≡◌, ℕ, suc, ◌+◌, ◌≤◌, Bool, List, length, pos, ◌+ℤ◌, Contains, IsTrue, IsFalse}
use Rattle.tp_machine.specs.declared.machine.Machine.{Machine}
use Rattle.tp_schedule.specs.Answers.{IsLeast, IsRetimed, KeepsHorizon}
use Rattle.tp_schedule.specs.Plans.{point}
use Rattle.tp_schedule.specs.Spots.{Spot, Ticks, ticks_of}
use Rattle.tp_schedule.specs.Spots.Spot.{kept}
use Rattle.tp_schedule.specs.declared.parts.Plan.{Plan}
use Rattle.tp_choices.specs.Retimings.{IgnoresPoints}
use Rattle.tp_constraints.specs.Gaps.{Gap, IsPoint, low_at}
use Rattle.tp_constraints.specs.Laws.{IsLoadable, plans_gaps, no_own}

-- the ticks leave the gap no room
abbrev pub IsTight : Ticks → Gap → Type 0
IsTight t g = pos (t g.from) +ℤ g.weight ≡ pos (t g.to)

-- a point is supported where it stands at its least tick, or where a gap without room leads to it from a supported point
pub data IsSupported (known : Spot → Type 0) (low : Spot → ℕ) (gaps : List Gap) (t : Ticks) : Spot → Type 0 where
  at_low : (s : Spot) → known s → t s ≡ low s → IsSupported known low gaps t s
  by_gap : (g : Gap) → Contains gaps g → IsTight t g → IsSupported known low gaps t g.from → IsSupported known low gaps t g.to

abbrev pub lows_of : Machine → ℕ → (Plan → Bool) → List Plan → Spot → ℕ
lows_of machine now exempt plans = low_at (now + machine.lead) exempt plans no_own

-- a point of a schedule, by its own points
abbrev pub IsSupportedIn : Machine → ℕ → (Plan → Bool) → List Plan → Spot → Type 0
IsSupportedIn machine now exempt plans = IsSupported (IsPoint plans 0) (lows_of machine now exempt plans) (plans_gaps machine plans) (ticks_of plans)

-- a schedule whose points are all supported is least
abbrev pub SupportedIsLeast : Type 0
SupportedIsLeast = (machine : Machine) (now : ℕ) (exempt : Plan → Bool) (plans : List Plan) → IsLoadable machine now exempt plans → IgnoresPoints exempt
    → ((s : Spot) → IsPoint plans 0 s → IsSupportedIn machine now exempt plans s) → IsLeast machine now exempt plans

-- and each point of a least schedule is supported
abbrev pub LeastIsSupported : Type 0
LeastIsSupported = (machine : Machine) (now : ℕ) (exempt : Plan → Bool) (plans : List Plan) → IsLoadable machine now exempt plans → IgnoresPoints exempt → KeepsHorizon machine now plans
    → IsLeast machine now exempt plans → (s : Spot) → IsPoint plans 0 s → IsSupportedIn machine now exempt plans s

-- marks that reach all that stands at tick 0 and each point at its least tick, and go on along gaps without room
pub record IsMarking (machine : Machine) (now : ℕ) (exempt : Plan → Bool) (plans : List Plan) (marked : Spot → Bool) : Type 0 where
  pub at_zero : (s : Spot) → ticks_of plans s ≡ 0 → IsTrue (marked s)
  pub lows : (s : Spot) → IsPoint plans 0 s → ticks_of plans s ≡ lows_of machine now exempt plans s → IsTrue (marked s)
  pub goes_on : (g : Gap) → Contains (plans_gaps machine plans) g → IsTight (ticks_of plans) g → IsTrue (marked g.from) → IsTrue (marked g.to)

-- a point that such marks do not reach can stand one tick earlier
abbrev pub UnmarkedIsLater : Type 0
UnmarkedIsLater = (machine : Machine) (now : ℕ) (exempt : Plan → Bool) (plans : List Plan) (marked : Spot → Bool) → IsLoadable machine now exempt plans → IgnoresPoints exempt
    → KeepsHorizon machine now plans → IsMarking machine now exempt plans marked
    → (p : Plan) → Contains plans p → (i : ℕ) → i ≤ length p.acts → IsFalse (marked (kept p.sheet i))
    → (plans' : List Plan) × IsRetimed machine now exempt plans plans' × (suc (ticks_of plans' (kept p.sheet i)) ≡ point p i)
