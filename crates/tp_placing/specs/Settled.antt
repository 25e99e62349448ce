-- Plans at their least ticks.
use Rattle.std.specs.Prelude.{◌≡◌, ℕ, ◌≤◌, Bool, false, List, length, Contains, IsFalse, IsTrue, Some}
use Rattle.tp_base.specs.Net.{Net, IsLeast}
use Rattle.tp_machine.specs.declared.machine.Machine.{Machine}
use Rattle.tp_schedule.specs.Plans.{plan_of, point}
use Rattle.tp_schedule.specs.Spots.{Ticks, ticks_of}
use Rattle.tp_schedule.specs.Spots.Spot.{kept}
use Rattle.tp_schedule.specs.Times.{ticks_from, timed_by}
use Rattle.tp_schedule.specs.declared.parts.Plan.{Plan}
use Rattle.tp_constraints.specs.Laws.{LoadedTimes}
use Rattle.tp_constraints.specs.Numbers.{table_of}
use Rattle.tp_placing.specs.Commits.{AreLeastTicks}

-- the plans may have their own ticks at the moment, and no earlier ones
pub record AreSettled (machine : Machine) (now : ℕ) (plans : List Plan) : Type 0 where
  pub times : LoadedTimes machine now (λ _. false) plans (ticks_of plans)
  pub least : (t : Ticks) → LoadedTimes machine now (λ _. false) plans t → (p : Plan) → Contains plans p → (i : ℕ) → i ≤ length p.acts → point p i ≤ t (kept p.sheet i)

-- the least times of a network with the points of plans are this plan's own points
abbrev pub HasLeastPoints : Net → List Plan → Plan → Type 0
HasLeastPoints net plans p = (t : Ticks) → AreLeastTicks net (table_of plans) t → timed_by t p ≡ p

-- the least times of a network's points from one on are these
abbrev pub AreLeastFrom : Net → ℕ → List ℕ → Type 0
AreLeastFrom net first times = (sol : ℕ → ℕ) → IsLeast net sol → times ≡ ticks_from sol first (length times)

-- those of the loaded plans that pass the test are plans of the schedule, and the others have their least times
pub record AreOfSchedule (net : Net) (loaded plans : List Plan) (mine : Plan → Bool) : Type 0 where
  pub planned : (p : Plan) → Contains loaded p → IsTrue (mine p) → plan_of p.sheet plans ≡ Some p
  pub settled : (p : Plan) → Contains loaded p → IsFalse (mine p) → HasLeastPoints net loaded p
