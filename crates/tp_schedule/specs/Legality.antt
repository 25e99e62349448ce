-- Which schedules are legal.
use Rattle.std.specs.Prelude.{◌≢◌, ◌⊎◌, ℕ, ◌+◌, ◌<◌, ◌≤◌, List, length, All, AllPairs, IsTrue}
use Rattle.tp_machine.specs.Modes.{gap_at}
use Rattle.tp_machine.specs.declared.machine.Machine.{Machine}
use Rattle.tp_schedule.specs.Plans.{IsTimedPlan, IsEarlier, is_delivered_to, end_of_plan}
use Rattle.tp_schedule.specs.Holders.{held, IsHeldIn}
use Rattle.tp_schedule.specs.declared.parts.Plan.{Plan}

-- where both plans are whole and go to one tray, the earlier one ends before the later one
abbrev pub EndsBefore : Plan → Plan → Type 0
EndsBefore p q = (tray : ℕ) → IsTrue (is_delivered_to p tray) → IsTrue (is_delivered_to q tray) → end_of_plan p < end_of_plan q

-- where the resource is held in one mode at the tick and in another at some tick, these differ by more than its gap
abbrev pub IsSpreadAt : Machine → List Plan → ℕ → ℕ → Type 0
IsSpreadAt machine plans resource tick = (other m n : ℕ) → IsHeldIn machine plans resource tick m → IsHeldIn machine plans resource other n → m ≢ n
    → (tick + gap_at machine resource < other) ⊎ (other + gap_at machine resource < tick)

-- a legal schedule: its plans stand in the order of copies, every plan is a timed plan, every resource has at most one
-- holder at every tick, ticks at which it is held in different modes differ by more than its gap, and for each tray the
-- ends of the whole plans to it rise strictly in the order of copies
pub record IsLegal (machine : Machine) (plans : List Plan) : Type 0 where
  pub in_order : AllPairs IsEarlier plans
  pub timed : All (IsTimedPlan machine) plans
  pub single : (resource tick : ℕ) → length (held machine plans resource tick) ≤ 1
  pub spread : (resource tick : ℕ) → IsSpreadAt machine plans resource tick
  pub rise : AllPairs EndsBefore plans
