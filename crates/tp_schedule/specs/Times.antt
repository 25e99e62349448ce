-- What ticks keep of a schedule: durations, fixed points, floors, horizon and lines, and the orders of its resources.
use Rattle.std.specs.Prelude.{◌≡◌, ℕ, zero, suc, ◌+◌, ◌<◌, ◌≤◌, Bool, List, [], ◌∷◌, length, Contains, AllPairs, IsTrue, IsFalse, slice_get, Some}
use Rattle.tp_machine.specs.Modes.{gap_at}
use Rattle.tp_machine.specs.declared.parts.ActId.{ActId}
use Rattle.tp_machine.specs.declared.machine.Machine.{Machine}
use Rattle.tp_schedule.specs.Plans.{LastsWithin, point, is_fixed, is_delivered_to, with_points}
use Rattle.tp_schedule.specs.declared.parts.Plan.{Plan}
use Rattle.tp_schedule.specs.Spots.{Ticks, IsApart, slot_order}
use Rattle.tp_schedule.specs.Spots.Spot.{kept}

-- the tick of point i of a plan
abbrev pub at : Ticks → Plan → ℕ → ℕ
at t p i = t (kept p.sheet i)

-- where both plans are whole and go to one tray, the earlier one ends before the later one at these ticks
abbrev pub EndsBeforeAt : Ticks → Plan → Plan → Type 0
EndsBeforeAt t p q = (tray : ℕ) → IsTrue (is_delivered_to p tray) → IsTrue (is_delivered_to q tray) → at t p (length p.acts) < at t q (length q.acts)

-- the ticks keep the shape of the schedule: each action lasts within its durations, fixed points stay, each start that
-- is not released is above now + lead but for those of exempt plans, each point that is not fixed is at most the
-- horizon, and the ends of the whole plans to a tray rise
pub record KeepsTimes (machine : Machine) (now : ℕ) (exempt : Plan → Bool) (plans : List Plan) (t : Ticks) : Type 0 where
  pub lasts : (p : Plan) → Contains plans p → (i : ℕ) (act : ActId) → slice_get p.acts i ≡ Some act → LastsWithin machine act (at t p i) (at t p (suc i))
  pub fixed : (p : Plan) → Contains plans p → (i : ℕ) → IsTrue (is_fixed p i) → i ≤ length p.acts → at t p i ≡ point p i
  pub floors : (p : Plan) → Contains plans p → IsFalse (exempt p) → (i : ℕ) → p.released ≤ i → i < length p.acts → now + machine.lead < at t p i
  pub horizon : (p : Plan) → Contains plans p → (i : ℕ) → i ≤ length p.acts → IsFalse (is_fixed p i) → at t p i ≤ now + machine.window
  pub rise : AllPairs (EndsBeforeAt t) plans

-- the ticks keep the orders of the schedule: on each resource each hold ends by the begins of those after it, with the
-- gap of the resource between different modes
abbrev pub KeepsOrders : Machine → List Plan → Ticks → Type 0
KeepsOrders machine plans t = (resource : ℕ) → AllPairs (IsApart (gap_at machine resource) t) (slot_order machine plans resource)

-- so many ticks from a number on
abbrev pub ticks_from : (ℕ → ℕ) → ℕ → ℕ → List ℕ
ticks_from f i zero = []
ticks_from f i (suc n) = f i ∷ ticks_from f (suc i) n

-- a plan with these ticks for its points
abbrev pub timed_by : Ticks → Plan → Plan
timed_by t p = with_points (ticks_from (at t p) 0 (suc (length p.acts))) p
