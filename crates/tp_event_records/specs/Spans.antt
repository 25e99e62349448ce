-- Where a plan's points stand in one list of ticks.
use Rattle.std.specs.Prelude.{ℕ, ◌-◌, ◌≤◌, List, length, take, drop}
use Rattle.tp_event_records.specs.declared.times.PlanSpan.{PlanSpan}

-- the ticks of the span
abbrev pub ticks_at : List ℕ → PlanSpan → List ℕ
ticks_at ticks s = take (s.till - s.from) (drop s.from ticks)

-- the list has the span
abbrev pub IsWithin : List ℕ → PlanSpan → Type 0
IsWithin ticks s = (s.from ≤ s.till) × (s.till ≤ length ticks)
