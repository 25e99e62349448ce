-- The mode of a hold, and the gap of a resource: so many ticks apart stand two holds of different modes on it. They are
-- closed, so that laws rest on what is said of them alone.
use Rattle.std.specs.Prelude.{ℕ, ◌==◌, if◌then◌else◌, slice_get, Option, Some, None}
use Rattle.tp_machine.specs.declared.parts.HoldRule.{HoldRule}
use Rattle.tp_machine.specs.declared.parts.Resource.{Resource}
use Rattle.tp_machine.specs.declared.machine.Machine.{Machine}

unfoldable pub mode_of : HoldRule → ℕ
mode_of hold = hold.mode

abbrev pub gap_of : Option Resource → ℕ
gap_of None = 0
gap_of (Some r) = r.gap

-- the gap of the resource with this number; where there is none, it is 0
unfoldable pub gap_at : Machine → ℕ → ℕ
gap_at machine resource = gap_of (slice_get machine.resources resource)

-- how far apart two holds stand on a resource with this gap
unfoldable pub gap_between : ℕ → HoldRule → HoldRule → ℕ
gap_between gap one other = if mode_of one == mode_of other then 0 else gap
