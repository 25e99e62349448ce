-- Points as the code has them, and the limits of weights and offsets.
use Rattle.std.specs.Prelude.{◌≡◌, ℕ, Option, Some, None, ℤ, pos, negsuc, ◌≤ℤ◌, refl}
use Rattle.tp_machine.specs.Machines.{IsOffset}
use Rattle.tp_machine.specs.declared.parts.HoldRule.{HoldRule}
use Rattle.tp_schedule.specs.Spots.{Spot}
use Rattle.tp_schedule.specs.Spots.Spot.{kept, own}
use Rattle.tp_schedule.specs.declared.parts.SheetId.{SheetId}

-- point `at` of a copy's plan, or for no copy the own point of this number
abbrev pub spot_by : Option SheetId → ℕ → Spot
spot_by None at = own at
spot_by (Some copy) at = kept copy at

abbrev pub copy_in : Spot → Option SheetId
copy_in (own n) = None
copy_in (kept copy i) = Some copy

abbrev pub at_in : Spot → ℕ
at_in (own n) = n
at_in (kept copy i) = i

-- how many choices, the oldest first, come up to an own point
abbrev pub choices_to : Spot → ℕ
choices_to (own n) = n
choices_to (kept copy i) = 0

pub copy_again : (copy : Option SheetId) (at : ℕ) → copy_in (spot_by copy at) ≡ copy
copy_again None at = refl
copy_again (Some copy) at = refl

pub at_again : (copy : Option SheetId) (at : ℕ) → at_in (spot_by copy at) ≡ at
at_again None at = refl
at_again (Some copy) at = refl

-- a rule as a machine has it
abbrev pub HasOffsets : HoldRule → Type 0
HasOffsets rule = IsOffset rule.begin_off × IsOffset rule.end_off

abbrev pub IsWeight : ℤ → Type 0
IsWeight z = (negsuc 16383 ≤ℤ z) × (z ≤ℤ pos 20480)
