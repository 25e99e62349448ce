-- Points and copies as they are looked up, and where those that are looked up stand.
use Rattle.std.specs.Prelude.{◌≡◌, ℕ, List, Option, true, false}
use Rattle.std.specs.List.{position_from}
use Rattle.tp_constraints.specs.Numbers.{is_same_spot}
use Rattle.tp_schedule.specs.Plans.{is_same_copy}
use Rattle.tp_schedule.specs.Spots.{Slot, Spot}
use Rattle.tp_schedule.specs.Spots.Spot.{kept, own}
use Rattle.tp_schedule.specs.declared.parts.Plan.{Plan}
use Rattle.tp_schedule.specs.declared.parts.SheetId.{SheetId}
use Rattle.tp_schedule.specs.declared.records.SheetName.{SheetName}
use Rattle.tp_bound_laws.specs.Chains.{is_plan_of}
use Rattle.tp_bound_check.specs.declared.index.SheetKey.{SheetKey}
use Rattle.tp_bound_check.specs.declared.index.StartKey.{StartKey}

abbrev pub start_key : Spot → StartKey
start_key (kept copy i) = record { own = false; job = copy.job; number = copy.number; copy = copy.copy; at = i }
start_key (own n) = record { own = true; job = 0; number = 0; copy = 0; at = n }

abbrev pub copy_key : SheetId → StartKey
copy_key copy = start_key (kept copy 0)

abbrev pub sheet_key : SheetName → SheetKey
sheet_key name = record { job = name.job; number = name.number; copy = name.copy }

abbrev pub plan_key : Plan → SheetKey
plan_key p = record { job = p.name; number = p.sheet.number; copy = p.sheet.copy }

-- the places of holds by the points where their actions start, and those of plans by their copies and by their names
abbrev pub AreByStart : (StartKey → Option ℕ) → List Slot → Type 0
AreByStart place slots = (start : Spot) → place (start_key start) ≡ position_from (λ s. is_same_spot s.from start) 0 slots

abbrev pub AreByCopy : (StartKey → Option ℕ) → List Plan → Type 0
AreByCopy place plans = (copy : SheetId) → place (copy_key copy) ≡ position_from (λ p. is_same_copy p.sheet copy) 0 plans

abbrev pub AreByName : (SheetKey → Option ℕ) → List Plan → Type 0
AreByName place plans = (name : SheetName) → place (sheet_key name) ≡ position_from (is_plan_of name) 0 plans
