-- The kept holds of each resource in their order, as numbers.
use Rattle.std.specs.Prelude.{◌≡◌, ℕ, List, [], ◌∷◌, ◌++◌, length, slice_get, Some}
use Rattle.tp_machine.specs.declared.machine.Machine.{Machine}
use Rattle.tp_schedule.specs.Spots.{Slot, Spot, slot_order}
use Rattle.tp_schedule.specs.declared.parts.Plan.{Plan}
use Rattle.tp_constraints.specs.Numbers.{table_of}
use Rattle.tp_windows.specs.RowLaws.{AreKeptOf}
use Rattle.tp_windows.specs.Windows.{Windows}
use Rattle.tp_windows.specs.declared.gaps.KeptHold.{KeptHold}

-- the rows are those of the orders of the plans in the windows
pub record AreRowsOf (machine : Machine) (plans : List Plan) (w : Windows) (rows : List (List KeptHold)) : Type 0 where
  pub len : length rows ≡ length machine.resources
  pub each : (r : ℕ) (row : List KeptHold) → slice_get rows r ≡ Some row → AreKeptOf w row (slot_order machine plans r)

-- the kept hold is the slot, its points by the table
pub record IsSlotHold (table : List Spot) (k : KeptHold) (s : Slot) : Type 0 where
  pub rule : k.rule ≡ s.rule
  pub from : slice_get table k.from.0 ≡ Some s.from
  pub to : slice_get table k.to.0 ≡ Some s.to

abbrev pub AreSlotHolds : List Spot → List KeptHold → List Slot → Type 0
AreSlotHolds table [] [] = Unit {0}
AreSlotHolds table [] (s ∷ slots) = ⊥
AreSlotHolds table (k ∷ ks) [] = ⊥
AreSlotHolds table (k ∷ ks) (s ∷ slots) = IsSlotHold table k s × AreSlotHolds table ks slots

-- holds that are those of slots were put behind others
pub record AddsRow (table : List Spot) (holds holds' : List KeptHold) (slots : List Slot) : Type 0 where
  pub row : List KeptHold
  pub is : holds' ≡ holds ++ row
  pub of : AreSlotHolds table row slots

-- the rows have the holds of the orders, whatever their times
pub record HaveOrders (machine : Machine) (plans : List Plan) (rows : List (List KeptHold)) : Type 0 where
  pub len : length rows ≡ length machine.resources
  pub each : (r : ℕ) (row : List KeptHold) → slice_get rows r ≡ Some row → AreSlotHolds (table_of plans) row (slot_order machine plans r)
