-- Where the holds of a step stand, by the numbers of gaps; and between which ticks an action may start and end.
use Rattle.std.specs.Prelude.{◌≡◌, ℕ, ◌+◌, ◌<◌, ◌≤◌, List, length, slice_get, Some, pos, ◌+ℤ◌, ◌≤ℤ◌, ◌<ℤ◌}
use Rattle.tp_machine.specs.Modes.{gap_between}
use Rattle.tp_machine.specs.ModuleUse.{begin_of, end_of}
use Rattle.tp_machine.specs.declared.parts.HoldRule.{HoldRule}
use Rattle.tp_schedule.specs.Spots.{Slot, begin_at, end_at}
use Rattle.tp_windows.specs.Windows.{Windows}
use Rattle.tp_windows.specs.Ways.{StandsIn}
use Rattle.tp_windows.specs.declared.span.Span.{Span}

-- the hold stands in the gap of this number: behind each hold of a lower number, and before each other one
pub record StandsAt (gap : ℕ) (w : Windows) (rule : HoldRule) (start end : ℕ) (order : List Slot) (g : ℕ) : Type 0 where
  pub within : g ≤ length order
  pub behind : (j : ℕ) (k : Slot) → j < g → slice_get order j ≡ Some k → (end_at w.lo k +ℤ pos (gap_between gap k.rule rule)) ≤ℤ begin_of rule start end
  pub before : (j : ℕ) (k : Slot) → g ≤ j → slice_get order j ≡ Some k → (end_of rule start end +ℤ pos (gap_between gap rule k.rule)) ≤ℤ begin_at w.hi k

-- a hold stands in the gap of some number
abbrev pub GapLaw : Type 0
GapLaw = (gap : ℕ) (w : Windows) (rule : HoldRule) (start end : ℕ) (order : List Slot) → StandsIn gap w rule start end order → (g : ℕ) × StandsAt gap w rule start end order g

-- no gap behind a hold that ends too late for it
abbrev pub LastGapLaw : Type 0
LastGapLaw = (gap : ℕ) (w : Windows) (rule : HoldRule) (start end : ℕ) (order : List Slot) (g j : ℕ) (k : Slot) → StandsAt gap w rule start end order g → slice_get order j ≡ Some k
    → begin_of rule start end <ℤ (end_at w.lo k +ℤ pos (gap_between gap k.rule rule)) → g ≤ j

-- no gap before a hold that begins too early for it
abbrev pub FirstGapLaw : Type 0
FirstGapLaw = (gap : ℕ) (w : Windows) (rule : HoldRule) (start end : ℕ) (order : List Slot) (g j : ℕ) (k : Slot) → StandsAt gap w rule start end order g → slice_get order j ≡ Some k
    → begin_at w.hi k <ℤ (end_of rule start end +ℤ pos (gap_between gap rule k.rule)) → j < g

-- an action that runs so is among those of a span
pub record IsIn (span : Span) (start end : ℕ) : Type 0 where
  pub starts : span.start_from ≤ start
  pub by : start ≤ span.start_till
  pub ends : span.end_from ≤ end
  pub till : end ≤ span.end_till

-- an action that runs so lasts from the least duration to the greatest
pub record IsWithin (least most start end : ℕ) : Type 0 where
  pub long : start + least ≤ end
  pub short : end ≤ start + most
