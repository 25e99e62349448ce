-- The kept holds on the resources of a step, as numbers: where its holds may stand, and which ends that leaves.
use Rattle.std.specs.Prelude.{◌≡◌, ℕ, ◌<◌, ◌≤◌, List, [], length, slice_get, slice_index_or, Some, All, Contains, pos, negsuc, ◌+ℤ◌, ◌≤ℤ◌}
use Rattle.tp_machine.specs.Modes.{gap_at, gap_between}
use Rattle.tp_machine.specs.ModuleUse.{begin_of, end_of}
use Rattle.tp_machine.specs.declared.machine.Machine.{Machine}
use Rattle.tp_machine.specs.declared.parts.HoldRule.{HoldRule}
use Rattle.tp_windows.specs.declared.gaps.Ends.{Ends}
use Rattle.tp_windows.specs.declared.gaps.KeptHold.{KeptHold}

-- so far away may the numbers be
pub record IsNear (k : KeptHold) : Type 0 where
  pub end_low : negsuc 17179869183 ≤ℤ k.end
  pub end_high : k.end ≤ℤ pos 17179869184
  pub begin_low : negsuc 17179869183 ≤ℤ k.begin
  pub begin_high : k.begin ≤ℤ pos 17179869184

-- a hold of this rule on a resource with this gap stands in the gap of this number between the kept holds
pub record StandsInRow (gap : ℕ) (rule : HoldRule) (kept : List KeptHold) (start end g : ℕ) : Type 0 where
  pub within : g ≤ length kept
  pub behind : (j : ℕ) (k : KeptHold) → j < g → slice_get kept j ≡ Some k → (k.end +ℤ pos (gap_between gap k.rule rule)) ≤ℤ begin_of rule start end
  pub before : (j : ℕ) (k : KeptHold) → g ≤ j → slice_get kept j ≡ Some k → (end_of rule start end +ℤ pos (gap_between gap rule k.rule)) ≤ℤ k.begin

-- the kept holds on a resource
abbrev pub row_at : List (List KeptHold) → ℕ → List KeptHold
row_at rows resource = slice_index_or rows resource []

-- the hold stands in some gap of its resource
abbrev pub StandsInGap : Machine → List (List KeptHold) → ℕ → ℕ → HoldRule → Type 0
StandsInGap machine rows start end rule = (g : ℕ) × StandsInRow (gap_at machine rule.resource.0) rule (row_at rows rule.resource.0) start end g

-- each hold does
abbrev pub AllStandIn : Machine → List (List KeptHold) → List HoldRule → ℕ → ℕ → Type 0
AllStandIn machine rows holds start end = All (StandsInGap machine rows start end) holds

-- the resource of each hold has a row
abbrev pub HaveRows : List (List KeptHold) → List HoldRule → Type 0
HaveRows rows holds = All (λ rule. rule.resource.0 < length rows) holds

-- the end lies in one of these intervals
pub record IsEnd (ends : List Ends) (end : ℕ) : Type 0 where
  pub interval : Ends
  pub in_ends : Contains ends interval
  pub from : interval.from ≤ end
  pub till : end ≤ interval.till
