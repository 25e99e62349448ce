use Rattle.std.proofs.Common.{ℕ, All, length}
use Rattle.tp_base.specs.Net.{Keeps}
use Rattle.tp_windows.specs.Arrays.{IsBetween}
use Rattle.tp_windows.specs.Links.{edges_of}
use Rattle.tp_windows.specs.Sides.{AreWide, IsOnSide}
use Rattle.tp_windows.proofs.ranges.keep_sides.Given as goal

abbrev pub invariant-sides : goal.invariant-sides
invariant-sides l = record {
  wide : AreWide (length l.fn.ranges.lows.items) l.ranges;
  kept : (y : ℕ → ℕ) → All (Keeps y) (edges_of l.edges.from.links.items) → IsBetween y l.fn.ranges.lows.items l.fn.ranges.highs.items → All (IsOnSide y) l.sides → IsBetween y l.ranges.lows.items l.ranges.highs.items;
}
