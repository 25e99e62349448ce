use Rattle.std.proofs.Common.{ℕ}
use Rattle.tp_base.specs.Net.{IsSolution}
use Rattle.tp_windows.specs.Arrays.{IsBetween}
use Rattle.tp_windows.specs.Sides.{AreWide}
use Rattle.tp_windows.proofs.ranges.load_ranges.Given as goal

abbrev pub invariant-points : goal.invariant-points
invariant-points g l = record {
  wide : AreWide l.point l.ranges;
  between : (y : ℕ → ℕ) → IsSolution (g.N.Network.reading.net l.net) y → IsBetween y l.ranges.lows.items l.ranges.highs.items;
}
