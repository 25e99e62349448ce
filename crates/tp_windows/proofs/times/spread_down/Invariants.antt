use Rattle.std.proofs.Common.{◌≡◌, ℕ, length, All}
use Rattle.tp_base.specs.Net.{Keeps}
use Rattle.tp_windows.specs.Arrays.{IsBetween}
use Rattle.tp_windows.specs.Links.{edges_of}
use Rattle.tp_windows.proofs.times.spread_down.Given as goal

abbrev pub invariant-points : goal.invariant-points
invariant-points l = record {
  same : length l.highs ≡ length l.fn.highs;
  between : (y : ℕ → ℕ) → All (Keeps y) (edges_of l.links.links.now) → IsBetween y l.lows l.fn.highs → IsBetween y l.lows l.highs;
}

abbrev pub decreases-points : goal.decreases-points
decreases-points l = l.spread.left
