use Rattle.std.proofs.Common.{◌≡◌, ℕ, ◌≤◌, length, All}
use Rattle.tp_base.specs.Net.{Keeps}
use Rattle.tp_windows.specs.Arrays.{IsBetween}
use Rattle.tp_windows.specs.Links.{edges_of}
use Rattle.tp_windows.proofs.times.lower_all.Given as goal

abbrev pub invariant-edges : goal.invariant-edges
invariant-edges l = record {
  left : l.left ≤ length l.links;
  same : length l.highs ≡ length l.fn.highs;
  between : (y : ℕ → ℕ) → All (Keeps y) (edges_of l.links) → IsBetween y l.lows l.fn.highs → IsBetween y l.lows l.highs;
}

abbrev pub decreases-edges : goal.decreases-edges
decreases-edges l = l.left
