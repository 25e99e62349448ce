use Rattle.std.proofs.Common.{◌≡◌, ℕ, ◌<◌, ◌≤◌, false, length, get_or, pos}
use Rattle.tp_stock.specs.Stock.{left_of, refilled}
use Rattle.tp_stock.proofs.refills.less.Given as goal

abbrev pub invariant-locations : goal.invariant-locations
invariant-locations l = (length l.left ≡ 256)
    × ((k : ℕ) → k < l.at → get_or l.left k (pos 0) ≡ left_of (get_or l.counted k false) (refilled l.refills.0 k) (get_or l.before.0 k 0) (get_or l.after.0 k 0))
    × ((k : ℕ) → l.at ≤ k → get_or l.left k (pos 0) ≡ refilled l.refills.0 k)
