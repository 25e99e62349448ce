use Rattle.std.proofs.Common.{◌≡◌, ℕ, ◌-◌, ◌<◌, ◌≤◌, None, length, max}
use Rattle.tp_pool.specs.Queues.{head_at}
use Rattle.tp_pool.proofs.buckets.first_filled.Given as goal

abbrev pub invariant-heads : goal.invariant-heads
invariant-heads l = record {
  after : l.from ≤ l.at;
  within : l.at ≤ max l.from (length l.heads);
  empty : (k : ℕ) → l.from ≤ k → k < l.at → head_at l.heads k ≡ None;
}

abbrev pub decreases-heads : goal.decreases-heads
decreases-heads l = length l.heads - l.at
