use Rattle.std.proofs.Common.{◌≡◌, ℕ, ◌<◌, ◌≤◌, None, length, vec_capacity}
use Rattle.tp_pool.specs.Queues.{head_at}
use Rattle.tp_pool.proofs.buckets.empty.Given as goal

abbrev pub invariant-heads : goal.invariant-heads
invariant-heads l = record {
  len : length l.heads.items ≡ length l.fn.heads.items;
  capacity : vec_capacity l.heads ≡ vec_capacity l.fn.heads;
  before : (k : ℕ) → k < l.at → head_at l.heads.items k ≡ None;
  behind : (k : ℕ) → l.to ≤ k → head_at l.heads.items k ≡ None;
}
