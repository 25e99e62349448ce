use Rattle.std.proofs.Common.{◌≡◌, ℕ, length}
use Rattle.tp_base.specs.Net.{IsLeast}
use Rattle.tp_schedule.specs.Times.{ticks_from}
use Rattle.tp_placing.proofs.schedule_times.times_from.Given as goal

abbrev pub invariant-loop-at : goal.invariant-loop-at
invariant-loop-at g l = record {
  times : (sol : ℕ → ℕ) → IsLeast (g.N.Network.reading.net l.net) sol → l.points ≡ ticks_from sol l.first.0 l.at;
  count : length l.points ≡ l.at;
}
