use Rattle.std.proofs.Common.{◌≡◌, ℕ, ◌+◌, ◌++◌, length}
use Rattle.tp_base.specs.Net.{IsLeast}
use Rattle.tp_schedule.specs.Times.{ticks_from}
use Rattle.tp_placing.specs.Commits.{back_from}
use Rattle.tp_placing.proofs.asked.add_back.Given as goal

abbrev pub invariant-loop-at : goal.invariant-loop-at
invariant-loop-at g l = record {
  times : (sol : ℕ → ℕ) → IsLeast (g.N.Network.reading.net l.net) sol → l.points ≡ l.fn.points ++ ticks_from (back_from sol l.first.0) 0 l.at;
  count : length l.points ≡ length l.fn.points + l.at;
}
