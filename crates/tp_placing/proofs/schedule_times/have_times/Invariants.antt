use Rattle.std.proofs.Common.{◌≡◌, ℕ, take}
use Rattle.tp_base.specs.Net.{IsLeast}
use Rattle.tp_schedule.specs.Times.{ticks_from}
use Rattle.tp_placing.proofs.schedule_times.have_times.Given as goal

abbrev pub invariant-loop-at : goal.invariant-loop-at
invariant-loop-at g l = (sol : ℕ → ℕ) → IsLeast (g.N.Network.reading.net l.net) sol → take l.at l.times ≡ ticks_from sol l.first.0 l.at
