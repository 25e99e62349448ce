use Rattle.std.proofs.Common.{All, take}
use Rattle.tp_placing.specs.Settled.{HasLeastPoints}
use Rattle.tp_placing.proofs.schedule_times.are_settled.Given as goal

abbrev pub invariant-loop-at : goal.invariant-loop-at
invariant-loop-at g l = All (HasLeastPoints (g.N.Network.reading.net l.net) l.plans) (take l.at l.plans)
