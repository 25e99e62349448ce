use Rattle.std.proofs.Common.{length, ◌-◌, ◌≤◌}
use Rattle.tp_outside.specs.Outside.{IsCounted}
use Rattle.tp_outside.proofs.Parts.{TakenSo}
use Rattle.tp_outside.proofs.transfer.write_all.Given as goal

abbrev pub invariant-pieces : goal.invariant-pieces
invariant-pieces g l = record {
  within : l.at ≤ length l.piece;
  counted : IsCounted (g.K.Sink.faults l.initial.sink) (g.K.Sink.faults l.sink);
  taken : TakenSo l.at l.piece (g.K.Sink.taken l.initial.sink) (g.K.Sink.taken l.sink);
}

abbrev pub decreases-pieces : goal.decreases-pieces
decreases-pieces g l = length l.piece - l.at
