use Rattle.std.proofs.Common.{◌++◌, length}
use Rattle.tp_outside.specs.Outside.{IsCounted}
use Rattle.tp_stream.specs.Takes.{IsUnderWay, Takes, place_of}
use Rattle.tp_stream.proofs.pieces.take_chunk.Given as goal

abbrev pub invariant-pieces : goal.invariant-pieces
invariant-pieces g l = record {
  takes : Takes g.T.LineTaker.answers l.limits.bytes (place_of (g.T.LineTaker.state l.initial.taker) l.initial.count (g.K.Sink.taken l.initial.sink)) (l.initial.line.items ++ l.chunk) (l.line.items ++ l.rest) (place_of (g.T.LineTaker.state l.taker) l.count (g.K.Sink.taken l.sink));
  under_way : IsUnderWay l.limits l.line.items l.count (g.T.LineTaker.room l.taker) (g.T.LineTaker.text l.taker);
  counted : IsCounted (g.K.Sink.faults l.initial.sink) (g.K.Sink.faults l.sink);
}

abbrev pub decreases-pieces : goal.decreases-pieces
decreases-pieces g l = length l.rest
