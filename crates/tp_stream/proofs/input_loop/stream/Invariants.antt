use Rattle.std.proofs.Common.{ℕ, ◌+◌, ◌-◌, ◌*◌, List, length}
use Rattle.tp_outside.specs.Outside.{IsCounted}
use Rattle.tp_stream.specs.Takes.{IsReadFrom, IsUnderWay, Takes, place_of}
use Rattle.tp_stream.proofs.input_loop.stream.Given as goal

abbrev pub invariant-chunks : goal.invariant-chunks
invariant-chunks g l = record {
  so_far : (bytes : List ℕ) × IsReadFrom (g.S.Source.left l.initial.source) bytes (g.S.Source.left l.source)
      × Takes g.T.LineTaker.answers l.limits.bytes (place_of (g.T.LineTaker.state l.initial.taker) 0 (g.K.Sink.taken l.initial.sink)) bytes l.line.items (place_of (g.T.LineTaker.state l.taker) l.count (g.K.Sink.taken l.sink));
  under_way : IsUnderWay l.limits l.line.items l.count (g.T.LineTaker.room l.taker) (g.T.LineTaker.text l.taker);
  source_counted : IsCounted (g.S.Source.faults l.initial.source) (g.S.Source.faults l.source);
  sink_counted : IsCounted (g.K.Sink.faults l.initial.sink) (g.K.Sink.faults l.sink);
}

abbrev pub decreases-chunks : goal.decreases-chunks
decreases-chunks g l = (l.limits.lines - l.count) * (l.limits.bytes + 1) + (l.limits.bytes - length l.line.items)
