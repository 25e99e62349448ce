-- What a session answered is a run on its machine.
use Rattle.std.proofs.Common.{◌≡◌, Err, ap}
use Rattle.tp_stream.specs.declared.stop.Stop.TheVariants as stop
use Rattle.tp_program.specs.Beginnings.{begun, first_state, standing_in}
use Rattle.tp_program.proofs.RunFacts.{ends_done, ends_stopped, not_refused, sink_cause, source_cause}
use Rattle.tp_program.proofs.session.run_on.Goals as goal

pub returns-in-Ok-clause-ends : goal.returns-in-Ok-clause-ends
returns-in-Ok-clause-ends g c = λ whole behind.
    let b = c.args.beginning in
    ends_done b.machine b.settings.budget b.settings.bounds whole (first_state b.machine (standing_in b.from)) behind (g.S.Source.left c.args.source.now) (g.S.Source.left c.answer_on.new.source)
    (g.K.Sink.taken c.args.sink.now) (g.K.Sink.taken c.answer_on.new.sink) (c.sessions_go_on.ensures.whole b.machine b.settings.budget b.settings.bounds) c.in-Ok.session.standing c.in-Ok.ensures.all c.in-Ok.ensures.end
    c.end.result c.end.ensures

pub status_of-requires : goal.status_of-requires
status_of-requires g c =
    let b = c.args.beginning in
    not_refused (begun b.machine b.settings.budget b.settings.bounds (standing_in b.from)) (g.S.Source.left c.args.source.now) (g.K.Sink.taken c.args.sink.now) (g.S.Source.left c.answer_on.new.source)
    (g.K.Sink.taken c.answer_on.new.sink) c.in-Err.stop c.in-Err.ensures.stops

pub returns-in-Err-clause-ends : goal.returns-in-Err-clause-ends
returns-in-Err-clause-ends g c = λ whole behind.
    let b = c.args.beginning in
    ends_stopped b.machine b.settings.budget b.settings.bounds whole (first_state b.machine (standing_in b.from)) behind (g.S.Source.left c.args.source.now) (g.S.Source.left c.answer_on.new.source)
    (g.K.Sink.taken c.args.sink.now) (g.K.Sink.taken c.answer_on.new.sink) (c.sessions_go_on.ensures.stopped b.machine b.settings.budget b.settings.bounds) c.in-Err.stop c.in-Err.ensures.stops
    c.status_of.result c.status_of.ensures.cause

pub returns-in-Err-clause-source : goal.returns-in-Err-clause-source
returns-in-Err-clause-source g c = λ is.
    let same : c.in-Err.stop ≡ stop.Source = source_cause c.in-Err.stop c.status_of.result c.status_of.ensures.cause is in
    c.in-Err.ensures.source (ap Err same)

pub returns-in-Err-clause-sink : goal.returns-in-Err-clause-sink
returns-in-Err-clause-sink g c = λ is.
    let same : c.in-Err.stop ≡ stop.Sink = sink_cause c.in-Err.stop c.status_of.result c.status_of.ensures.cause is in
    c.in-Err.ensures.sink (ap Err same)
