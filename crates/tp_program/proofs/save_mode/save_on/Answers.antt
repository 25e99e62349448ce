-- The script was answered, and the line is written behind it; or the run stopped.
use Rattle.std.proofs.Common.{◌≡◌, Err, ap}
use Rattle.tp_session.specs.Sessions.{start_of}
use Rattle.tp_stream.specs.declared.stop.Stop.TheVariants as stop
use Rattle.tp_program.proofs.FarmEndFacts.{rises_after}
use Rattle.tp_program.proofs.RunFacts.{not_refused, sink_cause, source_cause}
use Rattle.tp_program.proofs.SaveEndFacts.{line_sound, saves_on, saves_stopped}
use Rattle.tp_program.proofs.save_mode.save_on.Goals as goal

pub write_line-requires : goal.write_line-requires
write_line-requires g c = line_sound c.args.machine c.args.settings.budget c.args.settings.bounds _ _ _ _ _ (c.sessions_stand_soundly.ensures.script c.args.machine c.args.settings.budget c.args.settings.bounds) c.in-Ok.ensures.all

pub returns-in-Ok-clause-ends : goal.returns-in-Ok-clause-ends
returns-in-Ok-clause-ends g c =
    saves_on c.args.machine c.args.settings.budget c.args.settings.bounds _ _ _ _ _ (c.sessions_stand_soundly.ensures.script c.args.machine c.args.settings.budget c.args.settings.bounds) c.in-Ok.ensures.all
    _ c.in-Ok.ensures.end _ c.write_line.ensures.ends

pub returns-in-Ok-clause-sink : goal.returns-in-Ok-clause-sink
returns-in-Ok-clause-sink g c = λ is. rises_after _ _ _ c.answer_on.ensures.sink_counted (c.write_line.ensures.sink is)

pub status_of-requires : goal.status_of-requires
status_of-requires g c =
    not_refused (start_of c.args.machine c.args.settings.budget c.args.settings.bounds) (g.S.Source.left c.args.source.now) (g.K.Sink.taken c.args.sink.now) (g.S.Source.left c.answer_on.new.source)
    (g.K.Sink.taken c.answer_on.new.sink) c.in-Err.stop c.in-Err.ensures.stops

pub returns-in-Err-clause-ends : goal.returns-in-Err-clause-ends
returns-in-Err-clause-ends g c =
    saves_stopped c.args.machine c.args.settings.budget c.args.settings.bounds (g.S.Source.left c.args.source.now) (g.S.Source.left c.answer_on.new.source) (g.K.Sink.taken c.args.sink.now)
    (g.K.Sink.taken c.answer_on.new.sink) (c.sessions_go_on.ensures.stopped c.args.machine c.args.settings.budget c.args.settings.bounds) c.in-Err.stop c.in-Err.ensures.stops c.status_of.result
    c.status_of.ensures.cause

pub returns-in-Err-clause-source : goal.returns-in-Err-clause-source
returns-in-Err-clause-source g c = λ is.
    let same : c.in-Err.stop ≡ stop.Source = source_cause c.in-Err.stop c.status_of.result c.status_of.ensures.cause is in
    c.in-Err.ensures.source (ap Err same)

pub returns-in-Err-clause-sink : goal.returns-in-Err-clause-sink
returns-in-Err-clause-sink g c = λ is.
    let same : c.in-Err.stop ≡ stop.Sink = sink_cause c.in-Err.stop c.status_of.result c.status_of.ensures.cause is in
    c.in-Err.ensures.sink (ap Err same)
