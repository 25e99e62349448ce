use Rattle.std.proofs.Common.{rules, refl}
use Rattle.tp_stream.specs.Takes.{place_of}
use Rattle.tp_stream.proofs.TakesFacts.{end_stops, ends_in, last_too_many}
use Rattle.tp_stream.proofs.input_loop.end_input.Goals as goal

pub returns-in-Ok-clause-all : goal.returns-in-Ok-clause-all
returns-in-Ok-clause-all g c =
    ends_in g.T.LineTaker.answers c.args.limits.bytes c.args.limits.lines _ c.args.line.now _ _ c.requires.open_line (search rules) (search rules) (c.in-Ok.ensures.answered c.args.count)

pub returns-in-Err-clause-stops : goal.returns-in-Err-clause-stops
returns-in-Err-clause-stops g c = λ left left' end.
    end_stops g.T.LineTaker.answers g.T.LineTaker.refuses c.args.limits.bytes c.args.limits.lines left left' _ c.args.line.now _ _ c.in-Err.stop end c.requires.open_line (search rules) c.requires.fits (search rules)
    (c.in-Err.ensures.stops c.args.count)

pub returns-then-count-limits-clause-stops : goal.returns-then-count-limits-clause-stops
returns-then-count-limits-clause-stops g c = λ left left' end.
    last_too_many g.T.LineTaker.answers g.T.LineTaker.refuses c.args.limits.bytes c.args.limits.lines left left' (place_of (g.T.LineTaker.state c.args.taker.now) c.args.count (g.K.Sink.taken c.args.sink.now))
    c.args.line.now (g.T.LineTaker.state c.args.taker.now) (g.K.Sink.taken c.args.sink.now) end c.requires.open_line (search rules) c.requires.fits (search rules) refl
