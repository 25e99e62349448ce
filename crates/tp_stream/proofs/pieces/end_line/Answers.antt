use Rattle.std.proofs.Common.{rules, arith, refl}
use Rattle.tp_stream.specs.Takes.{place_of}
use Rattle.tp_stream.proofs.TakesFacts.{body_too_long, one_too_many, stops_here}
use Rattle.tp_stream.proofs.pieces.end_line.Goals as goal

pub returns-then-body-limits-clause-stops : goal.returns-then-body-limits-clause-stops
returns-then-body-limits-clause-stops g c = λ left left' more.
    (body_too_long c.args.limits.bytes c.args.line.now.items c.args.body.now more c.requires.under_way.open_line c.requires.body (omega (arith, c.if-body-limits.true, c.len.ensures)), refl, refl)

pub returns-in-Err-clause-stops : goal.returns-in-Err-clause-stops
returns-in-Err-clause-stops g c = λ left left' more.
    stops_here g.T.LineTaker.answers g.T.LineTaker.refuses c.args.limits.bytes c.args.limits.lines left left' _ c.args.line.now.items c.args.body.now more _ _ _ c.in-Err.stop c.requires.under_way.open_line c.requires.body
    (search rules) (search rules) (search rules) (c.in-Err.ensures.stops c.args.count.now)

pub returns-then-count-limits-clause-stops : goal.returns-then-count-limits-clause-stops
returns-then-count-limits-clause-stops g c = λ left left' more.
    one_too_many g.T.LineTaker.answers g.T.LineTaker.refuses c.args.limits.bytes c.args.limits.lines left left' (place_of (g.T.LineTaker.state c.args.taker.now) c.args.count.now (g.K.Sink.taken c.args.sink.now))
    c.args.line.now.items c.args.body.now more (g.T.LineTaker.state c.args.taker.now) (g.K.Sink.taken c.args.sink.now) c.requires.under_way.open_line c.requires.body (search rules) (search rules) refl
