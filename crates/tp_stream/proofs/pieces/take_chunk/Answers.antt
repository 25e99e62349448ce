use Rattle.std.proofs.Common.{rules, ◌++◌, ◌∙◌, refl, sym, ap, subst, append_assoc}
use Rattle.tp_words.proofs.PartFacts.{cut_takes}
use Rattle.tp_stream.specs.Takes.{StopsBefore, place_of}
use Rattle.tp_stream.proofs.Lines.{no_cut}
use Rattle.tp_stream.proofs.TakesFacts.{open_stops, takes_line}
use Rattle.tp_stream.proofs.pieces.take_chunk.Goals as goal

pub end_line-requires-clause-body : goal.end_line-requires-clause-body
end_line-requires-clause-body g c = (cut_takes 10 c.pieces.rest.now c.in-Some.body.now c.in-Some.more.now (sym c.in-Some.ensures)).1

pub returns-in-Err-clause-stops : goal.returns-in-Err-clause-stops
returns-in-Err-clause-stops g c = λ left left'.
    let whole = (cut_takes 10 c.pieces.rest.now c.in-Some.body.now c.in-Some.more.now (sym c.in-Some.ensures)).0 in
    record {
      rest = c.pieces.line.items ++ c.pieces.rest.now;
      at = place_of (g.T.LineTaker.state c.pieces.taker) c.pieces.count (g.K.Sink.taken c.pieces.sink);
      takes = c.pieces.invariant.takes;
      few = c.pieces.invariant.under_way.few;
      stops = subst (λ bytes. StopsBefore g.T.LineTaker.answers g.T.LineTaker.refuses c.args.limits.bytes c.args.limits.lines left left' c.in-Err.stop bytes
          (place_of (g.T.LineTaker.state c.pieces.taker) c.pieces.count (g.K.Sink.taken c.pieces.sink)) (g.T.LineTaker.state c.end_line.new.taker) (g.K.Sink.taken c.end_line.new.sink))
          (append_assoc c.pieces.line.items c.in-Some.body.now _ ∙ ap (λ t. c.pieces.line.items ++ t) (sym whole)) (c.in-Err.ensures.stops left left' c.in-Some.more.now);
    }

pub pieces-preserved : goal.pieces-preserved
pieces-preserved g c =
    let cut = cut_takes 10 c.pieces.rest.now c.in-Some.body.now c.in-Some.more.now (sym c.in-Some.ensures) in
    record {
      takes = takes_line g.T.LineTaker.answers c.args.limits.bytes _ _ _ c.pieces.line.items c.pieces.rest.now c.in-Some.body.now c.in-Some.more.now _ _ _ _
          c.pieces.invariant.takes cut.0 c.pieces.invariant.under_way.open_line cut.1 c.in-Ok.ensures.fits c.in-Ok.ensures.answered c.in-Ok.ensures.next c.in-Ok.ensures.empty;
      under_way = c.in-Ok.ensures.under_way;
      counted = search rules;
    }

pub add_open-requires-clause-piece : goal.add_open-requires-clause-piece
add_open-requires-clause-piece g c = no_cut c.pieces.rest.now (sym c.in-None.ensures)

pub returns-in-Err-add_open-clause-stops : goal.returns-in-Err-add_open-clause-stops
returns-in-Err-add_open-clause-stops g c = λ left left'. record {
  rest = c.pieces.line.items ++ c.pieces.rest.now;
  at = place_of (g.T.LineTaker.state c.pieces.taker) c.pieces.count (g.K.Sink.taken c.pieces.sink);
  takes = c.pieces.invariant.takes;
  few = c.pieces.invariant.under_way.few;
  stops = open_stops g.T.LineTaker.answers g.T.LineTaker.refuses c.args.limits.bytes c.args.limits.lines left left' _ _ _ _ c.in-Err-add_open.stop c.in-Err-add_open.ensures.stops refl;
}
