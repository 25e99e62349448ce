use Rattle.std.proofs.Common.{rules, [], ◌++◌, take, refl}
use Rattle.tp_outside.proofs.Parts.{IsCounted-more}
use Rattle.tp_stream.specs.Takes.{place_of}
use Rattle.tp_stream.proofs.TakesFacts.{at_end, fewer_bytes, goes_on, read_end, read_more, read_none, some_taken, stops_then, takes_all, takes_more, takes_none, takes_then}
use Rattle.tp_stream.proofs.input_loop.stream.Goals as goal

pub chunks-init : goal.chunks-init
chunks-init g c = record {
  so_far = ([], read_none _, rw c.new-line.ensures.items (takes_none g.T.LineTaker.answers c.args.limits.bytes _ []));
  under_way = record {
    bytes = c.requires.bytes;
    lines = c.requires.lines;
    open_line = search rules;
    fits = search rules;
    few = search rules;
    room_left = search rules;
    clear = search rules;
  };
  source_counted = search rules;
  sink_counted = search rules;
}

pub returns-in-Err-clause-stops : goal.returns-in-Err-clause-stops
returns-in-Err-clause-stops g c =
    let (bytes, read, takes) = c.chunks.invariant.so_far in (
      bytes,
      rw c.in-Err.ensures.kept read,
      record {
        rest = c.chunks.line.items;
        at = place_of (g.T.LineTaker.state c.chunks.taker) c.chunks.count (g.K.Sink.taken c.chunks.sink);
        takes = takes;
        few = c.chunks.invariant.under_way.few;
        stops = (c.chunks.invariant.under_way.open_line, refl);
      },
    )

pub returns-in-Ok-end_input-clause-all : goal.returns-in-Ok-end_input-clause-all
returns-in-Ok-end_input-clause-all g c =
    let (bytes, read, takes) = c.chunks.invariant.so_far in (
      bytes,
      read_end _ _ _ bytes c.read.new.into c.in-Ok.n (search rules) (search rules) read c.in-Ok.ensures.given,
      takes_all g.T.LineTaker.answers c.args.limits.bytes c.args.limits.lines _ _ bytes c.chunks.line.items _ _ takes c.chunks.invariant.under_way.open_line c.chunks.invariant.under_way.fits
          (rw c.deref.ensures.value at c.in-Ok-end_input.ensures.all),
    )

pub returns-in-Err-end_input-clause-stops : goal.returns-in-Err-end_input-clause-stops
returns-in-Err-end_input-clause-stops g c =
    let (bytes, read, takes) = c.chunks.invariant.so_far in (
      bytes,
      read_end _ _ _ bytes c.read.new.into c.in-Ok.n (search rules) (search rules) read c.in-Ok.ensures.given,
      record {
        rest = c.chunks.line.items;
        at = place_of (g.T.LineTaker.state c.chunks.taker) c.chunks.count (g.K.Sink.taken c.chunks.sink);
        takes = takes;
        few = c.chunks.invariant.under_way.few;
        stops = rw c.deref.ensures.value at c.in-Err-end_input.ensures.stops _ _
            (at_end _ _ _ bytes c.read.new.into c.in-Ok.n (search rules) (search rules) read c.in-Ok.ensures.given);
      },
    )

pub chunks-smaller : goal.chunks-smaller
chunks-smaller g c =
    fewer_bytes c.args.limits.lines c.args.limits.bytes c.chunks.count c.take_chunk.new.count _ _ c.in-Ok-take_chunk.ensures.under_way.few c.in-Ok-take_chunk.ensures.under_way.fits
    (goes_on g.T.LineTaker.answers c.args.limits.bytes _ _ c.chunks.line.items _ _ c.in-Ok-take_chunk.ensures.takes (some_taken c.in-Ok.n c.read.new.into c.if-n-eq0.false c.in-Ok.ensures.within))

pub chunks-preserved : goal.chunks-preserved
chunks-preserved g c =
    let (bytes, read, takes) = c.chunks.invariant.so_far in
    record {
      so_far = (
        bytes ++ take c.in-Ok.n c.read.new.into,
        read_more _ _ _ bytes c.read.new.into c.in-Ok.n read c.in-Ok.ensures.given,
        takes_then g.T.LineTaker.answers c.args.limits.bytes _ _ _ _ _ _ (takes_more g.T.LineTaker.answers c.args.limits.bytes _ _ bytes c.chunks.line.items _ takes) c.in-Ok-take_chunk.ensures.takes,
      );
      under_way = c.in-Ok-take_chunk.ensures.under_way;
      source_counted = IsCounted-more _ _ _ c.chunks.invariant.source_counted c.in-Ok.ensures.counted;
      sink_counted = IsCounted-more _ _ _ c.chunks.invariant.sink_counted c.in-Ok-take_chunk.ensures.counted;
    }

pub returns-in-Err-take_chunk-clause-stops : goal.returns-in-Err-take_chunk-clause-stops
returns-in-Err-take_chunk-clause-stops g c =
    let (bytes, read, takes) = c.chunks.invariant.so_far in (
      bytes ++ take c.in-Ok.n c.read.new.into,
      read_more _ _ _ bytes c.read.new.into c.in-Ok.n read c.in-Ok.ensures.given,
      stops_then g.T.LineTaker.answers g.T.LineTaker.refuses c.args.limits.bytes c.args.limits.lines _ _ _ _ bytes c.chunks.line.items _ _ _ _ takes (c.in-Err-take_chunk.ensures.stops _ _),
    )
