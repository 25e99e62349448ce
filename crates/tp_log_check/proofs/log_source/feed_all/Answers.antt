-- All lines were taken, or the first ones.
use Rattle.std.proofs.Common.{◌≡◌, subst, ◌∙◌}
use Rattle.tp_stream.specs.declared.stop.Stop.TheVariants as stop
use Rattle.tp_log_check.specs.Ends.{StopsFor}
use Rattle.tp_log_check.specs.TakenLines.{LogState}
use Rattle.tp_log_check.specs.declared.checked.Checked.{Checked}
use Rattle.tp_log_check.proofs.FedInTurn.{sizes-kept, taken-all}
use Rattle.tp_log_check.proofs.StopCauses.{stops-from, stops-so}
use Rattle.tp_log_check.proofs.log_source.feed_all.Goals as goal

abbrev state : Checked → LogState
state s = record { checker = s.checker; bytes = s.bytes; found = s.found }

pub returns-in-Ok-clause-taken : goal.returns-in-Ok-clause-taken
returns-in-Ok-clause-taken g c =
    let (text, read, takes) = c.in-Ok.ensures.all in
    let s = state c.args.checked.now in
    let s' = state c.stream.new.taker in
    let taken = taken-all s s' text (record { fresh = c.requires.fresh; bytes = c.requires.none }) takes in
    (text, read, sizes-kept s s' text s.checker.machine takes taken, taken.same_machine, taken.by)

pub returns-in-Err-Source-clause-stops : goal.returns-in-Err-Source-clause-stops
returns-in-Err-Source-clause-stops g c =
    let (text, read, stops) = rw c.in-Err-Source.field-0-is at c.in-Err-Source.ensures.stops in
    (text, read, stops-so (g.S.Source.left c.args.source.now) (g.S.Source.left c.stream.new.source) (state c.args.checked.now) (state c.stream.new.taker) text stop.Source (record { fresh = c.requires.fresh; bytes = c.requires.none }) stops)

pub returns-in-Err-Line-clause-stops : goal.returns-in-Err-Line-clause-stops
returns-in-Err-Line-clause-stops g c =
    let (text, read, stops) = rw c.in-Err-Line.field-0-is at c.in-Err-Line.ensures.stops in
    (text, read, stops-so (g.S.Source.left c.args.source.now) (g.S.Source.left c.stream.new.source) (state c.args.checked.now) (state c.stream.new.taker) text (stop.Line c.in-Err-Line.n) (record { fresh = c.requires.fresh; bytes = c.requires.none }) stops)

pub returns-in-Some-clause-stops : goal.returns-in-Some-clause-stops
returns-in-Some-clause-stops g c =
    let (text, read, stops) = rw c.in-Err-Sink.field-0-is at c.in-Err-Sink.ensures.stops in
    let (cause, found, why) = stops-so (g.S.Source.left c.args.source.now) (g.S.Source.left c.stream.new.source) (state c.args.checked.now) (state c.stream.new.taker) text stop.Sink (record { fresh = c.requires.fresh; bytes = c.requires.none }) stops in
    let is = c.in-Some.is in
    let same : cause ≡ c.in-Some.cause = cc in
    stops-from c.args.checked.now.checker.machine _ _ c.in-Some.cause text read (subst (StopsFor c.args.checked.now.checker.machine _ _ text) same why)

pub unreachable-requires-in-Err-Refused : goal.unreachable-requires-in-Err-Refused
unreachable-requires-in-Err-Refused g c =
    let (text, read, stops) = rw c.in-Err-Refused.field-0-is at c.in-Err-Refused.ensures.stops in
    stops-so (g.S.Source.left c.args.source.now) (g.S.Source.left c.stream.new.source) (state c.args.checked.now) (state c.stream.new.taker) text stop.Refused (record { fresh = c.requires.fresh; bytes = c.requires.none }) stops

pub unreachable-requires-in-Err-Lines : goal.unreachable-requires-in-Err-Lines
unreachable-requires-in-Err-Lines g c =
    let (text, read, stops) = rw c.in-Err-Lines.field-0-is at c.in-Err-Lines.ensures.stops in
    stops-so (g.S.Source.left c.args.source.now) (g.S.Source.left c.stream.new.source) (state c.args.checked.now) (state c.stream.new.taker) text stop.Lines (record { fresh = c.requires.fresh; bytes = c.requires.none }) stops
