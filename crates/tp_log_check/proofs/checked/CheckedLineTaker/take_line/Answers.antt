-- A line that the checker took is taken.
use Rattle.std.proofs.Common.{◌+◌, sym, subst, ◌∙◌, arith}
use Rattle.tp_log_check.specs.Sizes.{events_in}
use Rattle.tp_log_check.specs.TakenLines.{Answers, LogState, TakesLine}
use Rattle.tp_log_check.proofs.FedInTurn.{events-of, kept-sizes}
use Rattle.tp_log_check.proofs.checked.CheckedLineTaker.take_line.Goals as goal

pub returns-in-Ok-clause-answered : goal.returns-in-Ok-clause-answered
returns-in-Ok-clause-answered c =
    let line = c.args.line.now in
    let before : LogState = record { checker = c.args.self.now.checker; bytes = c.args.self.now.bytes; found = c.args.self.now.found } in
    let after : LogState = record { checker = c.feed.new.self; bytes = c.saturating_add-bytes.result; found = c.args.self.now.found } in
    let kept = kept-sizes c.is_past_sizes.result c.saturating_add-bytes.result (c.events.result + events_in line) c.is_past_sizes.ensures c.if-is_past_sizes.false in
    let few_bytes = kept.0 in
    let few_events = kept.1 in
    let fed = c.in-Ok.ensures.read in
    let counted = c.in-Ok.ensures.events in
    let as_line = events-of line counted.0 counted.1 in
    let more = counted.2 in
    let taken : TakesLine before line after = record {
      sizes = record { bytes = omega (arith, few_bytes, c.saturating_add-bytes.ensures); events = omega (arith, few_events, c.events.ensures) };
      told = fed.0;
      is_line = fed.1;
      text = fed.2;
      reads = fed.3;
      machine = c.feed.ensures.machine;
      bytes = omega (arith, few_bytes, c.saturating_add-bytes.ensures);
      events = omega (arith, more, as_line);
    } in
    subst (λ text. Answers before line text after) (sym c.requires.clear) taken
