-- Each line of a log is read back as it is, and counted once.
use Rattle.std.proofs.Common.{[], Err, refl, sym, subst, ◌∙◌}
use Rattle.tp_words.proofs.Texts.{nothing_left}
use Rattle.tp_log.specs.LogLines.{ReadsLogLine}
use Rattle.tp_soak.proofs.CountedLines.{is-some, read-all, read-more, read-none}
use Rattle.tp_soak.proofs.case_run.count_text.Goals as goal

pub lines-init : goal.lines-init
lines-init c = record { read = λ items log is. read-none items log c.args.text.now c.none-counts.result c.none-counts.ensures is }

pub lines-preserved : goal.lines-preserved
lines-preserved c = record {
  read = λ items log is.
      read-more items log c.args.text.now c.lines.rest.now c.first_line.result.0.now c.first_line.result.1.now c.lines.counts c.with-counts.result c.in-Ok.told
      (c.lines.invariant.read items log is) c.first_line.ensures.lines c.first_line.ensures.whole c.first_line.ensures.shorter c.in-Ok.ensures.0 c.in-Ok.ensures.1 c.with-counts.ensures;
}

pub unreachable-requires : goal.unreachable-requires
unreachable-requires c =
    let (items, log, is) = c.requires in
    let none = subst (λ fault. ReadsLogLine c.first_line.result.0.now (Err fault)) c.in-Err-Syntax.field-0-is c.in-Err-Syntax.ensures in
    let (told, (known, line)) = is-some items log c.args.text.now c.lines.rest.now c.first_line.result.0.now c.first_line.result.1.now c.lines.counts (c.lines.invariant.read items log is)
    c.first_line.ensures.lines c.first_line.ensures.whole in
    none told known line

pub returns : goal.returns
returns c = λ items log is.
    let none = nothing_left c.lines.rest.now [] c.lines.rest.now refl (sym c.is_empty.ensures ∙ c.lines-test.false) in
    read-all items log c.args.text.now c.lines.rest.now c.lines.counts (c.lines.invariant.read items log is) none
