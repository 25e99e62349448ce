use Rattle.std.proofs.Common.{◌≡◌, ◌≢◌, ◌+◌, ◌<◌, ◌^◌, ◌++◌, ◌∷◌, [], Err, List, ℕ, length, ap, sym, subst, ◌∙◌, arith, length-append}
use Rattle.std.specs.Bool.{MatchBool}
use Rattle.std.specs.List.{All}
use Rattle.std.proofs.lemmas.List.Elements.{All-tail}
use Rattle.tp_words.specs.Texts.{lines_of}
use Rattle.tp_words.proofs.Texts.{nothing_left}
use Rattle.tp_log.specs.declared.gathered.Gathered.{Gathered}
use Rattle.tp_log.specs.declared.log_line.LogLine.{LogLine}
use Rattle.tp_log.specs.GatheredItems.{IsGathered, closed, lines_so_far}
use Rattle.tp_log.specs.LogLines.{AreInOrder, ReadsLogLine}
use Rattle.tp_log.specs.Logs.{IsLog, log_text}
use Rattle.tp_log.proofs.GatherFacts.{closed-text, closed_log}
use Rattle.tp_log.proofs.LogFacts.{fault_printed, off_here, one_log, read_bad, text_more}
use Rattle.tp_log.proofs.LogLines.{text_of}
use Rattle.tp_log.proofs.log_reader.read_log.Goals as goal

abbrev IsShort : List ℕ → Type 0
IsShort line = length line + 1 < 2 ^ 32

-- what a line that stands adds, and that one that doesn't stand is out of order
abbrev Adds : Gathered → Gathered → LogLine → Type 0
Adds old new told = lines_so_far new ≡ lines_so_far old ++ told ∷ []

abbrev IsOut : Gathered → LogLine → Type 0
IsOut old told = AreInOrder (lines_so_far old ++ told ∷ []) → ⊥

pub returns-in-Err-Syntax-clause-bad : goal.returns-in-Err-Syntax-clause-bad
returns-in-Err-Syntax-clause-bad c =
    let g = c.lines.gathered in
    let none = subst (λ fault. ReadsLogLine c.first_line.result.0.now (Err fault)) c.in-Err-Syntax.field-0-is c.in-Err-Syntax.ensures in
    read_bad g.items.items g.tree g.next c.lines.invariant.gathered c.args.text.now c.lines.rest.now c.first_line.result.0.now c.first_line.result.1.now c.lines.number c.lines.invariant.count c.lines.invariant.whole c.first_line.ensures.lines
    (λ told is order. none told is)

pub returns-in-Err-Syntax-clause-printed : goal.returns-in-Err-Syntax-clause-printed
returns-in-Err-Syntax-clause-printed c =
    let g = c.lines.gathered in
    let none = subst (λ fault. ReadsLogLine c.first_line.result.0.now (Err fault)) c.in-Err-Syntax.field-0-is c.in-Err-Syntax.ensures in
    fault_printed c.args.text.now _ (read_bad g.items.items g.tree g.next c.lines.invariant.gathered c.args.text.now c.lines.rest.now c.first_line.result.0.now c.first_line.result.1.now c.lines.number c.lines.invariant.count c.lines.invariant.whole c.first_line.ensures.lines
    (λ told is order. none told is))

pub returns-then-not-branch-clause-bad : goal.returns-then-not-branch-clause-bad
returns-then-not-branch-clause-bad c =
    let g = c.lines.gathered in
    let out = subst (λ stands. MatchBool stands (Adds g c.add.new.self c.in-Ok.told) (IsOut g c.in-Ok.told)) c.if-not-branch.true c.in_ok-add-in-Ok.ensures.lines in
    read_bad g.items.items g.tree g.next c.lines.invariant.gathered c.args.text.now c.lines.rest.now c.first_line.result.0.now c.first_line.result.1.now c.lines.number c.lines.invariant.count c.lines.invariant.whole c.first_line.ensures.lines
    (off_here (lines_so_far g) c.in-Ok.told c.first_line.result.0.now c.in-Ok.ensures.0 c.in-Ok.ensures.1 out)

pub returns-then-not-branch-clause-printed : goal.returns-then-not-branch-clause-printed
returns-then-not-branch-clause-printed c =
    let g = c.lines.gathered in
    let out = subst (λ stands. MatchBool stands (Adds g c.add.new.self c.in-Ok.told) (IsOut g c.in-Ok.told)) c.if-not-branch.true c.in_ok-add-in-Ok.ensures.lines in
    fault_printed c.args.text.now _ (read_bad g.items.items g.tree g.next c.lines.invariant.gathered c.args.text.now c.lines.rest.now c.first_line.result.0.now c.first_line.result.1.now c.lines.number c.lines.invariant.count c.lines.invariant.whole c.first_line.ensures.lines
    (off_here (lines_so_far g) c.in-Ok.told c.first_line.result.0.now c.in-Ok.ensures.0 c.in-Ok.ensures.1 out))

pub lines-preserved : goal.lines-preserved
lines-preserved c =
    let g = c.lines.gathered in
    let first = c.first_line.result.0.now in
    let more = c.first_line.result.1.now in
    let adds = subst (λ stands. MatchBool stands (Adds g c.add.new.self c.in-Ok.told) (IsOut g c.in-Ok.told)) c.if-not-branch.false c.in_ok-add-in-Ok.ensures.lines in
    record {
      gathered = subst (λ stands. MatchBool stands (IsGathered c.add.new.self) (Unit {0})) c.if-not-branch.false c.in_ok-add-in-Ok.ensures.gathered;
      whole = subst (λ lines. c.args.text.now ≡ text_of lines ++ more) (sym adds) (text_more (lines_so_far g) c.in-Ok.told c.args.text.now c.lines.rest.now first more c.lines.invariant.whole c.first_line.ensures.whole c.in-Ok.ensures.1);
      count = (let many = ap length adds in omega (arith, many, c.lines.invariant.count, length-append (lines_so_far g) (c.in-Ok.told ∷ [])));
      room = omega (arith, c.lines.invariant.room, c.first_line.ensures.shorter);
      long = All-tail IsShort first (lines_of more) (subst (All IsShort) c.first_line.ensures.lines c.lines.invariant.long);
    }

pub returns-clause-read : goal.returns-clause-read
returns-clause-read c =
    let g = c.lines.gathered in
    let whole = nothing_left c.args.text.now (text_of (lines_so_far g)) c.lines.rest.now c.lines.invariant.whole (sym c.is_empty.ensures ∙ c.lines-test.false) in
    subst (λ items. IsLog items × (c.args.text.now ≡ log_text items)) (sym c.in_ok-finish.ensures)
    (closed_log g.items.items g.tree g.next c.lines.invariant.gathered, whole ∙ sym (closed-text g.items.items g.tree))

pub returns-clause-printed : goal.returns-clause-printed
returns-clause-printed c = λ items log is.
    let g = c.lines.gathered in
    let whole = nothing_left c.args.text.now (text_of (lines_so_far g)) c.lines.rest.now c.lines.invariant.whole (sym c.is_empty.ensures ∙ c.lines-test.false) in
    c.in_ok-finish.ensures ∙ one_log (closed g.items.items g.tree) items (closed_log g.items.items g.tree g.next c.lines.invariant.gathered) log (closed-text g.items.items g.tree ∙ sym whole ∙ is)
