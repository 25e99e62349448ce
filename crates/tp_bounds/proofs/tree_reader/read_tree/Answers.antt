use Rattle.std.proofs.Common.{◌≡◌, ◌+◌, ◌<◌, ◌^◌, ◌∷◌, [], List, ℕ, Ok, true, eqb, length, refl, sym, ap, subst, ◌∙◌, arith, length-append}
use Rattle.std.specs.List.{All}
use Rattle.std.proofs.lemmas.List.Elements.{All-tail}
use Rattle.tp_bounds.specs.Lines.{IsNode, IsRow}
use Rattle.tp_words.specs.Texts.{lines_of}
use Rattle.tp_bounds.specs.Trees.{ReadsNth, tree_text}
use Rattle.tp_words.proofs.Texts.{nothing_left}
use Rattle.tp_bounds.proofs.TreeFacts.{All-last, empty_off, fault_bad, fault_printed, more_node, more_row, one_tree, tree_of}
use Rattle.tp_bounds.proofs.tree_reader.read_tree.Goals as goal

abbrev IsShort : List ℕ → Type 0
IsShort line = length line + 1 < 2 ^ 32

none_left : (text : List ℕ) → eqb (length text) 0 ≡ true → text ≡ []
none_left text none = nothing_left text [] text refl none

pub returns-then-is_empty-clause-bad : goal.returns-then-is_empty-clause-bad
returns-then-is_empty-clause-bad c = empty_off c.args.text.now (none_left c.args.text.now (sym c.is_empty.ensures ∙ c.if-is_empty.true))

pub returns-then-is_empty-clause-printed : goal.returns-then-is_empty-clause-printed
returns-then-is_empty-clause-printed c = fault_printed c.args.text.now _ (empty_off c.args.text.now (none_left c.args.text.now (sym c.is_empty.ensures ∙ c.if-is_empty.true)))

pub returns-in-Err-clause-bad : goal.returns-in-Err-clause-bad
returns-in-Err-clause-bad c =
    fault_bad (tree_of c.lines.rows c.lines.nodes) c.args.text.now c.lines.rest.now c.first_line.result.0.now c.first_line.result.1.now (c.lines.number + 1) c.len.result c.in-Err.fault (ap (λ n. n + 1) c.lines.invariant.counted) c.len.ensures
    (c.lines.invariant.rows, c.lines.invariant.nodes) c.lines.invariant.whole c.first_line.ensures.lines c.in-Err.ensures

pub returns-in-Err-clause-printed : goal.returns-in-Err-clause-printed
returns-in-Err-clause-printed c =
    fault_printed c.args.text.now c.in-Err.fault (fault_bad (tree_of c.lines.rows c.lines.nodes) c.args.text.now c.lines.rest.now c.first_line.result.0.now c.first_line.result.1.now (c.lines.number + 1) c.len.result c.in-Err.fault (ap (λ n. n + 1) c.lines.invariant.counted) c.len.ensures
    (c.lines.invariant.rows, c.lines.invariant.nodes) c.lines.invariant.whole c.first_line.ensures.lines c.in-Err.ensures)

pub lines-preserved-in_ok-push-in-Ok-Room : goal.lines-preserved-in_ok-push-in-Ok-Room
lines-preserved-in_ok-push-in-Ok-Room c =
    let first = c.first_line.result.0.now in
    let more = c.first_line.result.1.now in
    let told = subst (λ told. ReadsNth c.len.result (c.lines.number + 1) first (Ok told)) c.in-Ok-Room.field-0-is c.in-Ok-Room.ensures in
    let none : length c.lines.nodes ≡ 0 = sym c.len.ensures ∙ told.0.1 in
    rw c.in_ok-push-in-Ok-Room.ensures.ok (record {
      rows = All-last IsRow c.lines.rows c.in-Ok-Room.row c.lines.invariant.rows told.0.0;
      nodes = c.lines.invariant.nodes;
      whole = more_row c.lines.rows c.lines.nodes c.in-Ok-Room.row c.args.text.now c.lines.rest.now first more none c.lines.invariant.whole c.first_line.ensures.whole told.1;
      long = All-tail IsShort first (lines_of more) (subst (All IsShort) c.first_line.ensures.lines c.lines.invariant.long);
      counted = omega (arith, c.lines.invariant.counted, length-append c.lines.rows (c.in-Ok-Room.row ∷ []));
      room = omega (arith, c.lines.invariant.room, c.first_line.ensures.shorter);
    })

pub lines-preserved : goal.lines-preserved
lines-preserved c =
    let first = c.first_line.result.0.now in
    let more = c.first_line.result.1.now in
    let told = subst (λ told. ReadsNth c.len.result (c.lines.number + 1) first (Ok told)) c.in-Ok-Node.field-0-is c.in-Ok-Node.ensures in
    rw c.in_ok-push-in-Ok-Node.ensures.ok (record {
      rows = c.lines.invariant.rows;
      nodes = All-last IsNode c.lines.nodes c.in-Ok-Node.node c.lines.invariant.nodes told.0;
      whole = more_node c.lines.rows c.lines.nodes c.in-Ok-Node.node c.args.text.now c.lines.rest.now first more c.lines.invariant.whole c.first_line.ensures.whole told.1;
      long = All-tail IsShort first (lines_of more) (subst (All IsShort) c.first_line.ensures.lines c.lines.invariant.long);
      counted = omega (arith, c.lines.invariant.counted, length-append c.lines.nodes (c.in-Ok-Node.node ∷ []));
      room = omega (arith, c.lines.invariant.room, c.first_line.ensures.shorter);
    })

pub returns-clause-printed : goal.returns-clause-printed
returns-clause-printed c = λ tree is same.
    one_tree (tree_of c.lines.rows c.lines.nodes) tree (c.lines.invariant.rows, c.lines.invariant.nodes) is.1 (sym (nothing_left c.args.text.now (tree_text (tree_of c.lines.rows c.lines.nodes)) c.lines.rest.now c.lines.invariant.whole (sym c.is_empty-in-lines.ensures ∙ c.lines-test.false)) ∙ same)
