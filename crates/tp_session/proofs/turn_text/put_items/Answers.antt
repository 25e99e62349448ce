-- The next record is written with its tree, and the others are still to come.
use Rattle.std.proofs.Common.{◌≡◌, ◌++◌, ◌∷◌, All, sym, ap, subst, ◌∙◌, append_assoc}
use Rattle.std.proofs.lemmas.List.Elements.{All-drop, All-head, All-tail}
use Rattle.tp_bounds.specs.Trees.{IsPrintable}
use Rattle.tp_log.specs.Grammar.{IsRecord}
use Rattle.tp_session.proofs.ToldText.{first-and-more, spelled-next, told-next}
use Rattle.tp_session.proofs.turn_text.put_items.Goals as goal

pub records-preserved : goal.records-preserved
records-preserved c =
    let told = c.in-Some.rec.now in
    let more = c.in-Some.more.now in
    let rest = c.records.rest.now in
    let trees = c.records.left.now in
    let trees' = c.in_ok-left.left.now in
    let before = c.records.of_plan in
    let before' = c.is_of_plan-of_plan.result in
    let is : rest ≡ told ∷ more = first-and-more rest told more c.in-Some.ensures.first c.in-Some.ensures.more in
    let lines = subst (All IsRecord) is c.records.invariant.lines in
    let of_plan = c.is_of_plan-of_plan.ensures in
    let left = c.in_ok-left.ensures.left in
    let grown = c.records.invariant.grows in
    let grows = c.put_with_tree.ensures.grows in
    record {
      told = told-next before before' told rest more trees trees' is of_plan left c.records.out.items c.put_with_tree.new.out.items _ c.in_ok-left.ensures.told c.records.invariant.told;
      spelled = λ later. c.records.invariant.spelled (spelled-next before before' told rest more trees trees' is of_plan left (All-head IsRecord told more lines) c.in_ok-left.ensures.spelled later);
      lines = All-tail IsRecord told more lines;
      printable = subst (All IsPrintable) (sym left) (All-drop IsPrintable _ trees c.records.invariant.printable);
      grows = (grown.0 ++ grows.0, grows.1 ∙ ap (λ o. o ++ grows.0) grown.1 ∙ append_assoc c.args.out.now.items grown.0 grows.0);
    }
