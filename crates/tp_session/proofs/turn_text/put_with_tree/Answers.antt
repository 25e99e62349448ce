-- One tree stands behind the record.
use Rattle.std.proofs.Common.{◌≡◌, All, map, take, sym, ap, ◌∙◌, subst}
use Rattle.std.specs.Prelude.{OnOk, if◌then◌else◌}
use Rattle.tp_log.specs.Logs.{IsItem}
use Rattle.tp_log.specs.declared.item.Item.TheVariants as item
use Rattle.tp_run_laws.specs.Runs.{trees_behind}
use Rattle.tp_session.proofs.turn_text.put_with_tree.Goals as goal

pub returns-then-takes_tree-clause-spelled : goal.returns-then-takes_tree-clause-spelled
returns-then-takes_tree-clause-spelled c =
    let one : trees_behind c.args.before c.args.rec.now c.args.more.now ≡ 1 = c.takes_tree.ensures ∙ ap (λ b. if b then 1 else 0) c.if-takes_tree.true in
    subst (λ n. OnOk c.put_first.result (All IsItem (map (λ t. item.Tree t) (take n c.args.trees.now)))) (sym one) c.put_first.ensures.spelled
