-- The items are gone through one by one, up to a tree.
use Rattle.std.proofs.Common.{◌∙◌, refl, sym}
use Rattle.std.proofs.lemmas.List.{take_rest}
use Rattle.tp_log_check.proofs.PartingFacts.{end-here, has-here, looked-none, pass-here, tree-here}
use Rattle.tp_log_check.proofs.first_difference.find_tree.Goals as goal

pub trees-init : goal.trees-init
trees-init c = looked-none c.args.from c.args.items.now _ (take_rest c.args.items.now c.args.from)

pub trees-preserved : goal.trees-preserved
trees-preserved c =
    rw take_rest (pass-here c.args.from c.args.items.now c.trees.rest.now c.item-item.result c.trees.invariant c.in-len1-up.len_at_least c.item-item.is (sym c.is_tree.ensures ∙ c.if-is_tree.false))

pub returns-then-is_tree-clause-first : goal.returns-then-is_tree-clause-first
returns-then-is_tree-clause-first c =
    tree-here c.args.from c.args.items.now c.trees.rest.now c.item-item.result c.requires c.trees.invariant c.in-len1-up.len_at_least c.item-item.is (sym c.is_tree.ensures ∙ c.if-is_tree.true)

pub returns-then-is_tree-clause-none : goal.returns-then-is_tree-clause-none
returns-then-is_tree-clause-none c = (
  λ e. absurd cc,
  λ e. absurd (has-here c.args.from c.args.items.now c.trees.rest.now c.item-item.result c.trees.invariant c.in-len1-up.len_at_least c.item-item.is (sym c.is_tree.ensures ∙ c.if-is_tree.true) e),
)

pub returns-clause-none : goal.returns-clause-none
returns-clause-none c = (λ e. end-here c.args.from c.args.items.now c.trees.rest.now c.trees.invariant c.in_default.len_below, λ e. refl)
