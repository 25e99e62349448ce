-- The first item that is off.
use Rattle.std.proofs.Common.{arith, refl, sym, subst}
use Rattle.tp_log_check.specs.FirstDifference.{IsOffAt}
use Rattle.tp_log_check.proofs.PartingFacts.{only-parting, only-tree, parting-first, tree-first}
use Rattle.tp_log_check.proofs.judgement.judge_done.Goals as goal

pub returns-in-Some-find_tree-clause-due : goal.returns-in-Some-find_tree-clause-due
returns-in-Some-find_tree-clause-due c = (
  c.due.ensures.reason,
  subst (IsOffAt c.args.notes.now c.args.items.now c.args.at) (sym c.due.ensures.item)
      (only-tree c.args.notes.now c.args.items.now c.args.at c.in-Some-find_tree.tree c.in-Some-find_tree.ensures.first (c.in-None.ensures.same.0 refl)),
)

pub returns-in-None-find_tree-2-clause-due : goal.returns-in-None-find_tree-2-clause-due
returns-in-None-find_tree-2-clause-due c = (
  c.due-in-None-find_tree-2.ensures.reason,
  subst (IsOffAt c.args.notes.now c.args.items.now c.args.at) (sym c.due-in-None-find_tree-2.ensures.item)
      (only-parting c.args.notes.now c.args.items.now c.args.at c.in-Some.item c.in-Some.ensures.parts (c.in-None-find_tree-2.ensures.none.0 refl)),
)

pub returns-then-tree-item-clause-due : goal.returns-then-tree-item-clause-due
returns-then-tree-item-clause-due c = (
  c.due-then-tree-item.ensures.reason,
  subst (IsOffAt c.args.notes.now c.args.items.now c.args.at) (sym c.due-then-tree-item.ensures.item)
      (let less = c.if-tree-item.true in tree-first c.args.notes.now c.args.items.now c.args.at c.in-Some.item c.in-Some-find_tree-2.tree c.in-Some.ensures.parts c.in-Some-find_tree-2.ensures.first (omega (arith, less))),
)

pub returns-else-tree-item-clause-due : goal.returns-else-tree-item-clause-due
returns-else-tree-item-clause-due c = (
  c.due-else-tree-item.ensures.reason,
  subst (IsOffAt c.args.notes.now c.args.items.now c.args.at) (sym c.due-else-tree-item.ensures.item)
      (let less = c.if-tree-item.false in parting-first c.args.notes.now c.args.items.now c.args.at c.in-Some.item c.in-Some-find_tree-2.tree c.in-Some.ensures.parts c.in-Some-find_tree-2.ensures.first (omega (arith, less))),
)
