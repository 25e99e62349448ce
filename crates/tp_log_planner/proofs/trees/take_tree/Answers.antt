-- The first item is looked at.
use Rattle.tp_log_planner.specs.DueTrees.{BeginsWithTree, IsTreeItem}
use Rattle.std.proofs.Common.{[], ◌∷◌, length, rules}
use Rattle.tp_log_planner.specs.Reasons.{IsTreeReason}
use Rattle.tp_log_planner.proofs.ReasonFacts.{first-reason, from-stop, stop-from}
use Rattle.tp_log_planner.proofs.TreeFacts.{denies-from, denies-like, first-tree, tree-first}
use Rattle.tp_log_planner.proofs.trees.take_tree.Goals as goal

pub returns-in-Ok-clause-shown : goal.returns-in-Ok-clause-shown
returns-in-Ok-clause-shown c =
    first-tree c.args.machine.now c.args.before.now.plans c.args.ask.now c.args.claim c.args.items.now c.item-item.result c.in-len1-up.len_at_least c.item-item.is c.in-Ok.ensures.shown

pub returns-in-Err-clause-refused : goal.returns-in-Err-clause-refused
returns-in-Err-clause-refused c =
    denies-like (BeginsWithTree c.args.machine.now c.args.before.now.plans c.args.ask.now c.args.claim c.args.items.now) c.in-Err.failure c.from.result c.from.ensures.stops
    (denies-from (IsTreeItem c.args.machine.now c.args.before.now.plans c.args.ask.now c.args.claim c.item-item.result) (BeginsWithTree c.args.machine.now c.args.before.now.plans c.args.ask.now c.args.claim c.args.items.now)
    c.in-Err.failure (tree-first c.args.machine.now c.args.before.now.plans c.args.ask.now c.args.claim c.args.items.now c.item-item.result c.in-len1-up.len_at_least c.item-item.is) c.in-Err.ensures.refused)

pub returns-in-Err-clause-why : goal.returns-in-Err-clause-why
returns-in-Err-clause-why c =
    let m = c.args.machine.now in
    let plans = c.args.before.now.plans in
    let ask = c.args.ask.now in
    let P = IsTreeReason m plans ask c.args.claim c.args.items.now in
    from-stop (length c.args.items.now) P c.in-Err.failure c.from.result c.from.ensures.stops (search rules)
    (stop-from (λ n. IsTreeReason m plans ask c.args.claim (c.item-item.result ∷ [])) (λ n. P) c.in-Err.failure
    (λ n. first-reason m plans ask c.args.claim c.args.items.now c.item-item.result c.in-len1-up.len_at_least c.item-item.is) c.in-Err.ensures.why)
