-- A flaw of the tree denies that it is one.
use Rattle.std.proofs.Common.{◌≡◌, None, subst, sym}
use Rattle.tp_bound_laws.specs.Claims.{limit_of, live_part}
use Rattle.tp_bound_laws.specs.Flaws.{tree_flaw}
use Rattle.tp_log_planner.specs.Failures.{Denies}
use Rattle.tp_log_planner.specs.DueTrees.{IsTreeItem}
use Rattle.std.proofs.Common.{[], ◌∷◌}
use Rattle.tp_log.specs.declared.item.Item.TheVariants.{Tree as TreeItem}
use Rattle.tp_log_planner.specs.Reasons.{IfStop, IsTreeReason}
use Rattle.tp_log_planner.proofs.ReasonFacts.{flaw-reason}
use Rattle.tp_log_planner.proofs.TreeFacts.{flaw-denies}
use Rattle.tp_log_planner.proofs.trees.check_item.Goals as goal

pub returns-in-Err-clause-refused : goal.returns-in-Err-clause-refused
returns-in-Err-clause-refused c =
    let m = c.args.machine.now in
    let plans = c.args.before.now.plans in
    let ask = c.args.ask.now in
    let P = IsTreeItem m plans ask c.args.claim c.args.item.now in
    subst (Denies P) (sym c.failure_of.ensures)
    (flaw-denies P (tree_flaw m (live_part m ask plans) ask (limit_of m ask c.args.claim) c.in-Tree.tree) c.in-Err.flaw c.in-Err.ensures.flaw
    (λ t. (let same : t.tree ≡ c.in-Tree.tree = let is = c.in-Tree.is in let e = t.is in cc in
    subst (λ x. tree_flaw m (live_part m ask plans) ask (limit_of m ask c.args.claim) x ≡ None) same ((c.flawless_trees_are_bound.ensures m (live_part m ask plans) ask (limit_of m ask c.args.claim) t.tree).0 t.shows))))

pub returns-in-Err-clause-why : goal.returns-in-Err-clause-why
returns-in-Err-clause-why c =
    let m = c.args.machine.now in
    let plans = c.args.before.now.plans in
    let ask = c.args.ask.now in
    let is : c.args.item.now ≡ TreeItem c.in-Tree.tree = let e = c.in-Tree.is in cc in
    subst (IfStop (λ n. IsTreeReason m plans ask c.args.claim (c.args.item.now ∷ []))) (sym c.failure_of.ensures) (flaw-reason m plans ask c.args.claim c.args.item.now c.in-Tree.tree c.in-Err.flaw is c.in-Err.ensures.flaw)
