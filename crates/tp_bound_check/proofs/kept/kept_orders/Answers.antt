use Rattle.std.proofs.Common.{◌∙◌, ◌+◌, sym, subst}
use Rattle.tp_bound_check.specs.Stands.{AreOrdersTo}
use Rattle.tp_bound_check.proofs.KeptFacts.{orders-more}
use Rattle.tp_bound_check.proofs.kept.kept_orders.Goals as goal

pub resources-preserved : goal.resources-preserved
resources-preserved c =
    let m = c.args.machine.now in let ps = c.args.plans.now in
    subst (AreOrdersTo m ps (c.resources.at + 1)) (sym c.in_ok-push.ensures.items) (orders-more m ps c.resources.at c.resources.orders.items c.in_ok-new.field-0 c.resources.invariant (c.in_ok-new.ensures ∙ c.in_ok-slots.ensures))
