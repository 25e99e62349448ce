use Rattle.tp_bound_check.specs.Stands.{AreOrdersTo}
use Rattle.tp_bound_check.proofs.kept.kept_orders.Given as goal

abbrev pub invariant-resources : goal.invariant-resources
invariant-resources l = AreOrdersTo l.machine l.plans l.at l.orders.items
