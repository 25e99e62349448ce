use Rattle.tp_schedule.specs.Plans.{IsEarlier}
use Rattle.tp_snapshot_rules.proofs.Neighbours.{AreNext}
use Rattle.tp_snapshot_rules.proofs.order.are_in_order.Given as goal

abbrev pub invariant-plans : goal.invariant-plans
invariant-plans l = AreNext IsEarlier l.at l.plans
