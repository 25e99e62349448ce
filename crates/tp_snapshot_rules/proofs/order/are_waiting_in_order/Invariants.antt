use Rattle.tp_snapshot_rules.proofs.Neighbours.{AreNext}
use Rattle.tp_snapshot_rules.specs.Rules.{WaitsBefore}
use Rattle.tp_snapshot_rules.proofs.order.are_waiting_in_order.Given as goal

abbrev pub invariant-waiting : goal.invariant-waiting
invariant-waiting l = AreNext WaitsBefore l.at l.waiting
