use Rattle.tp_snapshot_rules.proofs.Neighbours.{AreNext, IsOfOther}
use Rattle.tp_snapshot_rules.proofs.order.are_waiting_apart.Given as goal

abbrev pub invariant-waiting : goal.invariant-waiting
invariant-waiting l = AreNext IsOfOther l.at l.waiting
