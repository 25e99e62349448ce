use Rattle.tp_snapshot_rules.proofs.Neighbours.{AreSo}
use Rattle.tp_snapshot_rules.specs.Rules.{IsOnItsWay}
use Rattle.tp_snapshot_rules.proofs.courses.are_all.Given as goal

abbrev pub invariant-loop-plan : goal.invariant-loop-plan
invariant-loop-plan l = AreSo (IsOnItsWay l.fn.machine l.fn.now) l.fn.plans l.plan-index
