use Rattle.tp_snapshot_rules.proofs.Neighbours.{AreSo}
use Rattle.tp_snapshot_rules.specs.Rules.{HasCome}
use Rattle.tp_snapshot_rules.proofs.schedule.have_all_come.Given as goal

abbrev pub invariant-loop-plan : goal.invariant-loop-plan
invariant-loop-plan l = AreSo (HasCome l.fn.machine l.fn.standing) l.fn.plans l.plan-index
