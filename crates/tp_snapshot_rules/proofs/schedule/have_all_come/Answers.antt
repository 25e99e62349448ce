use Rattle.tp_snapshot_rules.specs.Rules.{HasCome}
use Rattle.tp_snapshot_rules.proofs.Neighbours.{one-more}
use Rattle.tp_snapshot_rules.proofs.schedule.have_all_come.Goals as goal

pub loop-plan-preserved : goal.loop-plan-preserved
loop-plan-preserved c =
    one-more (HasCome c.args.machine.now c.args.standing.now) c.args.plans.now c.loop-plan.plan-index c.plan-item.result c.loop-plan-test.true c.plan-item.is (c.has_come.ensures.0 c.if-not-has_come.false) c.loop-plan.invariant
