use Rattle.tp_snapshot_rules.specs.Rules.{IsOnItsWay}
use Rattle.tp_snapshot_rules.proofs.Neighbours.{one-more}
use Rattle.tp_snapshot_rules.proofs.courses.are_all.Goals as goal

pub loop-plan-preserved : goal.loop-plan-preserved
loop-plan-preserved c =
    one-more (IsOnItsWay c.args.machine.now c.args.now) c.args.plans.now c.loop-plan.plan-index c.plan-item.result c.loop-plan-test.true c.plan-item.is (c.is_on_its_way.ensures.0 c.if-not-is_on_its_way.false) c.loop-plan.invariant
