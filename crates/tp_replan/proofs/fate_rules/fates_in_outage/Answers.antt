-- One fate more is that of the plan at the place.
use Rattle.tp_event_rules.specs.LiveStates.{seen}
use Rattle.tp_event_rules.specs.Outages.{fate_in_outage}
use Rattle.tp_replan.proofs.FateFacts.{fate-next}
use Rattle.tp_replan.proofs.fate_rules.fates_in_outage.Goals as goal

pub loop-at-preserved : goal.loop-at-preserved
loop-at-preserved c =
    fate-next (fate_in_outage c.args.machine.now c.args.event.module.0 c.args.event.jammed (seen c.args.state.now))
    c.args.state.now.schedule.plans c.loop-at.at c.plan_at-plan.result.now c.fate_in_outage.result c.loop-at.fates.items
    c.push.new.self.items c.plan_at-plan.ensures.plan c.fate_in_outage.ensures c.loop-at.invariant c.in_ok-push.ensures.items
