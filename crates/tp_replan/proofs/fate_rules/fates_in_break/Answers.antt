-- One fate more is that of the plan at the place.
use Rattle.tp_event_rules.specs.FallBacks.{fate_in_break}
use Rattle.tp_event_rules.specs.LiveStates.{seen}
use Rattle.tp_replan.proofs.FateFacts.{fate-next}
use Rattle.tp_replan.proofs.fate_rules.fates_in_break.Goals as goal

pub loop-at-preserved : goal.loop-at-preserved
loop-at-preserved c =
    fate-next (fate_in_break (seen c.args.state.now) c.args.job) c.args.state.now.schedule.plans c.loop-at.at
    c.plan_at.result.now c.fate_in_break.result c.loop-at.fates.items c.push.new.self.items c.plan_at.ensures.plan
    c.fate_in_break.ensures c.loop-at.invariant c.in_ok-push.ensures.items
