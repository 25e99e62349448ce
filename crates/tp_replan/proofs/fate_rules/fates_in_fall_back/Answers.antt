-- One fate more is that of the plan at the place.
use Rattle.tp_base.proofs.SliceFacts.{All-at}
use Rattle.tp_event_rules.specs.FallBacks.{fate_in_fall_back}
use Rattle.tp_event_rules.specs.LiveStates.{seen}
use Rattle.tp_replan.proofs.FateFacts.{fate-next}
use Rattle.tp_replan.specs.Meanings.{IsKnown}
use Rattle.tp_replan.proofs.fate_rules.fates_in_fall_back.Goals as goal

pub loop-at-preserved : goal.loop-at-preserved
loop-at-preserved c =
    fate-next (fate_in_fall_back (seen c.args.state.now) c.args.copy) c.args.state.now.schedule.plans c.loop-at.at
    c.plan_at.result.now c.fate_in_fall_back-fate.result c.loop-at.fates.items c.push.new.self.items c.plan_at.ensures.plan
    c.fate_in_fall_back-fate.ensures c.loop-at.invariant c.in_ok-push.ensures.items

pub fate_in_fall_back-fate-requires-clause-known : goal.fate_in_fall_back-fate-requires-clause-known
fate_in_fall_back-fate-requires-clause-known c =
    All-at (IsKnown c.args.state.now.lines.jobs) c.args.state.now.schedule.plans c.loop-at.at c.plan_at.result.now c.requires.known c.plan_at.ensures.plan
