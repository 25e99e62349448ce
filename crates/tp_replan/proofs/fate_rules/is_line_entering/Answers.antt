-- The plan at the place passes, or does not.
use Rattle.std.proofs.Common.{◌&&◌}
use Rattle.tp_base.proofs.SliceFacts.{All-at}
use Rattle.tp_event_rules.specs.FallBacks.{is_later}
use Rattle.tp_event_rules.specs.LiveStates.{seen}
use Rattle.tp_event_rules.specs.Moments.{is_entering}
use Rattle.tp_replan.proofs.FateFacts.{any-found, none-next}
use Rattle.tp_replan.specs.Meanings.{IsKnown}
use Rattle.tp_replan.proofs.fate_rules.is_line_entering.Goals as goal

pub returns-then-is_later_entering : goal.returns-then-is_later_entering
returns-then-is_later_entering c =
    let s = seen c.args.state.now in
    any-found (λ p. is_later s c.args.copy p && is_entering s.now p) s.plans c.loop-at.at c.plan_at.result.now
    c.plan_at.ensures.plan c.if-is_later_entering.ensures

pub loop-at-preserved : goal.loop-at-preserved
loop-at-preserved c =
    let s = seen c.args.state.now in
    none-next (λ p. is_later s c.args.copy p && is_entering s.now p) s.plans c.loop-at.at c.plan_at.result.now
    c.plan_at.ensures.plan c.if-is_later_entering.ensures c.loop-at.invariant

pub is_later_entering-requires-clause-known : goal.is_later_entering-requires-clause-known
is_later_entering-requires-clause-known c =
    All-at (IsKnown c.args.state.now.lines.jobs) c.args.state.now.schedule.plans c.loop-at.at c.plan_at.result.now c.requires.known c.plan_at.ensures.plan
