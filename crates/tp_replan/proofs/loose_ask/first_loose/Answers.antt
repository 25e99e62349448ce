-- The plan at the place is the first one, or is not.
use Rattle.std.proofs.Common.{sym, ◌∙◌}
use Rattle.std.proofs.lemmas.Option.{slice_get_within}
use Rattle.tp_event_rules.specs.LiveStates.{seen}
use Rattle.tp_event_rules.specs.Loops.{is_loose}
use Rattle.tp_replan.proofs.FindFacts.{find-here, find-next}
use Rattle.tp_replan.proofs.loose_ask.first_loose.Goals as goal

pub returns-then-is_loose : goal.returns-then-is_loose
returns-then-is_loose c =
    let plans = c.args.state.now.schedule.plans in (
      slice_get_within plans c.loop-at.at c.plan_at.result.now c.plan_at.ensures.plan,
      find-here (is_loose (seen c.args.state.now)) plans c.loop-at.at c.plan_at.result.now c.plan_at.ensures.plan
          c.if-is_loose.ensures c.loop-at.invariant ∙ sym c.plan_at.ensures.plan,
    )

pub loop-at-preserved : goal.loop-at-preserved
loop-at-preserved c =
    find-next (is_loose (seen c.args.state.now)) c.args.state.now.schedule.plans c.loop-at.at c.plan_at.result.now
    c.plan_at.ensures.plan c.if-is_loose.ensures c.loop-at.invariant
