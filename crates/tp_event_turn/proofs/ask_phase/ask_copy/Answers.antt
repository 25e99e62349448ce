-- The plans are plans in time after the answer too, and a new copy had none before.
use Rattle.std.proofs.Common.{◌≡◌, ◌∙◌, All, ap, sym}
use Rattle.tp_schedule.proofs.PlanOrder.{without-none}
use Rattle.tp_schedule.specs.Plans.{IsTimedPlan, without}
use Rattle.tp_event_records.specs.RecordNames.{points_of}
use Rattle.tp_event_turn.proofs.AskFacts.{new-copy, timed-after}
use Rattle.tp_event_turn.proofs.ask_phase.ask_copy.Goals as goal
use Rattle.tp_event_turn.proofs.ask_phase.ask_copy.Goals.{In_ok-before}

-- the plans are in time
timed : (g : _) (c : In_ok-before g) → All (IsTimedPlan c.args.machine.now) c.ask_planner.new.schedule.plans
timed g c =
    timed-after (g.P.Planner.rules.spent c.args.planner.now) c.args.machine.now c.args.schedule.now.plans c.args.ask.now c.in_ok-before.reply c.ask_planner.new.schedule.plans
    c.in_ok-before.ensures.answers.0 c.requires.can_ask.plan_on.legal.timed

-- the points before are those of the plans but the copy's, which had none
points-before : (g : _) (c : In_ok-before g) → c.in_ok-before.before ≡ points_of (without c.args.ask.now.sheet c.args.schedule.now.plans)
points-before g c =
    c.in_ok-before.ensures.before
    ∙ ap points_of (sym (without-none c.args.ask.now.sheet c.args.schedule.now.plans (new-copy c.args.machine.now c.args.schedule.now.plans c.args.ask.now c.requires.can_ask c.requires.new_copy)))

pub tell_reply-requires-clause-timed : goal.tell_reply-requires-clause-timed
tell_reply-requires-clause-timed g c = timed g (goal.at.tell_reply-requires-clause-timed g c).In_ok-before

pub tell_alone-requires-clause-timed : goal.tell_alone-requires-clause-timed
tell_alone-requires-clause-timed g c = timed g (goal.at.tell_alone-requires-clause-timed g c).In_ok-before

pub returns-then-has_moved-clause-told : goal.returns-then-has_moved-clause-told
returns-then-has_moved-clause-told g c = c.in-Ok.ensures c.args.schedule.now.plans (points-before g (goal.at.returns-then-has_moved-clause-told g c).In_ok-before)

pub with_plan_of-requires : goal.with_plan_of-requires
with_plan_of-requires g c = record {
  others = points-before g (goal.at.with_plan_of-requires g c).In_ok-before ∙ ap points_of (sym (c.in_ok-before.ensures.unmoved (sym c.has_moved.ensures ∙ c.if-has_moved.false)));
}
