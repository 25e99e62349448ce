-- The plans are plans in time after the answer too.
use Rattle.tp_replan.proofs.AnswerFacts.{timed-after}
use Rattle.tp_replan.proofs.loose_ask.ask_planner.Goals as goal

pub tell_reply-requires-clause-timed : goal.tell_reply-requires-clause-timed
tell_reply-requires-clause-timed g c =
    timed-after (g.P.Planner.rules.spent c.args.planner.now) c.args.machine.now c.args.schedule.now.plans c.args.ask.now c.in_ok-reply.reply c.ask.new.schedule.plans c.in_ok-reply.ensures.answer c.requires.can_ask.plan_on.legal.timed
