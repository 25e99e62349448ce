-- The schedule is empty yet as the copy is asked for.
use Rattle.std.proofs.Common.{◌∙◌, sym, subst}
use Rattle.tp_schedule.specs.Answers.{IsAlternative}
use Rattle.tp_schedule.specs.PlannerAnswers.{CanAsk}
use Rattle.rows_sessions.proofs.ClockFacts.{can_ask-first, plan_on-first}
use Rattle.rows_sessions.proofs.clocks.plan_alone.Goals as goal

pub answer-requires-clause-can : goal.answer-requires-clause-can
answer-requires-clause-can g c =
    subst (λ plans. CanAsk c.args.machine.now plans c.args.ask.now) (sym (c.reserve.ensures.plans ∙ c.requires.empty))
    (can_ask-first c.args.machine.now c.args.ask.now c.requires.now c.requires.new c.requires.goal)

pub returns-in-Planned : goal.returns-in-Planned
returns-in-Planned g c =
    plan_on-first c.args.machine.now c.args.ask.now c.answer.new.schedule.plans c.requires.now c.requires.new
    (subst (λ plans. IsAlternative c.args.machine.now plans c.args.ask.now c.answer.new.schedule.plans) (c.reserve.ensures.plans ∙ c.requires.empty) c.in-Planned.ensures.answer.0.alternative)
