-- A plan that is put in the place of its copy's, or is new.
use Rattle.std.proofs.Common.{◌∙◌, ap, sym}
use Rattle.tp_schedule.specs.Plans.{put_plan}
use Rattle.tp_schedule.proofs.PlanOrder.{put-in_place, without-none}
use Rattle.tp_log_planner.proofs.told_answer.put_plan.Goals as goal

pub returns-then-planned : goal.returns-then-planned
returns-then-planned c = c.replace.ensures.plans ∙ put-in_place c.args.plan c.args.schedule.now.plans c.ordered.ensures.ordered.in_order c.if-planned.ensures

pub returns-in-Ok : goal.returns-in-Ok
returns-in-Ok c = c.put.ensures.plans ∙ ap (put_plan c.args.plan) (c.in-Ok.ensures.plans ∙ sym (without-none c.args.plan.sheet c.args.schedule.now.plans c.if-planned.ensures))
