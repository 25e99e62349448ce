use Rattle.std.proofs.Common.{All, subst, arith, refl, rules}
use Rattle.tp_constraints.proofs.Lists.{contains-get}
use Rattle.tp_schedule.specs.Plans.{IsTimedPlan}
use Rattle.tp_schedule_check.proofs.ListFacts.{All-more, take-whole}
use Rattle.tp_schedule_check.proofs.clash.find_untimed.Goals as goal

pub plans-preserved : goal.plans-preserved
plans-preserved c = All-more (IsTimedPlan c.args.machine.now) c.args.schedule.now.plans c.plans.at c.plan_at-plan.result.now c.plan_at-plan.ensures.plan c.plans.invariant (c.is_timed_plan.ensures.0 c.if-not-is_timed_plan.false)

pub returns : goal.returns
returns c = subst (All (IsTimedPlan c.args.machine.now)) (take-whole c.args.schedule.now.plans c.plans.at (omega arith)) c.plans.invariant

pub returns-then-not-is_timed_plan : goal.returns-then-not-is_timed_plan
returns-then-not-is_timed_plan c =
    record {
      plan = c.plan_at-plan.result.now;
      planned = contains-get c.args.schedule.now.plans c.plans.at c.plan_at-plan.result.now c.plan_at-plan.ensures.plan;
      of = refl;
      not_timed = search rules;
    }
