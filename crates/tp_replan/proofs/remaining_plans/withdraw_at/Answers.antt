-- The copy of the plan at the place has this plan.
use Rattle.std.proofs.Common.{◌∙◌, sym, subst, refl}
use Rattle.std.specs.Option.{IsSome}
use Rattle.tp_replan.proofs.LeftFacts.{planned-at, without-at}
use Rattle.tp_replan.proofs.remaining_plans.withdraw_at.Goals as goal

pub withdraw-requires : goal.withdraw-requires
withdraw-requires c = record {
  planned = subst IsSome (sym (planned-at c.args.schedule.now.plans c.args.at c.plan_at.result.now c.ordered.ensures.ordered.in_order c.plan_at.ensures.plan)) refl;
}

pub returns : goal.returns
returns c = c.withdraw.ensures.plans ∙ without-at c.args.schedule.now.plans c.args.at c.plan_at.result.now c.ordered.ensures.ordered.in_order c.plan_at.ensures.plan
