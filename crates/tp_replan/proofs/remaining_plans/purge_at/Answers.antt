-- The copy of the plan at the place has this plan.
use Rattle.std.proofs.Common.{◌≡◌, ◌∙◌, ap, sym, subst, set, refl}
use Rattle.std.specs.Option.{IsSome}
use Rattle.tp_schedule.specs.Plans.{change_plan, plan_of}
use Rattle.tp_schedule.specs.declared.parts.Goal.TheVariants.{Purge}
use Rattle.tp_schedule.specs.declared.parts.Plan.{Plan}
use Rattle.tp_event_rules.specs.Fates.{to_purge}
use Rattle.tp_replan.proofs.LeftFacts.{at-place, change-at, planned-at}
use Rattle.tp_replan.proofs.remaining_plans.purge_at.Goals as goal

pub replace-requires-clause-planned : goal.replace-requires-clause-planned
replace-requires-clause-planned c =
    let plans = c.args.schedule.now.plans in
    let planned = planned-at plans c.args.at c.plan_at.result.now c.ordered.ensures.ordered.in_order c.plan_at.ensures.plan in
    subst (λ (q : Plan). IsSome (plan_of q.sheet plans)) (sym c.copy-plan.ensures.same) (subst IsSome (sym planned) refl)

pub returns : goal.returns
returns c =
    let plans = c.args.schedule.now.plans in
    let p = c.plan_at.result.now in
    at-place (λ q. c.replace.new.self.plans ≡ set plans c.args.at (to_purge q)) plans c.args.at p c.plan_at.ensures.plan
    (c.replace.ensures.plans ∙ ap (λ (q : Plan). change_plan q.sheet (λ _. record q { goal = Purge }) plans) c.copy-plan.ensures.same
    ∙ change-at (λ _. to_purge p) plans c.args.at p c.ordered.ensures.ordered.in_order c.plan_at.ensures.plan)
