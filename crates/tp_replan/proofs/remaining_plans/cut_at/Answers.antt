-- The copy of the plan at the place has this plan.
use Rattle.std.proofs.Common.{◌≡◌, ◌≤◌, ◌∙◌, ap, sym, subst, set, length, IsSomeAnd}
use Rattle.tp_schedule.specs.Plans.{cut_to}
use Rattle.tp_event_rules.specs.Moments.{front_of}
use Rattle.tp_replan.proofs.LeftFacts.{at-place, change-at, planned-at}
use Rattle.tp_replan.proofs.remaining_plans.cut_at.Goals as goal

pub cut-requires-clause-planned : goal.cut-requires-clause-planned
cut-requires-clause-planned c =
    let plans = c.args.schedule.now.plans in
    let planned = planned-at plans c.args.at c.plan_at-plan.result.now c.ordered.ensures.ordered.in_order c.plan_at-plan.ensures.plan in
    subst (λ o. IsSomeAnd o (λ p. c.started_count-kept.result ≤ length p.acts)) (sym planned) c.started_count-kept.ensures.within

pub returns : goal.returns
returns c =
    let plans = c.args.schedule.now.plans in
    let p = c.plan_at-plan.result.now in
    at-place (λ q. c.cut.new.self.plans ≡ set plans c.args.at (front_of c.args.now q)) plans c.args.at p c.plan_at-plan.ensures.plan
    (c.cut.ensures.plans ∙ change-at (cut_to c.started_count-kept.result) plans c.args.at p c.ordered.ensures.ordered.in_order c.plan_at-plan.ensures.plan
    ∙ ap (λ kept. set plans c.args.at (cut_to kept p)) c.started_count-kept.ensures.count)
