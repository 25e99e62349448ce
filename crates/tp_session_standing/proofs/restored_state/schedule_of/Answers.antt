-- The next plan stands behind those before it.
use Rattle.std.proofs.Common.{◌≡◌, ◌∙◌, ap, get_or, rules, take}
use Rattle.tp_schedule.specs.Plans.{plan_of, put_plan}
use Rattle.tp_schedule.specs.declared.parts.Plan.{Plan}
use Rattle.tp_session_standing.proofs.PlanLists.{new-next, put-next}
use Rattle.tp_session_standing.proofs.restored_state.schedule_of.Goals as goal

pub put-requires-clause-new_copy : goal.put-requires-clause-new_copy
put-requires-clause-new_copy c =
    let plans = c.args.plans.now in
    let i = c.loop-plan.plan-index in
    let p : Plan = c.copy.result in
    let is : p ≡ get_or plans i c.plan-item.result = search rules in
    let so-far : c.reserve.new.self.plans ≡ take i plans = search rules in
    ap (λ (q : Plan). plan_of q.sheet c.reserve.new.self.plans) is
    ∙ ap (plan_of (get_or plans i c.plan-item.result).sheet) so-far
    ∙ new-next plans i c.plan-item.result c.loop-plan-test.true c.requires.ordered.in_order

pub loop-plan-preserved : goal.loop-plan-preserved
loop-plan-preserved c =
    let plans = c.args.plans.now in
    let i = c.loop-plan.plan-index in
    let p : Plan = c.copy.result in
    let is : p ≡ get_or plans i c.plan-item.result = search rules in
    let so-far : c.reserve.new.self.plans ≡ take i plans = search rules in
    c.put.ensures.plans
    ∙ ap (λ (q : Plan). put_plan q c.reserve.new.self.plans) is
    ∙ ap (put_plan (get_or plans i c.plan-item.result)) so-far
    ∙ put-next plans i c.plan-item.result c.loop-plan-test.true c.requires.ordered.in_order
