use Rattle.std.proofs.Common.{◌∙◌, ◌++◌, ◌∷◌, [], ap, sym}
use Rattle.tp_schedule.specs.declared.parts.Plan.{Plan}
use Rattle.tp_session_standing.proofs.PlanLists.{take-next}
use Rattle.tp_session_standing.proofs.live_standing.plan_rows.Goals as goal

pub plans-preserved : goal.plans-preserved
plans-preserved c =
    let plans = c.args.schedule.now.plans in
    c.in_ok-push.ensures.ok
    ∙ ap (λ (q : Plan). c.plans.rows ++ q ∷ []) c.copy.ensures.same
    ∙ ap (λ ps. ps ++ c.plan_at.result.now ∷ []) c.plans.invariant
    ∙ sym (take-next plans c.plans.at c.plan_at.result.now c.plan_at.ensures.plan)
