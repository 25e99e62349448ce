-- The plan at the copy's place is the copy's.
use Rattle.std.proofs.Common.{◌≡◌, ap, set, sym, ◌∙◌}
use Rattle.tp_schedule.specs.Plans.{change_plan, is_same_copy}
use Rattle.tp_schedule.specs.declared.parts.Plan.{Plan}
use Rattle.tp_schedule.proofs.CopyFacts.{same_copy-is}
use Rattle.tp_event_rules.specs.Fates.{to_purge}
use Rattle.tp_event_rules.proofs.ListFacts.{find-Some}
use Rattle.tp_replan.proofs.LeftFacts.{change-at, of-place}
use Rattle.tp_replan.proofs.unplanned_copy.aim_at_purge.Goals as goal

pub returns : goal.returns
returns c =
    let p = c.plan_at-plan.result.now in
    let plans = c.args.schedule.now.plans in
    let its = sym c.place_of-at.ensures.plan ∙ c.plan_at-plan.ensures.plan in
    let same = same_copy-is p.sheet c.args.sheet (find-Some (λ q. is_same_copy q.sheet c.args.sheet) plans p its).1 in
    of-place (λ (q : Plan). c.purge_at.new.schedule.plans ≡ set plans c.place_of-at.result (to_purge q)) plans c.place_of-at.result p c.plan_at-plan.ensures.plan c.purge_at.ensures
    ∙ sym (change-at to_purge plans c.place_of-at.result p c.ordered.ensures.ordered.in_order c.plan_at-plan.ensures.plan)
    ∙ ap (λ s. change_plan s to_purge plans) same
