-- The plan at the copy's place is the copy's.
use Rattle.std.proofs.Common.{◌≡◌, ◌≤◌, ◌<◌, ◌++◌, IsSomeAnd, length, set, arith, ap, sym, subst, ◌∙◌}
use Rattle.tp_schedule.specs.Plans.{IsTimedPlan, change_plan, is_same_copy, with_released}
use Rattle.tp_schedule.specs.declared.parts.Plan.{Plan}
use Rattle.tp_schedule.specs.declared.parts.SheetId.{SheetId}
use Rattle.tp_schedule.proofs.CopyFacts.{same_copy-is}
use Rattle.tp_event_rules.specs.LiveStates.{seen}
use Rattle.tp_event_rules.specs.Loops.{told_releases}
use Rattle.tp_event_rules.specs.Moments.{release_until}
use Rattle.tp_event_rules.proofs.ListFacts.{find-Some}
use Rattle.tp_event_rules.proofs.ReleasedPlans.{release-within}
use Rattle.tp_replan.proofs.LeftFacts.{at-place, change-at, of-place}
use Rattle.tp_replan.proofs.early_release.release.Goals as goal

pub tell_releases-requires-clause-timed : goal.tell_releases-requires-clause-timed
tell_releases-requires-clause-timed c =
    let its = sym c.place_of-at.ensures.plan ∙ c.plan_at-plan.ensures.plan in
    subst (λ o. IsSomeAnd o (IsTimedPlan c.args.machine.now)) its c.requires.planned

pub tell_releases-requires-clause-known : goal.tell_releases-requires-clause-known
tell_releases-requires-clause-known c =
    let p = c.plan_at-plan.result.now in
    let plans = c.args.state.now.schedule.plans in
    let its = sym c.place_of-at.ensures.plan ∙ c.plan_at-plan.ensures.plan in
    let same = same_copy-is p.sheet c.args.sheet (find-Some (λ q. is_same_copy q.sheet c.args.sheet) plans p its).1 in
    subst (λ (x : SheetId). x.job < length c.args.state.now.lines.jobs) (sym same) c.requires.job

pub freeze_at-requires : goal.freeze_at-requires
freeze_at-requires c =
    let p = c.plan_at-plan.result.now in
    let plans = c.args.state.now.schedule.plans in
    record {
      planned = at-place (λ (q : Plan). c.in_ok-count.count ≤ length q.acts) plans c.place_of-at.result p c.plan_at-plan.ensures.plan
          (let within = release-within c.args.last p c.plan_at-plan.ensures.formed.released in omega (arith, within, c.in_ok-count.ensures.count));
    }

pub returns-clause-told : goal.returns-clause-told
returns-clause-told c =
    let m = c.args.machine.now in
    let its = sym c.place_of-at.ensures.plan ∙ c.plan_at-plan.ensures.plan in
    c.in_ok-count.ensures.told
    ∙ ap (λ o. c.args.notes.now.items ++ told_releases m c.args.state.now.lines.jobs c.args.last o) (sym its)

pub returns-clause-state : goal.returns-clause-state
returns-clause-state c =
    let p = c.plan_at-plan.result.now in
    let plans = c.args.state.now.schedule.plans in
    let at = c.place_of-at.result in
    let its = sym c.place_of-at.ensures.plan ∙ c.plan_at-plan.ensures.plan in
    let same = same_copy-is p.sheet c.args.sheet (find-Some (λ q. is_same_copy q.sheet c.args.sheet) plans p its).1 in
    let frozen = of-place (λ (q : Plan). c.freeze_at.new.self.plans ≡ set plans at (with_released c.in_ok-count.count q)) plans at p
    c.plan_at-plan.ensures.plan c.freeze_at.ensures.plans in
    let left = frozen ∙ ap (λ n. set plans at (with_released n p)) c.in_ok-count.ensures.count
    ∙ sym (change-at (release_until c.args.last) plans at p c.ordered.ensures.ordered.in_order c.plan_at-plan.ensures.plan)
    ∙ ap (λ s. change_plan s (release_until c.args.last) plans) same in
    ap (λ ps. record (seen c.args.state.now) { plans = ps }) left
