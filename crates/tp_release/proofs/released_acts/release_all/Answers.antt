-- The plan at the place is written with those released that are due.
use Rattle.std.proofs.Common.{◌≡◌, ◌≤◌, ◌∙◌, ap, sym, arith, subst, length, set, Some, IsSomeAnd}
use Rattle.std.specs.Prelude.{slice_get}
use Rattle.std.proofs.lemmas.List.{length-set}
use Rattle.tp_schedule.specs.Plans.{with_released}
use Rattle.tp_event_rules.specs.Moments.{release_until}
use Rattle.tp_event_rules.proofs.ReleasedPlans.{release-within}
use Rattle.tp_release.proofs.Places.{changed-next, unchanged-at}
use Rattle.tp_release.proofs.released_acts.release_all.Goals as goal

pub freeze_at-requires : goal.freeze_at-requires
freeze_at-requires c =
    let p = c.plan_at.result.now in
    let within = release-within c.args.last p c.plan_at.ensures.formed.released in
    let count = c.count_released-count.ensures in
    let fits : c.count_released-count.result ≤ length p.acts = omega arith in
    record { planned = subst (λ o. IsSomeAnd o (λ q. c.count_released-count.result ≤ length q.acts)) (sym c.plan_at.ensures.plan) fits }

pub loop-at-preserved : goal.loop-at-preserved
loop-at-preserved c =
    let old = c.args.schedule.now.plans in
    let plans = c.loop-at.schedule.plans in
    let at = c.loop-at.at in
    let p = c.plan_at.result.now in
    let release = release_until c.args.last in
    let here = c.plan_at.ensures.plan in
    let frozen : c.freeze_at.new.self.plans ≡ set plans at (with_released c.count_released-count.result p) =
    subst (λ o. IsSomeAnd o (λ q. c.freeze_at.new.self.plans ≡ set plans at (with_released c.count_released-count.result q))) here c.freeze_at.ensures.plans in
    let is = unchanged-at release old at p (subst (λ ps. slice_get ps at ≡ Some p) c.loop-at.invariant.plans here) in
    record {
      plans = frozen ∙ ap (λ n. set plans at (with_released n p)) c.count_released-count.ensures ∙ ap (λ ps. set ps at (release p)) c.loop-at.invariant.plans ∙ changed-next release old at p is;
      len = ap length frozen ∙ length-set plans at (with_released c.count_released-count.result p) ∙ c.loop-at.invariant.len;
      spare = c.freeze_at.ensures.spare ∙ c.loop-at.invariant.spare;
    }
