-- The plan at the place is the first of those that are left.
use Rattle.std.proofs.Common.{◌≡◌, ◌+◌, arith, ap, drop, length, sum_by, ◌∙◌}
use Rattle.std.proofs.lemmas.List.Sums.{sum_by-cons}
use Rattle.tp_event_records.specs.RecordNames.{points_of}
use Rattle.tp_event_records.proofs.ListSteps.{drop_from}
use Rattle.tp_event_records.proofs.times.count_points.Goals as goal

pub plans-preserved : goal.plans-preserved
plans-preserved c =
    let plans = c.args.schedule.now.plans in
    let p = c.plan_at.result.now in
    let left = points_of (drop (c.plans.at + 1) plans) in
    let next : sum_by length (points_of (drop c.plans.at plans)) ≡ length p.points + sum_by length left =
    ap (λ ps. sum_by length (points_of ps)) (drop_from plans c.plans.at p c.plan_at.ensures.plan) ∙ sum_by-cons length p.points left in
    record {
      rest = omega (arith, next, c.len.ensures.len, c.plans.invariant.rest);
      few = omega (arith, c.len.ensures.len, c.len.ensures.within, c.plans.invariant.few);
    }
