use Rattle.std.proofs.Common.{ap, arith}
use Rattle.tp_schedule_check.specs.Lines.{point_count}
use Rattle.tp_schedule_check.proofs.ListFacts.{drop-one}
use Rattle.tp_schedule_check.proofs.line_ends.count_points.Goals as goal

pub plans-preserved : goal.plans-preserved
plans-preserved c =
    let plans = c.args.schedule.now.plans in
    let more = ap point_count (drop-one plans c.plans.at c.plan_at.result.now c.plan_at.ensures.plan) in
    let few = c.len.ensures.within in
    record { count = omega arith; within = omega arith }
