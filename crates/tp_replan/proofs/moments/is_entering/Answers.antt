-- Of a plan to its tray, the last action runs.
use Rattle.tp_replan.proofs.LastRuns.{entering-by}
use Rattle.tp_replan.proofs.moments.is_entering.Goals as goal

pub returns-then-is_tray_plan : goal.returns-then-is_tray_plan
returns-then-is_tray_plan c =
    entering-by c.args.now c.args.plan.now c.len-count.result c.get-start.result c.get-end.result c.is_within-runs.result c.requires c.len-count.ensures.len
    c.get-start.ensures c.get-end.ensures c.if-is_tray_plan.ensures c.is_within-runs.ensures
