use Rattle.std.proofs.Common.{arith}
use Rattle.std.proofs.lemmas.Grind.{common_steps}
use Rattle.tp_schedule_check.specs.Early.{is_exempt}
use Rattle.tp_schedule_check.proofs.NumberFacts.{marks-more}
use Rattle.tp_schedule_check.proofs.early.low_marks.Goals as goal

pub plans-preserved : goal.plans-preserved
plans-preserved c =
    marks-more c.args.floor (is_exempt c.args.exempt) c.args.schedule.now.plans c.plans.at c.plan_at.result.now c.plans.marks.items c.add_marks.new.marks.items c.plan_at.ensures.plan c.plans.invariant c.in_ok-add_marks.ensures

pub returns : goal.returns
returns c = grind (arith, common_steps)
