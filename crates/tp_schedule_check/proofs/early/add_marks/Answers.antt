use Rattle.std.proofs.Common.{◌∙◌, ◌+◌, ◌-◌, ◌++◌, ◌∷◌, [], ap, length, arith}
use Rattle.tp_schedule_check.specs.Early.{is_exempt, is_low, plan_marks, values_from}
use Rattle.tp_schedule_check.proofs.ListFacts.{next-piece}
use Rattle.tp_schedule_check.proofs.NumberFacts.{values-next}
use Rattle.tp_schedule_check.proofs.early.add_marks.Goals as goal

pub points-preserved : goal.points-preserved
points-preserved c =
    let p = c.args.plan.now in
    let f = is_low c.args.floor (is_exempt c.args.exempt) p in
    let n = length p.acts + 1 in
    let at = c.points.at in
    next-piece c.points.marks.items c.push.new.self.items (f at ∷ []) (values_from f at (n - at)) (values_from f (at + 1) (n - (at + 1))) (c.args.marks.now.items ++ plan_marks c.args.floor (is_exempt c.args.exempt) p)
    c.points.invariant (values-next f at n (omega arith)) (c.in_ok-push.ensures.items ∙ ap (λ b. c.points.marks.items ++ b ∷ []) c.is_low.ensures)
