use Rattle.tp_constraints.specs.Suffixes.{order_in}
use Rattle.tp_bound_check.proofs.TrackFacts.{spanned-gap}
use Rattle.tp_bound_check.proofs.orders.CheckScene.spanned_gap.Goals as goal

pub returns : goal.returns
returns c =
    let s = c.args.self.now in let x = c.args.branch.now.x in
    let order = order_in s.rows.machine.now s.plans.now x c.args.span.rule.resource.0 in
    spanned-gap s.rows.machine.now s.plans.now s.ordered.in_order x _ c.args.span c.args.ends.now.before c.args.ends.now.after c.gap_at-apart.result c.from.result c.from-2.result c.count-count.result c.own.result c.own-2.result c.put-put.result c.gap.result
    c.span.view_is c.requires.next c.requires.span c.rule_law.ensures.some c.count-count.ensures.count c.own.ensures c.own-2.ensures c.from.ensures c.from-2.ensures (c.put-put.ensures.order order c.requires.order) c.gap_at-apart.ensures.gap c.gap.ensures
