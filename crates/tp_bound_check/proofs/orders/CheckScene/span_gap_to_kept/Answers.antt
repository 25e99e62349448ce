use Rattle.std.proofs.Common.{◌∙◌}
use Rattle.tp_bound_check.proofs.PlacedFacts.{span-code}
use Rattle.tp_bound_check.proofs.orders.CheckScene.span_gap_to_kept.Goals as goal

pub returns : goal.returns
returns c = λ ask limit.
    let s = c.args.self.now in
    span-code s.rows.machine.now s.plans.now c.args.branch.now _ c.args.span c.own.result c.own-2.result c.count-count.result c.lo.result c.hi.result c.args.ends.now.before c.args.ends.now.after c.mixed_gap.result ask limit
    c.span.view_is c.requires.next c.rule_law.ensures.some c.count-count.ensures.count c.own.ensures c.own-2.ensures (c.lo.ensures ∙ c.requires.ranked.0) (c.hi.ensures ∙ c.requires.ranked.1) c.requires.mixed c.mixed_gap.ensures
