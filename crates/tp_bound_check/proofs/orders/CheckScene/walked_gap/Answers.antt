use Rattle.std.proofs.Common.{ap, arith}
use Rattle.tp_bound_laws.specs.Places.{Stand}
use Rattle.tp_bound_check.proofs.TrackFacts.{first-gap, other-gap}
use Rattle.tp_bound_check.proofs.orders.CheckScene.walked_gap.Goals as goal

pub returns-in-Some : goal.returns-in-Some
returns-in-Some c =
    let s = c.args.self.now in let b = c.args.ends.now.before in let a = c.args.ends.now.after in
    let m = c.min-count.ensures in let e = c.choices.ensures in let k = c.count.ensures.count in let n = c.part-part.ensures.count in
    first-gap s.rows.machine.now s.plans.now s.ordered.in_order _ c.args.stand.now.branch c.args.resource c.gap_at-apart.result c.part-part.result.count b a c.part-part.result.track c.in-Some.gap _
    (ap (λ (st : Stand). st.branch) c.stand.view_is) c.part-part.ensures.part.order c.gap_at-apart.ensures.gap (omega (arith, m, e, k, n)) c.in-Some.ensures

pub returns-in-None : goal.returns-in-None
returns-in-None c =
    let s = c.args.self.now in let b = c.args.ends.now.before in let a = c.args.ends.now.after in
    let m = c.min-count.ensures in let e = c.choices.ensures in let k = c.count.ensures.count in let n = c.part-part.ensures.count in
    other-gap s.rows.machine.now s.plans.now s.ordered.in_order _ c.args.stand.now.branch c.args.resource c.gap_at-apart.result c.part-part.result.count b a c.part-part.result.track c.span_gap.result _
    (ap (λ (st : Stand). st.branch) c.stand.view_is) c.part-part.ensures.part.order c.gap_at-apart.ensures.gap (omega (arith, m, e, k, n)) c.in-None.ensures c.span_gap.ensures
