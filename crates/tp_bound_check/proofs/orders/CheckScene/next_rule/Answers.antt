use Rattle.std.proofs.Common.{◌-◌, ap, arith}
use Rattle.tp_bound_check.proofs.LookFacts.{rule-found}
use Rattle.tp_bound_check.proofs.orders.CheckScene.next_rule.Goals as goal

pub returns : goal.returns
returns c =
    let cs = c.args.branch.now.x.choices in
    let n = c.count-count.ensures.count in let f = c.if-count-eq0.false in
    rule-found c.args.self.now.rows.machine.now cs c.in-Some.act c.places-places.result.now (c.count-count.result - 1) _ (omega (arith, n, f)) (ap (λ k. k - 1) n) c.in-Some.ensures c.places-places.ensures c.rule_at.ensures
