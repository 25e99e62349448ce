use Rattle.std.proofs.Common.{◌∙◌, sym, ap, arith, ◌<◌, ◌^◌, ◌+◌, drop}
use Rattle.tp_schedule.specs.Spots.{Spot}
use Rattle.std.specs.Prelude.{ℤ, ◌+ℤ◌}
use Rattle.tp_bound_laws.specs.Chains.{follow, Led}
use Rattle.tp_bound_check.proofs.FollowFacts.{follow-on, follow-lost, least-on, most-on, least-fits, most-fits}
use Rattle.tp_bound_check.proofs.orders.CheckScene.follow.Goals as goal

pub go_on-walk-requires : goal.go_on-walk-requires
go_on-walk-requires c =
    let small : c.hops.k < 2 ^ 32 = let t = c.hops-test.true in let f = c.len-k-end.type_inv in omega (arith, t, f) in
    record { least = least-fits c.hops.k _ small c.hops.invariant.least; most = most-fits c.hops.k _ small c.hops.invariant.most }

pub hops-preserved : goal.hops-preserved
hops-preserved c =
    let s = c.args.self.now in
    let on = follow-on s.rows.machine.now s.plans.now s.rows.ask.now s.limit c.args.stand.now c.hops.k c.hops.walk.at c.hops.walk.sum c.args.hops.now _ c.in-Some.gap c.get.ensures c.in-Some.ensures in
    let F : Spot → ℤ → Led = λ at sum. follow s.rows.machine.now s.plans.now s.rows.ask.now s.limit c.args.stand.now (c.hops.k + 1) at sum (drop (c.hops.k + 1) c.args.hops.now) in
    let g = c.go_on-walk.ensures in
    record {
      follows = c.hops.invariant.follows ∙ on ∙ ap (λ at. F at (c.hops.walk.sum +ℤ c.in-Some.gap.weight)) (sym g.at) ∙ ap (F c.go_on-walk.result.at) (sym g.sum);
      least = least-on c.hops.k _ _ _ c.hops.invariant.least g.weight g.sum;
      most = most-on c.hops.k (2 ^ 34) _ _ _ c.hops.invariant.most g.weight g.sum;
    }

pub returns-in-None-clause-lost : goal.returns-in-None-clause-lost
returns-in-None-clause-lost c =
    let s = c.args.self.now in
    sym (c.hops.invariant.follows ∙ follow-lost s.rows.machine.now s.plans.now s.rows.ask.now s.limit c.args.stand.now c.hops.k c.hops.walk.at c.hops.walk.sum c.args.hops.now _ c.get.ensures c.in-None.ensures)
