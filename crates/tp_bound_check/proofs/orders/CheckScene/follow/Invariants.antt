use Rattle.std.proofs.Common.{◌≡◌, ◌*◌, ◌+◌, drop, ◌^◌}
use Rattle.std.specs.Prelude.{pos, ◌≤ℤ◌, neg_ℤ}
use Rattle.tp_bound_laws.specs.Chains.{follow}
use Rattle.tp_bound_check.proofs.orders.CheckScene.follow.Given as goal

abbrev pub invariant-hops : goal.invariant-hops
invariant-hops l = record {
  follows : follow l.self.rows.machine.now l.self.plans.now l.self.rows.ask.now l.self.limit l.stand 0 l.fn.from.at l.fn.from.sum l.hops ≡ follow l.self.rows.machine.now l.self.plans.now l.self.rows.ask.now l.self.limit l.stand l.k l.walk.at l.walk.sum (drop l.k l.hops);
  least : neg_ℤ (pos (20480 * l.k)) ≤ℤ l.walk.sum;
  most : l.walk.sum ≤ℤ pos (2 ^ 34 + 20480 * l.k);
}
