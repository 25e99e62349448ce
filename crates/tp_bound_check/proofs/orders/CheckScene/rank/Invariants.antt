use Rattle.std.proofs.Common.{◌≡◌, ◌≤◌}
use Rattle.tp_bound_check.specs.Ranks.{rank_at}
use Rattle.tp_bound_check.specs.Stands.{order_until}
use Rattle.tp_bound_check.proofs.orders.CheckScene.rank.Given as goal

abbrev pub invariant-choices : goal.invariant-choices
invariant-choices l = record {
  within : l.at ≤ l.count;
  same : rank_at l.place (order_until l.self.rows.machine.now l.self.plans.now l.branch l.resource l.count) ≡ rank_at l.left (order_until l.self.rows.machine.now l.self.plans.now l.branch l.resource l.at);
}

abbrev pub decreases-choices : goal.decreases-choices
decreases-choices l = l.at
