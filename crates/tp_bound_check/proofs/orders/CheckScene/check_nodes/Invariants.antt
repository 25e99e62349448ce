use Rattle.std.proofs.Common.{◌≡◌, ◌≤◌, drop, map, vec_capacity}
use Rattle.tp_bound_laws.specs.Flaws.{bad_node_from}
use Rattle.tp_bound_laws.specs.Places.Due.{goal as goal_due}
use Rattle.tp_bound_check.specs.Looks.{due_on, IsSoundStack}
use Rattle.tp_bound_check.specs.Ranks.{AreRankedFrames}
use Rattle.tp_bound_check.proofs.orders.CheckScene.check_nodes.Given as goal

abbrev pub invariant-nodes : goal.invariant-nodes
invariant-nodes l = record {
  stack : IsSoundStack l.self.rows.machine.now l.stack.items;
  ranked : AreRankedFrames l.self.rows.machine.now l.self.plans.now l.ranks.before l.stack.items;
  room : 322 ≤ vec_capacity l.stack;
  left : bad_node_from l.self.rows.machine.now l.self.plans.now l.self.rows.ask.now l.self.rows.rows.now l.self.limit 0 (map (λ s. goal_due s) l.goals) l.nodes ≡ bad_node_from l.self.rows.machine.now l.self.plans.now l.self.rows.ask.now l.self.rows.rows.now l.self.limit l.at (due_on l.self.rows.machine.now l.self.plans.now l.self.rows.ask.now l.self.rows.rows.now l.self.limit l.goals l.stack.items) (drop l.at l.nodes);
}
