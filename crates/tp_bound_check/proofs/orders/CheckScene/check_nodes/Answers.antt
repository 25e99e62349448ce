use Rattle.std.proofs.Common.{◌∙◌, sym, subst, Option, drop, arith}
use Rattle.std.proofs.lemmas.Grind.{common_steps}
use Rattle.tp_bound_laws.specs.Flaws.{IsFlawOf, bad_node_from}
use Rattle.tp_bound_laws.specs.declared.claim.TreeFlaw.{TreeFlaw}
use Rattle.tp_bound_check.specs.Looks.{due_on}
use Rattle.tp_bound_check.proofs.NodeFacts.{node-on, node-bad}
use Rattle.tp_bound_check.proofs.orders.CheckScene.check_nodes.Goals as goal

pub returns-in-Err-check_node-clause-flaw : goal.returns-in-Err-check_node-clause-flaw
returns-in-Err-check_node-clause-flaw c =
    let s = c.args.self.now in
    let before = due_on s.rows.machine.now s.plans.now s.rows.ask.now s.rows.rows.now s.limit c.args.goals.now c.nodes.stack.items in
    let bad = node-bad s.rows.machine.now s.plans.now s.rows.ask.now s.rows.rows.now s.limit c.nodes.at before c.args.nodes.now c.get.result.now c.in-Err-check_node.fault c.get.ensures c.in-Err-check_node.ensures.fault in
    let F : TreeFlaw → Type 0 = λ f. IsFlawOf (bad_node_from s.rows.machine.now s.plans.now s.rows.ask.now s.rows.rows.now s.limit c.nodes.at before (drop c.nodes.at c.args.nodes.now)) f in
    let P : Option TreeFlaw → Type 0 = λ o. IsFlawOf o c.flaw_of.result in
    subst P (sym c.nodes.invariant.left) (subst F (sym c.flaw_of.ensures) bad)

pub nodes-preserved : goal.nodes-preserved
nodes-preserved c =
    let s = c.args.self.now in
    let before = due_on s.rows.machine.now s.plans.now s.rows.ask.now s.rows.rows.now s.limit c.args.goals.now c.nodes.stack.items in
    let after = due_on s.rows.machine.now s.plans.now s.rows.ask.now s.rows.rows.now s.limit c.args.goals.now c.check_node.new.stack.items in
    record {
      stack = c.in-Ok-check_node.ensures.stack;
      ranked = c.in-Ok-check_node.ensures.ranked;
      room = c.check_node.ensures.room;
      left = c.nodes.invariant.left ∙ node-on s.rows.machine.now s.plans.now s.rows.ask.now s.rows.rows.now s.limit c.nodes.at before after c.args.nodes.now c.get.result.now c.get.ensures c.in-Ok-check_node.ensures.ok;
    }

pub returns-clause-flaw : goal.returns-clause-flaw
returns-clause-flaw c = grind (arith, common_steps)
