use Rattle.std.proofs.Common.{w64, ◌≡◌, ◌∙◌, sym, subst, List, map, None}
use Rattle.std.specs.Prelude.{OnOk, IfErr, ℤ}
use Rattle.std.proofs.lemmas.Int.{to_z-of_z}
use Rattle.tp_bounds.specs.declared.tree.TreeRow.{TreeRow}
use Rattle.tp_machine.specs.declared.parts.State.{State}
use Rattle.tp_schedule.specs.declared.parts.Plan.{Plan}
use Rattle.tp_bound_check.specs.Stands.{AreOrders}
use Rattle.tp_bound_laws.specs.Flaws.{IsFlawOf, bad_node_from}
use Rattle.tp_bound_laws.specs.Places.{goal_states}
use Rattle.tp_bound_laws.specs.Places.Due.{goal as goal_due}
use Rattle.tp_bound_check.proofs.tree_check.check_kept.Goals as goal

pub invariant_of-scene-clause-ending : goal.invariant_of-scene-clause-ending
invariant_of-scene-clause-ending c = c.in-Ok-by_end.ensures

pub invariant_of-scene-clause-in_order : goal.invariant_of-scene-clause-in_order
invariant_of-scene-clause-in_order c =
    let m = c.args.rows.now.machine.now in
    let are = subst (λ (ps : List Plan). AreOrders m ps c.in-Ok.orders.items) c.as_slice.ensures c.in-Ok.ensures in
    subst (AreOrders m c.args.plans.now) (sym c.as_slice-2.ensures.value) are

pub returns-clause-ok : goal.returns-clause-ok
returns-clause-ok c =
    let m = c.args.rows.now.machine.now in let a = c.args.rows.now.ask.now in let ps = c.args.plans.now in let nodes = c.args.tree.now.nodes in
    let G : List State → Type 0 = λ gs. OnOk c.check_nodes.result (bad_node_from m ps a c.args.rows.now.rows.now c.args.limit 0 (map (λ s. goal_due s) gs) nodes ≡ None) in
    let Z : ℤ → Type 0 = λ l. OnOk c.check_nodes.result (bad_node_from m ps a c.args.rows.now.rows.now l 0 (map (λ s. goal_due s) c.as_slice-3.result.now) nodes ≡ None) in
    let R : List TreeRow → Type 0 = λ rs. OnOk c.check_nodes.result (bad_node_from m ps a rs c.args.limit 0 (map (λ s. goal_due s) (goal_states m a.want a.goal)) nodes ≡ None) in
    subst R c.requires.rows (subst G (c.as_slice-3.ensures.value ∙ c.in-Ok-goal_states.ensures) (subst Z (to_z-of_z w64 c.args.limit c.ranges.limit) c.check_nodes.ensures.ok))

pub returns-clause-flaw : goal.returns-clause-flaw
returns-clause-flaw c =
    let m = c.args.rows.now.machine.now in let a = c.args.rows.now.ask.now in let ps = c.args.plans.now in let nodes = c.args.tree.now.nodes in
    let G : List State → Type 0 = λ gs. IfErr c.check_nodes.result (IsFlawOf (bad_node_from m ps a c.args.rows.now.rows.now c.args.limit 0 (map (λ s. goal_due s) gs) nodes)) in
    let Z : ℤ → Type 0 = λ l. IfErr c.check_nodes.result (IsFlawOf (bad_node_from m ps a c.args.rows.now.rows.now l 0 (map (λ s. goal_due s) c.as_slice-3.result.now) nodes)) in
    let R : List TreeRow → Type 0 = λ rs. IfErr c.check_nodes.result (IsFlawOf (bad_node_from m ps a rs c.args.limit 0 (map (λ s. goal_due s) (goal_states m a.want a.goal)) nodes)) in
    subst R c.requires.rows (subst G (c.as_slice-3.ensures.value ∙ c.in-Ok-goal_states.ensures) (subst Z (to_z-of_z w64 c.args.limit c.ranges.limit) c.check_nodes.ensures.flaw))
