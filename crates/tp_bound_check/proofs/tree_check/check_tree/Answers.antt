use Rattle.std.proofs.Common.{w64, ◌≡◌, ◌∙◌, sym, subst, ℕ, Option, None}
use Rattle.std.specs.Prelude.{OnOk, IfErr, ℤ}
use Rattle.std.proofs.lemmas.Int.{to_z-of_z}
use Rattle.tp_bound_laws.specs.Flaws.{IsFlawOf, bad_node_from, row_flaw_or}
use Rattle.tp_bound_laws.specs.Trees.{goals_due}
use Rattle.tp_bound_check.proofs.tree_check.check_tree.Goals as goal

pub returns-in-Ok-None-clause-ok : goal.returns-in-Ok-None-clause-ok
returns-in-Ok-None-clause-ok c =
    let m = c.args.machine.now in let a = c.args.ask.now in let ps = c.args.plans.now in let t = c.args.tree.now in
    let P : Option ℕ → Type 0 = λ o. OnOk c.check_kept.result (row_flaw_or (bad_node_from m ps a t.rows c.args.limit 0 (goals_due m ps a t.rows c.args.limit) t.nodes) o ≡ None) in
    let Z : ℤ → Type 0 = λ l. OnOk c.check_kept.result (bad_node_from m ps a t.rows l 0 (goals_due m ps a t.rows l) t.nodes ≡ None) in
    subst P (sym c.in-Ok-None.field-0-is ∙ c.in-Ok-None.ensures) (subst Z (to_z-of_z w64 c.args.limit c.ranges.limit) c.check_kept.ensures.ok)

pub returns-in-Ok-None-clause-flaw : goal.returns-in-Ok-None-clause-flaw
returns-in-Ok-None-clause-flaw c =
    let m = c.args.machine.now in let a = c.args.ask.now in let ps = c.args.plans.now in let t = c.args.tree.now in
    let P : Option ℕ → Type 0 = λ o. IfErr c.check_kept.result (IsFlawOf (row_flaw_or (bad_node_from m ps a t.rows c.args.limit 0 (goals_due m ps a t.rows c.args.limit) t.nodes) o)) in
    let Z : ℤ → Type 0 = λ l. IfErr c.check_kept.result (IsFlawOf (bad_node_from m ps a t.rows l 0 (goals_due m ps a t.rows l) t.nodes)) in
    subst P (sym c.in-Ok-None.field-0-is ∙ c.in-Ok-None.ensures) (subst Z (to_z-of_z w64 c.args.limit c.ranges.limit) c.check_kept.ensures.flaw)
