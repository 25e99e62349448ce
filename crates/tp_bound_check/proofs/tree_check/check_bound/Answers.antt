use Rattle.std.proofs.Common.{w64, ◌≡◌, subst, List, Result, Ok, Err, None}
use Rattle.std.specs.Prelude.{OnOk, IfOk, IfErr, ℤ}
use Rattle.std.proofs.lemmas.Int.{to_z-of_z}
use Rattle.tp_schedule.specs.declared.parts.Plan.{Plan}
use Rattle.tp_bound_laws.specs.Claims.{limit_of, live_part}
use Rattle.tp_bound_laws.specs.Flaws.{IsFlawOf, tree_flaw}
use Rattle.tp_bound_check.proofs.tree_check.check_bound.Goals as goal

on-ok : {T E : Type 0} (P Q : Type 0) (r : Result T E) → (P → Q) → OnOk r P → IfOk r (λ _. Q)
on-ok P Q (Ok x) f h = f h
on-ok P Q (Err e) f h = tt

pub returns-clause-tree : goal.returns-clause-tree
returns-clause-tree c =
    let m = c.args.machine.now in let a = c.args.ask.now in let t = c.args.tree.now in
    let live = live_part m a c.args.schedule.now.plans in
    let L : ℤ → Type 0 = λ l. OnOk c.check_tree.result (tree_flaw m live a l t ≡ None) in
    let P : List Plan → Type 0 = λ ps. OnOk c.check_tree.result (tree_flaw m ps a c.limit_of-limit.result t ≡ None) in
    let Z : ℤ → Type 0 = λ l. OnOk c.check_tree.result (tree_flaw m c.in-Ok.plans a l t ≡ None) in
    let ok = subst L c.limit_of-limit.ensures (subst P (c.in-Ok.ensures.plans) (subst Z (to_z-of_z w64 c.limit_of-limit.result (record { sfits = c.limit_of-limit.type_inv })) c.check_tree.ensures.ok)) in
    on-ok _ _ c.check_tree.result (c.flawless_trees_are_bound.ensures m live a (limit_of m a c.args.claim) t).1 ok

pub returns-clause-told : goal.returns-clause-told
returns-clause-told c =
    let m = c.args.machine.now in let a = c.args.ask.now in let t = c.args.tree.now in
    let live = live_part m a c.args.schedule.now.plans in
    let L : ℤ → Type 0 = λ l. OnOk c.check_tree.result (tree_flaw m live a l t ≡ None) in
    let P : List Plan → Type 0 = λ ps. OnOk c.check_tree.result (tree_flaw m ps a c.limit_of-limit.result t ≡ None) in
    let Z : ℤ → Type 0 = λ l. OnOk c.check_tree.result (tree_flaw m c.in-Ok.plans a l t ≡ None) in
    let ok = subst L c.limit_of-limit.ensures (subst P (c.in-Ok.ensures.plans) (subst Z (to_z-of_z w64 c.limit_of-limit.result (record { sfits = c.limit_of-limit.type_inv })) c.check_tree.ensures.ok)) in
    on-ok _ _ c.check_tree.result (λ e legal asked. c.trees_show_bounds.ensures.tells m c.args.schedule.now.plans a c.args.claim t legal asked ((c.flawless_trees_are_bound.ensures m live a (limit_of m a c.args.claim) t).1 e)) ok

pub returns-clause-flaw : goal.returns-clause-flaw
returns-clause-flaw c =
    let m = c.args.machine.now in let a = c.args.ask.now in let t = c.args.tree.now in
    let live = live_part m a c.args.schedule.now.plans in
    let L : ℤ → Type 0 = λ l. IfErr c.check_tree.result (IsFlawOf (tree_flaw m live a l t)) in
    let P : List Plan → Type 0 = λ ps. IfErr c.check_tree.result (IsFlawOf (tree_flaw m ps a c.limit_of-limit.result t)) in
    let Z : ℤ → Type 0 = λ l. IfErr c.check_tree.result (IsFlawOf (tree_flaw m c.in-Ok.plans a l t)) in
    subst L c.limit_of-limit.ensures (subst P (c.in-Ok.ensures.plans) (subst Z (to_z-of_z w64 c.limit_of-limit.result (record { sfits = c.limit_of-limit.type_inv })) c.check_tree.ensures.flaw))
