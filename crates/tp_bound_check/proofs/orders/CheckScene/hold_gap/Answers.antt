use Rattle.std.proofs.Common.{◌≡◌, ◌∙◌, subst, ap, List, Some, None, position}
use Rattle.std.specs.Str.{bytes_eq}
use Rattle.tp_machine.specs.declared.parts.Resource.{Resource}
use Rattle.tp_bound_laws.specs.Chains.{hold_gap}
use Rattle.tp_bound_check.proofs.orders.CheckScene.hold_gap.Goals as goal

pub returns-in-Some : goal.returns-in-Some
returns-in-Some c =
    let s = c.args.self.now in
    let P : List Resource → Type 0 = λ rs. Some c.in-Some.resource ≡ position (λ r. bytes_eq r.name c.args.name.now) rs in
    let e = subst P c.as_slice.ensures c.in-Some.ensures in
    c.gap_on.ensures ∙ ap (λ o. hold_gap s.rows.machine.now s.plans.now s.rows.ask.now s.limit c.args.stand.now o c.args.before c.args.after) e

pub returns-in-None : goal.returns-in-None
returns-in-None c =
    let s = c.args.self.now in
    let P : List Resource → Type 0 = λ rs. None ≡ position (λ r. bytes_eq r.name c.args.name.now) rs in
    let e = subst P c.as_slice.ensures c.in-None.ensures in
    ap (λ o. hold_gap s.rows.machine.now s.plans.now s.rows.ask.now s.limit c.args.stand.now o c.args.before c.args.after) e
