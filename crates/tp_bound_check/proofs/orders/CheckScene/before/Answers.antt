use Rattle.std.proofs.Common.{◌≡◌, ◌∙◌, ap, sym, subst, cond, Bool, ℕ, Option, Some, None}
use Rattle.std.specs.List.{slice_get}
use Rattle.tp_machine.specs.ModuleUse.{action_at}
use Rattle.tp_machine.specs.declared.parts.State.{State}
use Rattle.tp_bound_laws.specs.Places.{state_before}
use Rattle.tp_bound_check.proofs.TakeFacts.{before-found, allowed-is}
use Rattle.tp_bound_check.proofs.orders.CheckScene.before.Goals as goal

pub returns : goal.returns
returns c =
    let m = c.args.self.now.rows.machine.now in let ask = c.args.self.now.rows.ask.now in
    let S : ℕ → Type 0 = λ n. slice_get m.actions n ≡ Some c.get-action.result.now in
    let e = subst S c.from.ensures c.get-action.ensures in
    let r = c.regress.ensures in
    let found = before-found m ask.want (record { 0 = c.args.act }) c.get-action.result.now c.first.result c.regress.result c.action_law.ensures.step e r.steps r.none in
    let allowed = allowed-is m ask.outs (record { 0 = c.args.act }) c.get-action.result.now c.allowed.result e c.allowed.ensures ∙ c.if-not-allowed.false in
    let f : Bool → Option State = λ t. cond t (state_before ask.want c.args.branch.now.first (action_at m c.args.act)) None in
    sym (ap f allowed ∙ ap (λ x. state_before ask.want x (action_at m c.args.act)) (sym c.first.ensures) ∙ found)
