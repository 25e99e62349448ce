use Rattle.std.proofs.Common.{◌≡◌, ◌∙◌, ap, sym, subst, cond, Bool, ℕ, Option, Some, None}
use Rattle.std.specs.List.{slice_get}
use Rattle.tp_machine.specs.ModuleUse.{action_at}
use Rattle.tp_machine.specs.declared.parts.State.{State}
use Rattle.tp_bound_laws.specs.Places.{state_before}
use Rattle.tp_bound_make.proofs.ActFacts.{before-found, allowed-is}
use Rattle.tp_bound_make.proofs.goal_steps.step_back.Goals as goal

pub returns-clause-before : goal.returns-clause-before
returns-clause-before c =
    let m = c.args.scene.machine.now in
    let ask = c.args.scene.ask.now in
    let S : ℕ → Type 0 = λ n. slice_get m.actions n ≡ Some c.get-action.result.now in
    let e = subst S c.from.ensures c.get-action.ensures in
    let r = c.regress.ensures in
    let found = before-found m ask.want c.args.act c.get-action.result.now c.args.state c.regress.result c.action_law.ensures.step e r.steps r.none in
    let allowed = allowed-is m ask.outs c.args.act c.get-action.result.now c.allowed.result e c.allowed.ensures ∙ c.if-not-allowed.false in
    let f : Bool → Option State = λ t. cond t (state_before ask.want c.args.state (action_at m c.args.act.0)) None in
    sym (ap f allowed ∙ found)
