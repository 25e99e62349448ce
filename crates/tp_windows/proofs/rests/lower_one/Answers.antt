use Rattle.std.proofs.Common.{◌≡◌, Some, None, arith, sym, subst, ap, ◌∙◌}
use Rattle.tp_machine.specs.Steps.{step_of}
use Rattle.tp_machine.specs.declared.parts.State.{State}
use Rattle.tp_routes.specs.Numbers.{state_at}
use Rattle.tp_routes.specs.Tables.{sum_at}
use Rattle.tp_windows.proofs.RestFacts.{in-table, next-known, no-step, number-within}
use Rattle.tp_windows.proofs.rests.lower_one.Goals as goal

pub bounds : goal.bounds
bounds c =
    let leads : step_of c.get-action.result.now c.args.ask.now.want c.state_at.result ≡ Some c.in-Some.next = sym c.step.ensures ∙ c.in-Some.is in
    let there = next-known c.args.machine.now c.args.act.0 c.get-action.result.now c.args.ask.now.want c.state_at.result c.in-Some.next c.get-action.ensures leads in
    let less = number-within c.in-Some.next _ there in
    let same = c.number_of.ensures.number in
    let states = c.requires.states in
    omega (arith, less, same, states)

pub returns-clause-closed : goal.returns-clause-closed
returns-clause-closed c = λ not.
    let leads : step_of c.get-action.result.now c.args.ask.now.want (state_at c.args.number) ≡ Some c.in-Some.next = subst (λ (s : State). step_of c.get-action.result.now c.args.ask.now.want s ≡ Some c.in-Some.next) c.state_at.ensures (sym c.step.ensures ∙ c.in-Some.is) in
    in-table c.args.machine.now c.args.ask.now c.args.rests.now c.args.act.0 c.get-action.result.now c.get-action.ensures c.args.number c.in-Some.next c.in-Some-rests.rest c.longer.result leads
    (ap (sum_at c.args.rests.now) (sym c.number_of.ensures.number) ∙ c.in-Some-rests.is) c.longer.ensures (c.lower.ensures.closed not)

pub returns-in_default-clause-closed : goal.returns-in_default-clause-closed
returns-in_default-clause-closed c = λ not.
    no-step c.args.machine.now c.args.ask.now c.args.rests.now c.args.act.0 c.get-action.result.now c.get-action.ensures c.args.number
    (subst (λ (s : State). step_of c.get-action.result.now c.args.ask.now.want s ≡ None) c.state_at.ensures (sym c.step.ensures ∙ c.in_default.is))
