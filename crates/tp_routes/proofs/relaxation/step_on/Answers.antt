-- An action of the busy state: barred, impossible there, or a step that is offered to the table.
use Rattle.std.proofs.Common.{◌≡◌, true, ◌<◌, length, Some, None, arith, sym, subst, ◌∙◌}
use Rattle.tp_machine.specs.Steps.{step_of}
use Rattle.tp_machine.proofs.MachineFacts.{is_machine}
use Rattle.tp_machine.specs.declared.parts.LocId.{LocId}
use Rattle.tp_routes.specs.Numbers.{state_at}
use Rattle.tp_routes.proofs.RoomFacts.{sum_on, leads_to}
use Rattle.tp_routes.proofs.SpreadFacts.{spread-more, allowed-at, step-barred, step-none, step-there, sums-small, least-small}
use Rattle.tp_routes.proofs.relaxation.step_on.Goals as goal

pub returns-then-not-allowed-clause-spread : goal.returns-then-not-allowed-clause-spread
returns-then-not-allowed-clause-spread c =
    spread-more c.args.machine.now c.args.ask.now c.args.sums.now c.args.waiting.now.items c.args.from.number c.args.act.0 c.args.from.sum c.requires.busy
    (step-barred c.args.machine.now c.args.ask.now c.args.sums.now (state_at c.args.from.number) c.args.from.sum c.args.act.0 c.if-not-allowed.ensures) c.requires.spread

pub overflow_add-from : goal.overflow_add-from
overflow_add-from c =
    let small = sums-small c.args.machine.now c.args.ask.now c.args.sums.now c.args.waiting.now.items c.requires.filling in
    let sum = c.requires.filling.small c.args.from.number c.args.from.sum c.requires.known c.requires.busy in
    let least = least-small c.args.machine.now c.args.act.0 c.get-action.result.now c.get-action.ensures in
    omega arith

pub offer-requires-clause-known : goal.offer-requires-clause-known
offer-requires-clause-known c =
    let leads : step_of c.get-action.result.now c.args.ask.now.want (state_at c.args.from.number) ≡ Some c.in-Some.next = subst (λ q. step_of c.get-action.result.now c.args.ask.now.want q ≡ Some c.in-Some.next) c.state_at.ensures (sym c.step.ensures ∙ c.in-Some.is) in
    subst (λ (l : LocId). l.0 < length c.args.machine.now.locations) (sym (leads_to c.get-action.result.now c.args.ask.now.want (state_at c.args.from.number) c.in-Some.next leads)) ((is_machine c.args.machine.now).ways c.args.act.0 c.get-action.result.now c.get-action.ensures).to_known

pub offer-requires-clause-is_sum : goal.offer-requires-clause-is_sum
offer-requires-clause-is_sum c =
    let leads : step_of c.get-action.result.now c.args.ask.now.want (state_at c.args.from.number) ≡ Some c.in-Some.next = subst (λ q. step_of c.get-action.result.now c.args.ask.now.want q ≡ Some c.in-Some.next) c.state_at.ensures (sym c.step.ensures ∙ c.in-Some.is) in
    let allow = allowed-at c.args.machine.now c.args.ask.now.outs c.args.act.0 c.get-action.result.now true c.get-action.ensures c.if-not-allowed.ensures in
    sum_on c.args.machine.now c.args.ask.now c.args.act c.get-action.result.now (state_at c.args.from.number) c.in-Some.next c.args.from.sum c.get-action.ensures allow leads (c.requires.filling.reached c.args.from.number c.args.from.sum c.requires.known c.requires.busy)

pub offer-requires-clause-small : goal.offer-requires-clause-small
offer-requires-clause-small c =
    let sum = c.requires.filling.small c.args.from.number c.args.from.sum c.requires.known c.requires.busy in
    let least = least-small c.args.machine.now c.args.act.0 c.get-action.result.now c.get-action.ensures in
    omega arith

pub returns-in-Some-clause-spread : goal.returns-in-Some-clause-spread
returns-in-Some-clause-spread c =
    let leads : step_of c.get-action.result.now c.args.ask.now.want (state_at c.args.from.number) ≡ Some c.in-Some.next = subst (λ q. step_of c.get-action.result.now c.args.ask.now.want q ≡ Some c.in-Some.next) c.state_at.ensures (sym c.step.ensures ∙ c.in-Some.is) in
    spread-more c.args.machine.now c.args.ask.now c.offer.new.sums c.offer.new.waiting.items c.args.from.number c.args.act.0 c.args.from.sum (c.offer.ensures.busy c.args.from.number c.args.from.sum (omega arith) c.requires.busy)
    (step-there c.args.machine.now c.args.ask.now c.offer.new.sums (state_at c.args.from.number) c.args.from.sum c.args.act.0 c.get-action.result.now c.in-Some.next c.get-action.ensures leads c.offer.ensures.there)
    (c.offer.ensures.spread c.args.from.number c.args.act.0 c.requires.spread)

pub returns-in-Some-clause-busy : goal.returns-in-Some-clause-busy
returns-in-Some-clause-busy c = c.offer.ensures.busy c.args.from.number c.args.from.sum (omega arith) c.requires.busy

pub returns-in_default-clause-spread : goal.returns-in_default-clause-spread
returns-in_default-clause-spread c =
    let stuck : step_of c.get-action.result.now c.args.ask.now.want (state_at c.args.from.number) ≡ None = subst (λ q. step_of c.get-action.result.now c.args.ask.now.want q ≡ None) c.state_at.ensures (sym c.step.ensures ∙ c.in_default.is) in
    spread-more c.args.machine.now c.args.ask.now c.args.sums.now c.args.waiting.now.items c.args.from.number c.args.act.0 c.args.from.sum c.requires.busy
    (step-none c.args.machine.now c.args.ask.now c.args.sums.now (state_at c.args.from.number) c.args.from.sum c.args.act.0 c.get-action.result.now c.get-action.ensures stuck) c.requires.spread
