use Rattle.std.proofs.Common.{◌≡◌, Some, subst, sym, ◌∙◌, List}
use Rattle.std.specs.Prelude.{IsSomeAnd}
use Rattle.tp_machine.specs.Steps.{step_of}
use Rattle.tp_machine.specs.declared.parts.State.{State}
use Rattle.tp_machine.specs.declared.parts.HoldRule.{HoldRule}
use Rattle.tp_windows.proofs.RowSteps.{have-rows}
use Rattle.tp_windows.proofs.WaySteps.{in-time, lasts, line, same-next, stands}
use Rattle.tp_windows.specs.RestTables.{rest_of}
use Rattle.tp_windows.specs.Rows.{AllStandIn, HaveRows, IsEnd}
use Rattle.tp_windows.specs.Spans.{IsIn}
use Rattle.tp_windows.specs.WaitingLabels.{IsReached}
use Rattle.tp_windows.specs.declared.gaps.Ends.{Ends}
use Rattle.tp_windows.proofs.way_search.step_on.Goals as goal

pub returns-in_default-step_span-clause-reached : goal.returns-in_default-step_span-clause-reached
returns-in_default-step_span-clause-reached c = λ done plans w is next start end more less step same.
    let leads' : step_of c.get-action.result.now c.args.sought.ask.now.want c.args.from.state ≡ Some c.in-Some.next = sym c.step.ensures ∙ c.in-Some.is in
    let rest' : rest_of c.args.sought.rests.now.rests.items c.in-Some.next ≡ Some c.in-Some-rest.rest = sym c.rest.ensures ∙ c.in-Some-rest.is in
    absurd (subst (λ o. IsSomeAnd o (λ r. IsIn r start end)) c.in_default-step_span.is
    (c.step_span.ensures start end more less
    (in-time c.args.sought c.args.act.0 c.get-action.result.now c.get-action.ensures c.args.from.state plans w is next start end step same c.in-Some.next leads' c.in-Some-rest.rest rest')
    (line c.args.sought c.args.act.0 c.get-action.result.now c.get-action.ensures c.args.from.state plans w is next start end step same c.in-Some.next leads')))

pub place_holds-requires : goal.place_holds-requires
place_holds-requires c = record {
  rows = subst (λ (hs : List HoldRule). HaveRows c.args.sought.rows.now.rows hs) (sym c.as_slice.ensures) (have-rows c.args.sought.machine.now c.args.sought.rows.now.rows c.args.act.0 c.requires.rows c.get-action.result.now c.get-action.ensures);
}

pub returns-clause-reached : goal.returns-clause-reached
returns-clause-reached c = λ done plans w is next start end more less step same.
    let leads' : step_of c.get-action.result.now c.args.sought.ask.now.want c.args.from.state ≡ Some c.in-Some.next = sym c.step.ensures ∙ c.in-Some.is in
    let rest' : rest_of c.args.sought.rests.now.rests.items c.in-Some.next ≡ Some c.in-Some-rest.rest = sym c.rest.ensures ∙ c.in-Some-rest.is in
    let in' = subst (λ o. IsSomeAnd o (λ r. IsIn r start end)) c.in-Some-step_span.is
    (c.step_span.ensures start end more less
    (in-time c.args.sought c.args.act.0 c.get-action.result.now c.get-action.ensures c.args.from.state plans w is next start end step same c.in-Some.next leads' c.in-Some-rest.rest rest')
    (line c.args.sought c.args.act.0 c.get-action.result.now c.get-action.ensures c.args.from.state plans w is next start end step same c.in-Some.next leads')) in
    let holds = subst (λ (hs : List HoldRule). AllStandIn c.args.sought.machine.now c.args.sought.rows.now.rows hs start end) (sym c.as_slice.ensures)
    (stands c.args.sought c.args.act.0 c.get-action.result.now c.get-action.ensures c.args.from.state plans w is next start end step same) in
    let one = c.place_holds.ensures.covered c.if-not-place_holds.false start end in' (lasts c.args.sought c.args.act.0 c.get-action.result.now c.get-action.ensures c.args.from.state plans w is next start end step same) holds in
    let at-end = subst (λ (es : List Ends). IsEnd es end) (sym c.deref.ensures.value) one in
    subst (λ (s : State). IsReached c.offer_ends.new.front s end)
    (same-next c.args.sought c.args.act.0 c.get-action.result.now c.get-action.ensures c.args.from.state plans w is next start end step same c.in-Some.next leads') (c.offer_ends.ensures.reached done end at-end)
