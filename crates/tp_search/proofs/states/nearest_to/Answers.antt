use Rattle.std.proofs.Common.{◌+◌, ◌<◌, IfSome, Some, length, sym, subst}
use Rattle.tp_machine.specs.declared.parts.ActId.{ActId}
use Rattle.tp_routes.specs.Index.{IsNextTo}
use Rattle.tp_routes.proofs.AlongFacts.{ahead, fewer-ahead}
use Rattle.tp_search.proofs.LeadFacts.{number, leads-first, leads-next, led-here}
use Rattle.tp_search.proofs.states.nearest_to.Goals as goal
use Rattle.tp_search.proofs.states.nearest_to.Goals.{In-Some, in-Some-state_before+in-Some-least+then-before-room, in-Some-state_before+in-Some-least+else-before-room, in-Some-state_before+in-None, in_default-state_before}

-- where the chain of actions stands
here : (c : In-Some) → IsNextTo c.args.problem.machine.now.actions c.args.state.loc.0 c.acts.invariant.chain.low (Some c.in-Some.act.0)
here c = led-here c.args.problem.machine.now c.args.state.loc.0 c.acts.invariant.chain.low c.acts.next c.in-Some.act c.in-Some.is c.acts.invariant.chain.leads

pub acts-init : goal.acts-init
acts-init c = record {
  chain = record {
    low = 0;
    leads = leads-first c.args.problem.machine.now c.args.problem.rooms.now.firsts c.args.problem.rooms.now.nexts c.args.state.loc.0 c.requires.posed.leads c.first_to-next.result c.requires.known c.first_to-next.ensures;
  };
  known = tt;
}

pub acts-preserved : goal.acts-preserved
acts-preserved c =
    let count = length c.args.problem.machine.now.actions in
    let h = here (goal.at.acts-preserved c).In-Some in
    record {
      chain = record {
        low = c.in-Some.act.0 + 1;
        leads = leads-next c.args.problem.machine.now c.args.problem.rooms.now.firsts c.args.problem.rooms.now.nexts c.args.state.loc.0 c.requires.posed.leads c.in-Some.act c.next_to-next.result h.1 h.2 c.next_to-next.ensures;
      };
      known = elim c.match-state_before.branch [
        | in-Some-state_before+in-Some-least+then-before-room w ↦ subst (λ o. IfSome o (λ (act : ActId). act.0 < count)) (sym w.nearest-is) h.1
        | in-Some-state_before+in-Some-least+else-before-room w ↦ subst (λ o. IfSome o (λ (act : ActId). act.0 < count)) (sym w.nearest-is) c.acts.invariant.known
        | in-Some-state_before+in-None w ↦ subst (λ o. IfSome o (λ (act : ActId). act.0 < count)) (sym w.nearest-is) c.acts.invariant.known
        | in_default-state_before w ↦ subst (λ o. IfSome o (λ (act : ActId). act.0 < count)) (sym w.nearest-is) c.acts.invariant.known
      ];
    }

pub acts-smaller : goal.acts-smaller
acts-smaller c =
    let h = here (goal.at.acts-smaller c).In-Some in
    let next = leads-next c.args.problem.machine.now c.args.problem.rooms.now.firsts c.args.problem.rooms.now.nexts c.args.state.loc.0 c.requires.posed.leads c.in-Some.act c.next_to-next.result h.1 h.2 c.next_to-next.ensures in
    subst (λ o. ahead (length c.args.problem.machine.now.actions) (number c.next_to-next.result) < ahead (length c.args.problem.machine.now.actions) (number o)) (sym c.in-Some.is)
    (fewer-ahead c.args.problem.machine.now.actions c.args.state.loc.0 c.in-Some.act.0 (number c.next_to-next.result) h.1 next)
